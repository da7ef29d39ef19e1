-- The quanta of a row, issued one after another.
use Rattle.std.proofs.Common.{◌≡◌, ◌≢◌, ℕ, zero, suc, ◌+◌, ◌<◌, ◌≤◌, ◌==◌, Bool, true, false, Option, None, Some, List, [], ◌∷◌, length, drop, All, refl, sym, ap, ◌∙◌, subst, arith}
use Rattle.std.specs.Prelude.{if◌then◌else◌}
use Rattle.std.proofs.lemmas.Bool.{ne_eqb}
use Rattle.std.proofs.lemmas.List.{drop_more}
use Rattle.std.proofs.lemmas.List.Elements.{All-head, All-tail}
use mathlib.Core.Option.{some}
use lib.ListN.{get_elem?}
use Rattle.pf_order.specs.declared.pick.Pick.{Pick}
use Rattle.pf_place.specs.Occupancy.{sitter}
use Rattle.pf_scenario.specs.System.{System}
use Rattle.pf_desk.specs.declared.entry.Entry.{Entry}
use Rattle.pf_board.specs.declared.quantum.Quantum.{Quantum}
use Rattle.pf_board.specs.Quanta.{times, issues, is_same, one_if, quanta_without}
use Rattle.pf_board.specs.Passes.{Keeping, IsIn, but}
use Rattle.pf_board.specs.Words.{FitsWord}
use Rattle.pf_board.proofs.Weights.{same_quantum, same_self}
use Rattle.pf_desk_board.specs.Histories.{quantum_of, quanta_from, quanta_of}
use Rattle.pf_desk_board.specs.Issuing.{AwaitsIssue}

-- different quanta
differ_by : (q r : Quantum) (b : Bool) → is_same q r ≡ b → q ≢ r → one_if b ≡ 0
differ_by q r true e ne = absurd (ne (same_quantum q r e))
differ_by q r false e ne = refl

pub differ : (q r : Quantum) → q ≢ r → one_if (is_same q r) ≡ 0
differ q r ne = differ_by q r (is_same q r) refl ne

-- the quanta from processor n on, whatever its number is written as
from_same : (slot n m : ℕ) (row : List (Option Pick)) (q : Quantum) → n ≡ m → times q (quanta_from slot n row) ≡ times q (quanta_from slot m row)
from_same slot n m row q e = ap (λ k. times q (quanta_from slot k row)) e

-- the quanta of places before processor k + p's are others than its own
pub before_place : (slot k p : ℕ) (row : List (Option Pick)) (q : Quantum) → k + p ≤ q.processor →
    times q (quanta_from slot k row) ≡ times q (quanta_from slot (k + p) (drop p row))
before_place slot k zero row q le = from_same slot k (k + 0) row q (omega arith)
before_place slot k (suc p) [] q le = refl
before_place slot k (suc p) (None ∷ row) q le =
    before_place slot (suc k) p row q (omega arith) ∙ from_same slot (suc k + p) (k + suc p) (drop p row) q (omega arith)
before_place slot k (suc p) (Some pick ∷ row) q le =
    let here = differ q (quantum_of slot k pick) (λ e. absurd (let same : q.processor ≡ k = ap (λ x. x.processor) e in omega arith)) in
    let rest : times q (quanta_from slot (suc k) row) ≡ times q (quanta_from slot (k + suc p) (drop p row)) =
    before_place slot (suc k) p row q (omega arith) ∙ from_same slot (suc k + p) (k + suc p) (drop p row) q (omega arith) in
    omega (arith, here, rest)

next_same : (slot p : ℕ) (row : List (Option Pick)) → quanta_from slot (suc p) row ≡ quanta_from slot (p + 1) row
next_same slot p row = let e : suc p ≡ p + 1 = omega arith in ap (λ n. quanta_from slot n row) e

-- the quanta from an idle place on are those from the next one on
pub from_idle : (slot p : ℕ) (row : List (Option Pick)) → p < length row → sitter row p ≡ None →
    quanta_from slot p (drop p row) ≡ quanta_from slot (p + 1) (drop (p + 1) row)
from_idle slot p row lt idle =
    ap (quanta_from slot p) (drop_more row p None lt)
    ∙ (ap (λ o. quanta_from slot p (o ∷ drop (p + 1) row)) idle ∙ next_same slot p (drop (p + 1) row))

-- from a busy one on there is its own too
pub from_busy : (slot p : ℕ) (row : List (Option Pick)) (pick : Pick) → p < length row → sitter row p ≡ Some pick →
    quanta_from slot p (drop p row) ≡ quantum_of slot p pick ∷ quanta_from slot (p + 1) (drop (p + 1) row)
from_busy slot p row pick lt busy =
    ap (quanta_from slot p) (drop_more row p None lt)
    ∙ (ap (λ o. quanta_from slot p (o ∷ drop (p + 1) row)) busy
    ∙ ap (λ qs. quantum_of slot p pick ∷ qs) (next_same slot p (drop (p + 1) row)))

-- the first is issued
pub without_first : (q : Quantum) (qs : List Quantum) → quanta_without q (q ∷ qs) ≡ qs
without_first q qs = ap (λ b. if b then qs else q ∷ quanta_without q qs) (same_self q)

pub stands_first : (q : Quantum) (qs : List Quantum) → 0 < times q (q ∷ qs)
stands_first q qs = let s = ap one_if (same_self q) in omega arith

-- other words stay known to be empty
still_step : (b : Bool) (y x : ℕ) (xs : List ℕ) → IsIn xs x → IsIn (if b then xs else y ∷ xs) x
still_step true y x xs there = there
still_step false y x xs there = (suc there.0, there.1)

still_at : (p x : ℕ) (xs : List ℕ) (k : ℕ) → x ≢ p → get_elem? xs k ≡ some x → IsIn (but p xs) x
still_at p x [] k ne there = (k, there)
still_at p x (y ∷ xs) zero ne there =
    let same : y ≡ x = cc in
    subst (λ (b : Bool). IsIn (if b then but p xs else y ∷ but p xs) x) (sym (ne_eqb y p (λ e. ne (sym same ∙ e)))) (0, there)
still_at p x (y ∷ xs) (suc k) ne there = still_step (y == p) y x (but p xs) (still_at p x xs k ne there)

pub still_in : (p x : ℕ) (xs : List ℕ) → x ≢ p → IsIn xs x → IsIn (but p xs) x
still_in p x xs ne there = still_at p x xs there.0 ne there.1

-- what holds of each quantum of a list holds of one that stands there
holds_by : (P : Quantum → Type 0) (q x : Quantum) (b : Bool) → is_same q x ≡ b → P x → (one_if b ≡ 0 → P q) → P q
holds_by P q x true e here rest = subst P (sym (same_quantum q x e)) here
holds_by P q x false e here rest = rest refl

holds : (P : Quantum → Type 0) (q : Quantum) (qs : List Quantum) → All P qs → 0 < times q qs → P q
holds P q [] all there = absurd (omega arith)
holds P q (x ∷ qs) all there =
    holds_by P q x (is_same q x) refl (All-head P x qs all)
    (λ none. holds P q qs (All-tail P x qs all) (omega (arith, none)))

-- the quantum of a busy place may be issued once those of the places before it were
pub record IsIssuable (keeper : Keeping Entry System) (q : Quantum) : Type 0 where
  pub fits : FitsWord q
  pub unissued : times q (issues quanta_of keeper.seen) ≡ times q keeper.left

pub issuable : (m slot p : ℕ) (row : List (Option Pick)) (pick : Pick) (k0 k : Keeping Entry System) → AwaitsIssue m k0 slot row → p < m → Some pick ≡ sitter row p →
    k.left ≡ quanta_from slot p (drop p row) → k.seen ≡ k0.seen → IsIssuable k (quantum_of slot p pick)
issuable m slot p row pick k0 k awaits lt sits left seen =
    let q = quantum_of slot p pick in
    let here : p < length row = omega (arith, awaits.places) in
    let all : times q (quanta_from slot 0 row) ≡ times q (quanta_from slot p (drop p row)) =
    before_place slot 0 p row q (omega arith) ∙ from_same slot (0 + p) p (drop p row) q (omega arith) in
    let first = ap (times q) (from_busy slot p row pick here (sym sits)) in
    let there = stands_first q (quanta_from slot (p + 1) (drop (p + 1) row)) in record {
      fits = holds FitsWord q (quanta_from slot 0 row) awaits.fit (omega (arith, all, first, there));
      unissued = ap (λ log. times q (issues quanta_of log)) seen ∙ (awaits.fresh q refl ∙ (all ∙ ap (times q) (sym left)));
    }

-- the keeper is as at first, but for what is left and which words are empty
pub same_but : (k0 k k' : Keeping Entry System) (left : List Quantum) (empty : List ℕ) → k ≡ record k0 { left = k.left; empty = k.empty } →
    k' ≡ record k { left = left; empty = empty } → k' ≡ record k0 { left = k'.left; empty = k'.empty }
same_but k0 k k' left empty same after =
    let board = ap (λ x. x.board) same in
    let terms = ap (λ x. x.terms) same in
    let seen = ap (λ x. x.seen) same in
    let loads = ap (λ x. x.loads) same in
    let has = ap (λ x. x.has_turn) same in
    let l = sym (ap (λ x. x.left) after) in
    let e = sym (ap (λ x. x.empty) after) in
    after ∙ (λ i. record { board = board i; terms = terms i; seen = seen i; loads = loads i; has_turn = has i; empty = e i; left = l i })

pub left_after : (m slot p : ℕ) (row : List (Option Pick)) (pick : Pick) (k k' : Keeping Entry System) → length row ≡ m → p < m → Some pick ≡ sitter row p →
    k.left ≡ quanta_from slot p (drop p row) → k'.left ≡ quanta_without (quantum_of slot p pick) k.left →
    k'.left ≡ quanta_from slot (p + 1) (drop (p + 1) row)
left_after m slot p row pick k k' long lt sits left after =
    let q = quantum_of slot p pick in
    after ∙ (ap (quanta_without q) (left ∙ from_busy slot p row pick (omega (arith, long)) (sym sits)) ∙ without_first q (quanta_from slot (p + 1) (drop (p + 1) row)))

pub empty_after : (m p : ℕ) (k k' : Keeping Entry System) → ((x : ℕ) → p ≤ x → x < m → IsIn k.empty x) → k'.empty ≡ but p k.empty →
    (x : ℕ) → p + 1 ≤ x → x < m → IsIn k'.empty x
empty_after m p k k' before after x le lt =
    subst (λ (xs : List ℕ). IsIn xs x) (sym after) (still_in p x k.empty (λ e. absurd (omega arith)) (before x (omega arith) lt))
