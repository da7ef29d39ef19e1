-- A slot's denials are an equation over the finished record: each event's rule is asked at its place, with whatever is
-- among the denials left out. Here that is related to judging one event after another. It is the only place where it
-- matters that the numbers of events differ.
-- Of a run's next slot: `next_from_equation` and `next_from_one_by_one` lead from the one manner to the other, `next_slot`
-- gives IsNextSlot from what was judged and picked, and `along_run` is induction over the slots of a run. Of any lists
-- before and after: `denials_from_equation` and `denials_from_one_by_one`.
use Rattle.std.proofs.Common.{◌≡◌, ℕ, zero, suc, ◌+◌, ◌≤◌, ◌⊎◌, Bool, true, false, not, ◌||◌, ◌==◌, cond, List, [], ◌∷◌, ◌++◌, length, take, filter, get_or, Option, None, Some, is_some, inl, inr, ⊎_elim, refl, sym, ap, ap₂, ◌∙◌, subst, subst₂, append-nil, append_assoc, arith, eq-eqb}
use Rattle.std.proofs.Math.Bool.{or-false}
use Rattle.std.specs.List.{list_any}
use Rattle.std.proofs.lemmas.Bool.{or_from, or_parts, or_left, or_right, ne_eqb, false_from_ne_true, true≢false}
use Rattle.std.proofs.lemmas.List.{length-take-le, take-take, get_or-take, take_all, take_more, nil_from_length}
use Rattle.std.proofs.lemmas.List.Folds.{list_any-append}
use Rattle.std.proofs.lemmas.List.Elements.{filter-append}
use Rattle.pf_scenario.specs.System.{System}
use Rattle.pf_scenario.specs.Scenario.{Plan, is_held, events_of, past}
use Rattle.pf_scenario.specs.Edit.{IsScenario}
use Rattle.pf_scenario.specs.declared.event.Numbered.{Numbered}
use Rattle.pf_admit.specs.declared.denial.Denial.{Denial}
use Rattle.pf_run.specs.declared.denied.Denied.{Denied}
use Rattle.pf_run.specs.Record.{Slot, denials_of, is_denied, in_force}
use Rattle.pf_run.specs.Denials.{denial_of, denied_for, denials_behind}
use Rattle.pf_run.specs.Run.{events_in_force, ArePicks, IsNextSlot, IsRun}
use Rattle.pf_run.specs.Computed.{with_event, after_events, denials_among}
use Rattle.pf_run.proofs.Numbers.{AreApart, is_held-append, apart_right, apart_across, apart_past}

-- an event of this number is among the denials
abbrev pub has_denial : List Denied → ℕ → Bool
has_denial denials id = list_any (λ d. d.id == id) denials

-- of two lists of denials
pub has_denial-append : (new rest : List Denied) (id : ℕ) → has_denial (new ++ rest) id ≡ (has_denial new id || has_denial rest id)
has_denial-append new rest id = list_any-append (λ d. d.id == id) new rest

-- an event's own denial, before those of events of other numbers
other_first : (x : Numbered) (t : ℕ) (o : Option Denial) (rest : List Denied) (id : ℕ) → (x.id == id) ≡ false →
    has_denial (denied_for x t o ++ rest) id ≡ has_denial rest id
other_first x t None rest id other = refl
other_first x t (Some denial) rest id other = ap (λ b. b || has_denial rest id) other

own_first : (x : Numbered) (t : ℕ) (o : Option Denial) (rest : List Denied) → has_denial rest x.id ≡ false →
    has_denial (denied_for x t o ++ rest) x.id ≡ is_some o
own_first x t None rest none = none
own_first x t (Some denial) rest none = or_left _ _ (eq-eqb x.id x.id refl)

-- what is denied of some events has their numbers
pub failing_within : (s : System) (r : List Slot) (denials : List Denied) (before xs : List Numbered) (id : ℕ) →
    is_held xs id ≡ false → has_denial (denials_behind s r denials before xs) id ≡ false
failing_within s r denials before [] id none = refl
failing_within s r denials before (x ∷ xs) id none =
    let parts = or_parts (x.id == id) (is_held xs id) none in
    other_first x (length r) (denial_of s r (in_force denials before) x.event) (denials_behind s r denials (before ++ x ∷ []) xs) id parts.0
    ∙ failing_within s r denials (before ++ x ∷ []) xs id parts.1

pub among_within : (s : System) (r : List Slot) (events_in_force xs : List Numbered) (id : ℕ) →
    is_held xs id ≡ false → has_denial (denials_among s r events_in_force xs) id ≡ false
among_within s r events_in_force [] id none = refl
among_within s r events_in_force (x ∷ xs) id none =
    let parts = or_parts (x.id == id) (is_held xs id) none in
    let o = denial_of s r events_in_force x.event in
    other_first x (length r) o (denials_among s r (with_event events_in_force x o) xs) id parts.0
    ∙ among_within s r (with_event events_in_force x o) xs id parts.1

-- the events in force after one more: all of those before, and it, unless its rule fails
with_judged : (denials : List Denied) (before : List Numbered) (x : Numbered) (o : Option Denial) →
    has_denial denials x.id ≡ is_some o →
    in_force denials (before ++ x ∷ []) ≡ with_event (in_force denials before) x o
unfolding in_force
with_judged denials before x None own =
    filter-append (λ y. not (is_denied denials y)) before (x ∷ [])
    ∙ ap (λ b. filter (λ y. not (is_denied denials y)) before ++ cond (not b) (x ∷ []) []) own
with_judged denials before x (Some denial) own =
    filter-append (λ y. not (is_denied denials y)) before (x ∷ [])
    ∙ ap (λ b. filter (λ y. not (is_denied denials y)) before ++ cond (not b) (x ∷ []) []) own
    ∙ append-nil (filter (λ y. not (is_denied denials y)) before)

-- of these events the denials have just those that are new
abbrev pub AreNew : List Denied → List Denied → List Numbered → Type 0
AreNew denials new xs = (id : ℕ) → is_held xs id ≡ true → has_denial denials id ≡ has_denial new id

new_first : (denials rest : List Denied) (x : Numbered) (xs : List Numbered) (t : ℕ) (o : Option Denial) →
    has_denial rest x.id ≡ false → AreNew denials (denied_for x t o ++ rest) (x ∷ xs) →
    has_denial denials x.id ≡ is_some o
new_first denials rest x xs t o none new =
    new x.id (or_left _ _ (eq-eqb x.id x.id refl)) ∙ own_first x t o rest none

apart_id : (a b : ℕ) (xs : List Numbered) → is_held xs a ≡ false → is_held xs b ≡ true → (a == b) ≡ false
apart_id a b xs none some = ne_eqb a b (λ e. true≢false (sym some ∙ ap (is_held xs) (sym e) ∙ none))

new_rest : (denials rest : List Denied) (x : Numbered) (xs : List Numbered) (t : ℕ) (o : Option Denial) →
    is_held xs x.id ≡ false → AreNew denials (denied_for x t o ++ rest) (x ∷ xs) → AreNew denials rest xs
new_rest denials rest x xs t o apart new id held =
    new id (or_right _ _ held) ∙ other_first x t o rest id (apart_id x.id id xs apart held)

-- the denials and what is in force after these events, in both manners
pub record AreJudged (s : System) (r : List Slot) (denials : List Denied) (before xs : List Numbered) : Type 0 where
  pub denied : denials_behind s r denials before xs ≡ denials_among s r (in_force denials before) xs
  pub stands : in_force denials (before ++ xs) ≡ after_events s r (in_force denials before) xs

judged_more : (s : System) (r : List Slot) (denials : List Denied) (before : List Numbered) (x : Numbered) (xs : List Numbered) →
    has_denial denials x.id ≡ is_some (denial_of s r (in_force denials before) x.event) →
    AreJudged s r denials (before ++ x ∷ []) xs → AreJudged s r denials before (x ∷ xs)
judged_more s r denials before x xs own judged =
    let o = denial_of s r (in_force denials before) x.event in
    let step = with_judged denials before x o own in
    record {
      denied = ap (λ new. denied_for x (length r) o ++ new) (judged.denied ∙ ap (λ at. denials_among s r at xs) step);
      stands = ap (in_force denials) (sym (append_assoc before (x ∷ []) xs)) ∙ judged.stands ∙ ap (λ at. after_events s r at xs) step;
    }

judged_none : (s : System) (r : List Slot) (denials : List Denied) (before : List Numbered) → AreJudged s r denials before []
judged_none s r denials before = record { denied = refl; stands = ap (in_force denials) (append-nil before) }

-- where the equation over the record holds
pub judged_from_failing : (s : System) (r : List Slot) (denials : List Denied) (before xs : List Numbered) → AreApart xs →
    AreNew denials (denials_behind s r denials before xs) xs → AreJudged s r denials before xs
judged_from_failing s r denials before [] apart new = judged_none s r denials before
judged_from_failing s r denials before (x ∷ xs) apart new =
    let o = denial_of s r (in_force denials before) x.event in
    let rest = denials_behind s r denials (before ++ x ∷ []) xs in
    judged_more s r denials before x xs
    (new_first denials rest x xs (length r) o (failing_within s r denials (before ++ x ∷ []) xs x.id apart.0) new)
    (judged_from_failing s r denials (before ++ x ∷ []) xs apart.1 (new_rest denials rest x xs (length r) o apart.0 new))

-- where the denials came about one event after another
pub judged_from_among : (s : System) (r : List Slot) (denials : List Denied) (before xs : List Numbered) → AreApart xs →
    AreNew denials (denials_among s r (in_force denials before) xs) xs → AreJudged s r denials before xs
judged_from_among s r denials before [] apart new = judged_none s r denials before
judged_from_among s r denials before (x ∷ xs) apart new =
    let o = denial_of s r (in_force denials before) x.event in
    let after = with_event (in_force denials before) x o in
    let rest = denials_among s r after xs in
    let own = new_first denials rest x xs (length r) o (among_within s r after xs x.id apart.0) new in
    judged_more s r denials before x xs own
    (judged_from_among s r denials (before ++ x ∷ []) xs apart.1
    (subst (λ at. AreNew denials (denials_among s r at xs) xs) (sym (with_judged denials before x o own))
    (new_rest denials rest x xs (length r) o apart.0 new)))

-- These events come after: their numbers differ, and no old denial and no event before has one of them.
pub record ComeAfter (old : List Denied) (before events : List Numbered) : Type 0 where
  pub apart : AreApart events
  pub across : (id : ℕ) → is_held before id ≡ true → is_held events id ≡ false
  pub undenied : (id : ℕ) → is_held events id ≡ true → has_denial old id ≡ false

-- denials of other numbers leave what is in force as it is
in_force_more : (old new : List Denied) (xs : List Numbered) →
    ((id : ℕ) → is_held xs id ≡ true → has_denial new id ≡ false) → in_force (old ++ new) xs ≡ in_force old xs
unfolding in_force
in_force_more old new [] others = refl
in_force_more old new (x ∷ xs) others =
    ap₂ (λ b zs. cond (not b) (x ∷ zs) zs)
    (has_denial-append old new x.id
    ∙ ap (λ b. has_denial old x.id || b) (others x.id (or_left _ _ (eq-eqb x.id x.id refl)))
    ∙ or-false (has_denial old x.id))
    (in_force_more old new xs (λ id held. others id (or_right _ _ held)))

are_new : (old new : List Denied) (before events : List Numbered) → ComeAfter old before events → AreNew (old ++ new) new events
are_new old new before events after id held =
    has_denial-append old new id ∙ ap (λ b. b || has_denial new id) (after.undenied id held)

-- What is said of the denials that are new at some events, in both manners.
pub record AreSlotDenials (s : System) (r : List Slot) (old new : List Denied) (before events : List Numbered) : Type 0 where
  pub equation : new ≡ denials_behind s r (old ++ new) before events
  pub one_by_one : new ≡ denials_among s r (in_force old before) events
  pub stands : in_force (old ++ new) (before ++ events) ≡ after_events s r (in_force old before) events

denials_in_both : (s : System) (r : List Slot) (old new : List Denied) (before events : List Numbered) →
    ComeAfter old before events → in_force (old ++ new) before ≡ in_force old before →
    AreJudged s r (old ++ new) before events →
    (new ≡ denials_behind s r (old ++ new) before events) ⊎ (new ≡ denials_among s r (in_force old before) events) →
    AreSlotDenials s r old new before events
denials_in_both s r old new before events after same judged either =
    let meet : denials_behind s r (old ++ new) before events ≡ denials_among s r (in_force old before) events =
    judged.denied ∙ ap (λ at. denials_among s r at events) same in
    record {
      equation = ⊎_elim (λ e. e) (λ e. e ∙ sym meet) either;
      one_by_one = ⊎_elim (λ e. e ∙ meet) (λ e. e) either;
      stands = judged.stands ∙ ap (λ at. after_events s r at events) same;
    }

-- Use: where the denials solve the equation of the record, they are those that came about one event after another.
pub denials_from_equation : (s : System) (r : List Slot) (old new : List Denied) (before events : List Numbered) →
    ComeAfter old before events → new ≡ denials_behind s r (old ++ new) before events → AreSlotDenials s r old new before events
denials_from_equation s r old new before events after e =
    let within : (id : ℕ) → is_held before id ≡ true → has_denial new id ≡ false =
    λ id held. ap (λ ds. has_denial ds id) e ∙ failing_within s r (old ++ new) before events id (after.across id held) in
    denials_in_both s r old new before events after (in_force_more old new before within)
    (judged_from_failing s r (old ++ new) before events after.apart
    (subst (λ ds. AreNew (old ++ new) ds events) e (are_new old new before events after)))
    (inl e)

-- Use: what was denied one event after another solves the equation of the record.
pub denials_from_one_by_one : (s : System) (r : List Slot) (old new : List Denied) (before events : List Numbered) →
    ComeAfter old before events → new ≡ denials_among s r (in_force old before) events →
    AreSlotDenials s r old new before events
denials_from_one_by_one s r old new before events after e =
    let within : (id : ℕ) → is_held before id ≡ true → has_denial new id ≡ false =
    λ id held. ap (λ ds. has_denial ds id) e ∙ among_within s r (in_force old before) events id (after.across id held) in
    let same : in_force (old ++ new) before ≡ in_force old before = in_force_more old new before within in
    denials_in_both s r old new before events after same
    (judged_from_among s r (old ++ new) before events after.apart
    (subst (λ ds. AreNew (old ++ new) ds events) (e ∙ ap (λ at. denials_among s r at events) (sym same))
    (are_new old new before events after)))
    (inr e)

no_slot : Slot
no_slot = record { picks = []; denials = [] }

pub length_snoc : (r : List Slot) (slot : Slot) → length (r ++ slot ∷ []) ≡ suc (length r)
length_snoc [] slot = refl
length_snoc (first ∷ r) slot = ap suc (length_snoc r slot)

pub denials_of_snoc : (r : List Slot) (slot : Slot) → denials_of (r ++ slot ∷ []) ≡ denials_of r ++ slot.denials
denials_of_snoc [] slot = append-nil slot.denials
denials_of_snoc (first ∷ r) slot = ap (λ ds. first.denials ++ ds) (denials_of_snoc r slot) ∙ sym (append_assoc first.denials _ _)

-- the first t slots of a run are the run over t
pub run_begins : (s : Plan) (n t : ℕ) (r : List Slot) → IsRun s n r → t ≤ n → IsRun s t (take t r)
run_begins s n t r run within = record {
  slots = length-take-le t r (omega arith);
  each = λ u d below. subst₂ (IsNextSlot s) (sym (take-take u t r (omega arith))) (sym (get_or-take t r u d below)) (run.each u d (omega arith));
}

-- the last slot of a run, and the run before it
pub record LastSlot (s : Plan) (n : ℕ) (r : List Slot) : Type 0 where
  pub slots : List Slot
  pub slot : Slot
  pub is_run : IsRun s n slots
  pub next : IsNextSlot s slots slot
  pub together : r ≡ slots ++ slot ∷ []

pub run_ends : (s : Plan) (n : ℕ) (r : List Slot) → IsRun s (suc n) r → LastSlot s n r
run_ends s n r run = record {
  slots = take n r;
  slot = get_or r n no_slot;
  is_run = run_begins s (suc n) n r run (omega arith);
  next = run.each n no_slot (omega arith);
  together = sym (take_all (n + 1) r (omega arith)) ∙ take_more r n no_slot (omega arith);
}

pub run_none : (s : Plan) → IsRun s 0 []
run_none s = record { slots = refl; each = λ t d below. absurd (omega arith) }

-- Use: what holds of no slots, and of one slot more, holds of every run.
pub along_run : (s : Plan) (P : List Slot → Type 0) → P [] →
    ((r : List Slot) (slot : Slot) → IsRun s (length r) r → IsNextSlot s r slot → P r → P (r ++ slot ∷ [])) →
    (n : ℕ) (r : List Slot) → IsRun s n r → P r
along_run s P none more zero r run = subst P (sym (nil_from_length r run.slots)) none
along_run s P none more (suc n) r run =
    let last = run_ends s n r run in
    subst P (sym last.together)
    (more last.slots last.slot (subst (λ m. IsRun s m last.slots) (sym last.is_run.slots) last.is_run) last.next
    (along_run s P none more n last.slots last.is_run))

-- Use: no event outside the past of a run has a number among its denials.
pub denied_past : (s : Plan) (n : ℕ) (r : List Slot) → IsRun s n r →
    (id : ℕ) → is_held (past s (length r)) id ≡ false → has_denial (denials_of r) id ≡ false
denied_past s = along_run s (λ r. (id : ℕ) → is_held (past s (length r)) id ≡ false → has_denial (denials_of r) id ≡ false)
    (λ id none. refl)
    (λ r slot run next before id none.
    let parts = or_parts (is_held (past s (length r)) id) (is_held (events_of s (length r)) id)
    (sym (is_held-append (past s (length r)) (events_of s (length r)) id) ∙ ap (λ t. is_held (past s t) id) (sym (length_snoc r slot)) ∙ none) in
    ap (λ ds. has_denial ds id) (denials_of_snoc r slot)
    ∙ has_denial-append (denials_of r) slot.denials id
    ∙ or_from _ _ (before id parts.0)
    (ap (λ ds. has_denial ds id) next.denials
    ∙ failing_within s.settings r (denials_of (r ++ slot ∷ [])) (past s (length r)) (events_of s (length r)) id parts.1))

-- the events of the slot after a run come after its denials and its past
pub slot_comes_after : (s : Plan) (r : List Slot) → IsScenario s → IsRun s (length r) r →
    ComeAfter (denials_of r) (past s (length r)) (events_of s (length r))
slot_comes_after s r scenario run =
    let before = past s (length r) in
    let events = events_of s (length r) in
    let apart = apart_past s (suc (length r)) scenario in
    let across : (id : ℕ) → is_held before id ≡ true → is_held events id ≡ false =
    λ id held. apart_across before events id apart held in
    record {
      apart = apart_right before events apart;
      across = across;
      undenied = λ id held. denied_past s (length r) r run id
          (false_from_ne_true (is_held before id) (λ earlier. true≢false (sym held ∙ across id earlier)));
    }

-- What is said of the denials of a run's next slot, in both manners.
pub record AreNextDenials (s : Plan) (r : List Slot) (slot : Slot) : Type 0 where
  pub equation : slot.denials ≡
      denials_behind s.settings r (denials_of (r ++ slot ∷ [])) (past s (length r)) (events_of s (length r))
  pub one_by_one : slot.denials ≡ denials_among s.settings r (events_in_force s r (length r)) (events_of s (length r))
  pub stands : events_in_force s (r ++ slot ∷ []) (suc (length r)) ≡
      after_events s.settings r (events_in_force s r (length r)) (events_of s (length r))

next_from_slot : (s : Plan) (r : List Slot) (slot : Slot) →
    AreSlotDenials s.settings r (denials_of r) slot.denials (past s (length r)) (events_of s (length r)) →
    AreNextDenials s r slot
next_from_slot s r slot both = record {
  equation = both.equation
      ∙ ap (λ ds. denials_behind s.settings r ds (past s (length r)) (events_of s (length r))) (sym (denials_of_snoc r slot));
  one_by_one = both.one_by_one;
  stands = ap (λ ds. in_force ds (past s (suc (length r)))) (denials_of_snoc r slot) ∙ both.stands;
}

-- Use: from a slot of a run, what judging its events one after another gives.
pub next_from_equation : (s : Plan) (r : List Slot) (slot : Slot) → IsScenario s → IsRun s (length r) r →
    slot.denials ≡ denials_behind s.settings r (denials_of (r ++ slot ∷ [])) (past s (length r)) (events_of s (length r)) →
    AreNextDenials s r slot
next_from_equation s r slot scenario run e =
    next_from_slot s r slot
    (denials_from_equation s.settings r (denials_of r) slot.denials (past s (length r)) (events_of s (length r))
    (slot_comes_after s r scenario run)
    (e ∙ ap (λ ds. denials_behind s.settings r ds (past s (length r)) (events_of s (length r))) (denials_of_snoc r slot)))

-- Use: from judging a slot's events one after another, the denials of IsNextSlot and the events that stand for its picks.
pub next_from_one_by_one : (s : Plan) (r : List Slot) (slot : Slot) → IsScenario s → IsRun s (length r) r →
    slot.denials ≡ denials_among s.settings r (events_in_force s r (length r)) (events_of s (length r)) →
    AreNextDenials s r slot
next_from_one_by_one s r slot scenario run e =
    next_from_slot s r slot
    (denials_from_one_by_one s.settings r (denials_of r) slot.denials (past s (length r)) (events_of s (length r))
    (slot_comes_after s r scenario run) e)

-- Use: what was judged one event after another, and picked from what stands after it, is the next slot.
pub next_slot : (s : Plan) (r : List Slot) (slot : Slot) → IsScenario s → IsRun s (length r) r →
    slot.denials ≡ denials_among s.settings r (events_in_force s r (length r)) (events_of s (length r)) →
    ArePicks s r (after_events s.settings r (events_in_force s r (length r)) (events_of s (length r))) slot.picks →
    IsNextSlot s r slot
next_slot s r slot scenario run denials picks =
    let both = next_from_one_by_one s r slot scenario run denials in
    record { denials = both.equation; picks = subst (λ at. ArePicks s r at slot.picks) (sym both.stands) picks }
