-- The next keys of some tasks: what the steps of a calendar make of them.
use Rattle.std.proofs.Common.{◌≡◌, ◌≢◌, ℕ, ◌+◌, ◌<◌, ◌≤◌, true, max, nat_le, cond, ◌⊎◌, inl, inr, Option, Some, None, List, [], ◌∷◌, filter_map, Contains, refl, sym, ap, ◌∙◌, subst, arith, ⊎_elim}
use Rattle.std.proofs.lemmas.Bool.{cases_lt, le-leb, leb-true, or_right, or_left}
use Rattle.std.proofs.lemmas.Option.{cond_some}
use Rattle.std.specs.List.{cons_option}
use Rattle.std.specs.FinSet as set
use Rattle.std.specs.FinSet.{contains-union}
use Rattle.pf_order.specs.Priority.{Priority, key_cmp}
use Rattle.pf_order.proofs.Order.{key_cmp_total}
use Rattle.pf_calendar.specs.Queues.{Queues, list_at, list_in, later, due, Holds, IsQueued, TakesOut, EachTaskOnce}
use Rattle.pf_calendar.proofs.Sets.{union_cases}
use Rattle.pf_run.specs.Inside.{eligible_from, next_key, ready_key}
use Rattle.pf_run.proofs.Containing.{contains_none, contains_head, contains_tail, contains_cases}
use Rattle.pf_engine.specs.Fits.{KeptTask, Kept}
use Rattle.pf_engine.specs.Agenda.{StandsIn, IsNextOf, HasNext, with_put, IsReady}
use Rattle.pf_engine.proofs.Held.{Has, held_at, holds_from, put_from, put_new, put_old, taken_from, taken_had, taken_gone, left_in, later_from, later_in, due_from, due_in}

-- some of the tasks
abbrev pub Are : Type 1
Are = KeptTask → Type 0

-- a kept task's next key
abbrev pub key_for : KeptTask → Priority
key_for k = next_key k.task k.member

-- no two of them are of one number
abbrev pub Differ : Are → Type 0
Differ are = (x y : KeptTask) → are x → are y → x.task ≡ y.task → x ≡ y

-- the same tasks
pub next_same : (q : Queues) (now : ℕ) (a b : Are) → ((k : KeptTask) → a k → b k) → ((k : KeptTask) → b k → a k) → HasNext q now a → HasNext q now b
next_same q now a b to back n = record {
  only = λ place key h. let o = n.only place key h in record { kept = o.kept; among = to o.kept o.among; is = o.is; stands = o.stands };
  each = λ k among. n.each k (back k among);
}

-- the same keys, however much room there is
pub next_seen : (q q' : Queues) (now : ℕ) (a : Are) → q'.ready ≡ q.ready → q'.waiting ≡ q.waiting → HasNext q now a → HasNext q' now a
next_seen q q' now a ready waiting n =
    let same : (place : Option ℕ) → list_in q' place ≡ list_in q place = same_list in
    record {
      only = λ place key h. n.only place key (sym (ap (λ l. set.contains l key) (same place)) ∙ h);
      each = λ k among.
          let at = held_at q (key_for k) (n.each k among) in
          holds_from q' at.0 (key_for k) (ap (λ l. set.contains l (key_for k)) (same at.0) ∙ at.1);
    } where
      same_list : (place : Option ℕ) → list_in q' place ≡ list_in q place
      same_list None = ready
      same_list (Some s) = ap (λ w. list_at w s) waiting

-- a task of another number isn't held
pub not_queued : (q : Queues) (now : ℕ) (a : Are) (task : ℕ) → HasNext q now a → ((k : KeptTask) → a k → task ≢ k.task) → ¬ (IsQueued q task)
not_queued q now a task n other held =
    let at = held_at q held.key held.has in
    let o = n.only at.0 held.key at.1 in
    other o.kept o.among (sym held.of_task ∙ ap (λ (x : Priority). x.task) o.is)

-- a key is put
pub next_put : (q q' : Queues) (now s : ℕ) (a : Are) (new : KeptTask) → s ≡ max (eligible_from new.member) now → q' ≡ with_put q s (key_for new) →
    HasNext q now a → HasNext q' now (λ k. a k ⊎ (k ≡ new))
next_put q q' now s a new at is n = subst (λ x. HasNext x now (λ k. a k ⊎ (k ≡ new))) (sym is) (record {
  only = λ place key h. ⊎_elim
      (λ own. record { kept = new; among = inr refl; is = own.1; stands = subst (StandsIn now new.member) (sym own.0) at })
      (λ was. let o = n.only place key was in record { kept = o.kept; among = inl o.among; is = o.is; stands = o.stands })
      (put_from q s (key_for new) place key h);
  each = λ k among. ⊎_elim
      (λ old.
      let h = held_at q (key_for k) (n.each k old) in
      holds_from (with_put q s (key_for new)) h.0 (key_for k) (put_old q s (key_for new) h.0 (key_for k) h.1))
      (λ e. inr (s, ap (λ (x : KeptTask). set.contains (list_at (with_put q s (key_for new)).waiting s) (key_for x)) e ∙ put_new q s (key_for new)))
      among;
})

-- a task's key is taken out
pub next_taken : (q q' : Queues) (now task : ℕ) (a : Are) (key : Priority) → key.task ≡ task → TakesOut q q' key → EachTaskOnce q →
    HasNext q now a → HasNext q' now (λ k. a k × (task ≢ k.task))
next_taken q q' now task a key of_task takes once n = record {
  only = λ place x h.
      let was = taken_from q q' key takes place x h in
      let o = n.only place x was in
      let had = taken_had q q' key takes in
      record {
        kept = o.kept;
        among = (
          o.among,
          λ e.
              let same : x.task ≡ key.task = ap (λ (y : Priority). y.task) o.is ∙ sym e ∙ sym of_task in
              taken_gone q q' key takes once place (subst (λ y. Has q' place y) (once place had.0 x key was had.1 same).1 h),
        );
        is = o.is;
        stands = o.stands;
      };
  each = λ k among.
      let h = held_at q (key_for k) (n.each k among.0) in
      holds_from q' h.0 (key_for k)
      (left_in q q' key takes h.0 (key_for k) h.1 (λ e. among.1 (sym of_task ∙ ap (λ (y : Priority). y.task) (sym e))));
}

-- ---- a slot begins

-- what is due is ready, the lists that wait are of later slots
abbrev pub IsAdvanced : Queues → Queues → ℕ → Type 0
IsAdvanced q q' t = q' ≡ record q { ready = set.union q.ready (due t q.waiting); waiting = later t q.waiting }

-- a key that is ready is of a subtask that may run
ready_next : (q : Queues) (t : ℕ) (a : Are) (x : Priority) → HasNext q t a → set.contains (set.union q.ready (due t q.waiting)) x ≡ true →
    (k : KeptTask) × a k × (x ≡ key_for k) × (eligible_from k.member ≤ t)
ready_next q t a x n h = ⊎_elim
    (λ was. let o = n.only None x was in (o.kept, o.among, o.is, o.stands))
    (λ new.
    let f = due_from q.waiting t x new in
    let o = n.only (Some f.0) x f.2 in
    let at : f.0 ≡ max (eligible_from o.kept.member) t = o.stands in
    let early : f.0 ≤ t = f.1 in
    (o.kept, o.among, o.is, omega arith))
    (union_cases q.ready (due t q.waiting) x h)

in_union_left : (s t : set.FinSet key_cmp) (x : Priority) → set.contains s x ≡ true → set.contains (set.union s t) x ≡ true
in_union_left s t x h = contains-union key_cmp_total s t x ∙ or_left (set.contains s x) (set.contains t x) h

in_union_right : (s t : set.FinSet key_cmp) (x : Priority) → set.contains t x ≡ true → set.contains (set.union s t) x ≡ true
in_union_right s t x h = contains-union key_cmp_total s t x ∙ or_right (set.contains s x) (set.contains t x) h

-- and where its subtask may run, a key is ready
next_ready : (q : Queues) (t : ℕ) (a : Are) (k : KeptTask) → HasNext q t a → Differ a → a k → eligible_from k.member ≤ t →
    set.contains (set.union q.ready (due t q.waiting)) (key_for k) ≡ true
next_ready q t a k n differ among early = ⊎_elim
    (λ was. in_union_left q.ready (due t q.waiting) (key_for k) was)
    (λ w.
    let o = n.only (Some w.0) (key_for k) w.1 in
    let same : o.kept ≡ k = differ o.kept k o.among among (ap (λ (x : Priority). x.task) (sym o.is)) in
    let at : w.0 ≡ max (eligible_from k.member) t = o.stands ∙ ap (λ (x : KeptTask). max (eligible_from x.member) t) same in
    in_union_right q.ready (due t q.waiting) (key_for k) (due_in q.waiting t w.0 (key_for k) (omega arith) w.1))
    (n.each k among)

pub next_advanced : (q q' : Queues) (t : ℕ) (a : Are) → IsAdvanced q q' t → HasNext q t a → HasNext q' (t + 1) a
next_advanced q q' t a is n =
    let new : Queues = record q { ready = set.union q.ready (due t q.waiting); waiting = later t q.waiting } in
    subst (λ x. HasNext x (t + 1) a) (sym is) (record { only = stand; each = λ k among. hold k (n.each k among) }) where
      stand : (place : Option ℕ) (x : Priority) → Has (record q { ready = set.union q.ready (due t q.waiting); waiting = later t q.waiting }) place x → IsNextOf (t + 1) a place x
      stand None x h =
          let r = ready_next q t a x n h in
          let early : eligible_from r.0.member ≤ t = r.3 in
          record { kept = r.0; among = r.1; is = r.2; stands = omega arith }
      stand (Some s) x h =
          let f = later_from q.waiting t s x h in
          let o = n.only (Some s) x f.1 in
          let at : s ≡ max (eligible_from o.kept.member) t = o.stands in
          let after : t < s = f.0 in
          record { kept = o.kept; among = o.among; is = o.is; stands = omega arith }

      hold : (k : KeptTask) → Holds q (key_for k) → Holds (record q { ready = set.union q.ready (due t q.waiting); waiting = later t q.waiting }) (key_for k)
      hold k h = ⊎_elim
          (λ was. inl (in_union_left q.ready (due t q.waiting) (key_for k) was))
          (λ w. ⊎_elim
          (λ after. inr (w.0, later_in q.waiting t w.0 (key_for k) after w.1))
          (λ early. inl (in_union_right q.ready (due t q.waiting) (key_for k) (due_in q.waiting t w.0 (key_for k) early w.1)))
          (cases_lt t w.0))
          h

-- ---- the keys of the definition

given_option : (o : Option Priority) (x : Priority) (rest : List Priority) → Contains (cons_option o rest) x → (o ≡ Some x) ⊎ Contains rest x
given_option None x rest at = inr at
given_option (Some y) x rest at = ⊎_elim (λ e. inl (ap Some e)) (λ later. inr later) (contains_cases y rest x at)

in_option : (o : Option Priority) (x : Priority) (rest : List Priority) → (o ≡ Some x) ⊎ Contains rest x → Contains (cons_option o rest) x
in_option None x rest ways = ⊎_elim (λ e. absurd (cc)) (λ later. later) ways
in_option (Some y) x rest ways = ⊎_elim
    (λ e. let same : y ≡ x = cc in subst (Contains (y ∷ rest)) same (contains_head y rest))
    (λ later. contains_tail y rest x later)
    ways

given_from : (h : KeptTask → Option Priority) (tasks : List KeptTask) (x : Priority) → Contains (filter_map h tasks) x → (k : KeptTask) × Contains tasks k × (h k ≡ Some x)
given_from h [] x at = absurd (contains_none x at)
given_from h (k ∷ ks) x at = ⊎_elim
    (λ e. (k, contains_head k ks, e))
    (λ later. let r = given_from h ks x later in (r.0, contains_tail k ks r.0 r.1, r.2))
    (given_option (h k) x (filter_map h ks) at)

given_in : (h : KeptTask → Option Priority) (tasks : List KeptTask) (x : Priority) (k : KeptTask) → Contains tasks k → h k ≡ Some x → Contains (filter_map h tasks) x
given_in h [] x k at e = absurd (contains_none k at)
given_in h (y ∷ ys) x k at e = in_option (h y) x (filter_map h ys) (⊎_elim
    (λ same. inl (ap h same ∙ e))
    (λ later. inr (given_in h ys x k later e))
    (contains_cases y ys k at))

pub ready_advanced : (q q' : Queues) (e : Kept) → IsAdvanced q q' e.now → Differ (Contains e.tasks) → HasNext q e.now (Contains e.tasks) → IsReady q' e
ready_advanced q q' e is differ n = subst (λ x. IsReady x e) (sym is) (λ x. (
  λ h.
      let r = ready_next q e.now (Contains e.tasks) x n h in
      given_in (λ k. ready_key e.now k.task k.member) e.tasks x r.0 r.1
      (ap (λ b. cond b (Some (key_for r.0)) None) (le-leb (eligible_from r.0.member) e.now r.3) ∙ ap Some (sym r.2)),
  λ at.
      let f = given_from (λ k. ready_key e.now k.task k.member) e.tasks x at in
      let c = cond_some (nat_le (eligible_from f.0.member) e.now) (key_for f.0) x f.2 in
      subst (λ y. set.contains (set.union q.ready (due e.now q.waiting)) y ≡ true) c.1
      (next_ready q e.now (Contains e.tasks) f.0 n differ f.1 (leb-true (eligible_from f.0.member) e.now c.0)),
))
