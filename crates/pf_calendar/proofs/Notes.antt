-- The slot that is noted of each task that waits.
use Rattle.std.proofs.Common.{◌≡◌, ◌≢◌, ℕ, ◌<◌, ◌≤◌, Bool, true, false, cond, eqb, ltb, ◌⊎◌, inl, inr, List, length, get_or, set, Option, Some, None, refl, sym, ap, ◌∙◌, subst, arith, ⊎_elim}
use Rattle.std.specs.Prelude.{unwrap_or}
use Rattle.std.proofs.lemmas.Bool.{cases_lt, cases_eq}
use Rattle.std.proofs.lemmas.List.{length-set, get_or-set_same, get_or-set_other, get_or_default}
use Rattle.std.specs.Ordering.{nat_cmp, eq_by_cmp}
use Rattle.std.specs.Cmp.{nat_cmp_total}
use Rattle.std.specs.FinSet as fin
use Rattle.std.specs.FinMap as finmap
use Rattle.std.specs.FinMap.{nat_cmp-IsAntisymmetric, get-insert, get-remove, get-retain_keys, get-empty}
use Rattle.pf_order.specs.Priority.{Priority, key_cmp}
use Rattle.pf_collections.specs.Table.Grown.{Grown, value_of, size_of, with_value}
use Rattle.pf_heap.specs.Keys.{Keys, Heaps, list_of}
use Rattle.pf_calendar.specs.declared.waiting_list.WaitingList.{WaitingList}
use Rattle.pf_calendar.specs.Queues.{Queues, Waiting, list_at, with_waiting_list, later, IsQueued, TakesOut}
use Rattle.pf_calendar.specs.Invariant.{lists_in, waiting_in, NotesSlots, IsLaidOut}
use Rattle.pf_calendar.specs.Steps.{HasNoneFor}
use Rattle.pf_calendar.proofs.Naming.{no_entry, length-lists, slot_at, list_at_place}
use Rattle.pf_calendar.proofs.Sets.{has_none, insert_cases, remove_in}
use Rattle.pf_calendar.proofs.Slots.{eq_by-same, eq_by-other, rises}
use Rattle.pf_calendar.proofs.Maps.{waits_at}
use Rattle.pf_calendar.proofs.Whole.{waiting_is}

-- what waits now for a slot has waited for it
abbrev pub Waited : Waiting → Waiting → Type 0
Waited old new = (s : ℕ) (q : Priority) → fin.contains (list_at new s) q ≡ true → fin.contains (list_at old s) q ≡ true

pub notes_less : {slots : Grown ℕ} {tasks : ℕ} {old new : Waiting} → Waited old new → NotesSlots slots tasks old → NotesSlots slots tasks new
notes_less waited n = record { slot_is = λ s q h. n.slot_is s q (waited s q h); room = n.room }

pub notes_same : {slots : Grown ℕ} {tasks tasks' : ℕ} {old new : Waiting} → new ≡ old → tasks' ≡ tasks → NotesSlots slots tasks old → NotesSlots slots tasks' new
notes_same {slots} {tasks} {tasks'} {old} {new} same as_many n =
    subst (λ (w : Waiting). NotesSlots slots tasks' w) (sym same) (subst (λ t. NotesSlots slots t old) (sym as_many) n)

-- the same, by what contracts see
pub notes_after : {slots : Grown ℕ} {tasks tasks' : ℕ} {old new seen_old seen_new : Waiting} → old ≡ seen_old → new ≡ seen_new → tasks' ≡ tasks → Waited seen_old seen_new →
    NotesSlots slots tasks old → NotesSlots slots tasks' new
notes_after was is as_many waited n = notes_same is as_many (notes_less waited (notes_same (sym was) refl n))

-- ---- nothing waits

nothing_at : (s : ℕ) (q : Priority) → fin.contains (list_at finmap.empty s) q ≡ true → ⊥
nothing_at s q h = has_none q (sym (ap (λ (o : Option Keys). fin.contains {R = key_cmp} (unwrap_or o fin.empty) q) (get-empty nat_cmp s)) ∙ h)

pub notes_none : {slots : Grown ℕ} {tasks : ℕ} {waiting : Waiting} → waiting ≡ finmap.empty → tasks ≡ 0 → NotesSlots slots tasks waiting
notes_none {slots} {tasks} {waiting} nothing none = record {
  slot_is = λ s q h. absurd (nothing_at s q (sym (ap (λ (w : Waiting). fin.contains (list_at w s) q) nothing) ∙ h));
  room = omega (arith, none);
}

-- ---- more tasks have room

pub notes_grown : {slots slots' : Grown ℕ} {tasks tasks' : ℕ} {old new : Waiting} → new ≡ old → ((t : ℕ) → value_of slots' t ≡ value_of slots t) → tasks' ≤ size_of slots' →
    NotesSlots slots tasks old → NotesSlots slots' tasks' new
notes_grown {slots} {slots'} {tasks} {tasks'} {old} {new} same values room n =
    let m : NotesSlots slots tasks new = notes_same same refl n in
    record { slot_is = λ s q h. values q.task ∙ m.slot_is s q h; room = room }

-- ---- the list of a slot changes

list_with : (w : Waiting) (s x : ℕ) (keys : Keys) (q : Priority) → fin.contains (list_at (finmap.insert w s keys) x) q ≡ true →
    ((x ≡ s) × (fin.contains keys q ≡ true)) ⊎ (fin.contains (list_at w x) q ≡ true)
list_with w s x keys q h =
    let is : fin.contains (unwrap_or (cond (eq_by_cmp nat_cmp x s) (Some keys) (finmap.get w x)) fin.empty) q ≡ true =
    sym (ap (λ o. fin.contains (unwrap_or o fin.empty) q) (get-insert nat_cmp_total w s keys x)) ∙ h in
    ⊎_elim
    (λ e. inl (e, sym (ap (λ b. fin.contains (unwrap_or (cond b (Some keys) (finmap.get w x)) fin.empty) q) (eq_by-same x s e)) ∙ is))
    (λ ne. inr (sym (ap (λ b. fin.contains (unwrap_or (cond b (Some keys) (finmap.get w x)) fin.empty) q) (eq_by-other x s ne)) ∙ is))
    (cases_eq x s)

list_without : (w : Waiting) (s x : ℕ) (q : Priority) → fin.contains (list_at (finmap.remove w s) x) q ≡ true → fin.contains (list_at w x) q ≡ true
list_without w s x q h =
    let is : fin.contains (unwrap_or (cond (eq_by_cmp nat_cmp x s) None (finmap.get w x)) fin.empty) q ≡ true =
    sym (ap (λ o. fin.contains (unwrap_or o fin.empty) q) (get-remove nat_cmp_total w s x)) ∙ h in
    kept (eq_by_cmp nat_cmp x s) (finmap.get w x) is where
      kept : (b : Bool) (o : Option Keys) → fin.contains (unwrap_or (cond b None o) fin.empty) q ≡ true → fin.contains (unwrap_or o fin.empty) q ≡ true
      kept true o e = absurd (has_none q e)
      kept false o e = e

waited_with : (w : Waiting) (s : ℕ) (k : Priority) → Waited w (with_waiting_list w s (fin.remove (list_at w s) k))
waited_with w s k x q h = choose (eqb (fin.len (fin.remove (list_at w s) k)) 0) h where
  choose : (b : Bool) → fin.contains (list_at (cond b (finmap.remove w s) (finmap.insert w s (fin.remove (list_at w s) k))) x) q ≡ true → fin.contains (list_at w x) q ≡ true
  choose true e = list_without w s x q e
  choose false e =
      ⊎_elim (λ here. ap (λ y. fin.contains (list_at w y) q) here.0 ∙ remove_in (list_at w s) k q here.1) (λ was. was)
      (list_with w s x (fin.remove (list_at w s) k) q e)

-- a key is taken out
pub waited_taken : (old new : Queues) (k : Priority) → TakesOut old new k → Waited old.waiting new.waiting
waited_taken old new k takes s q h =
    ⊎_elim
    (λ r. sym (ap (λ (x : Queues). fin.contains (list_at x.waiting s) q) r.1) ∙ h)
    (λ r. waited_with old.waiting r.0 k s q (sym (ap (λ (x : Queues). fin.contains (list_at x.waiting s) q) r.2) ∙ h))
    takes

-- lists up to a slot go
pub waited_later : (w : Waiting) (t : ℕ) → Waited w (later t w)
waited_later w t s q h =
    kept (ltb t s) (finmap.get w s)
    (sym (ap (λ o. fin.contains (unwrap_or o fin.empty) q)
    (get-retain_keys w (λ x. ltb t x) s (λ x e. ap (ltb t) (sym (nat_cmp-IsAntisymmetric s x e)))))
    ∙ h) where
      kept : (b : Bool) (o : Option Keys) → fin.contains (unwrap_or (cond b o None) fin.empty) q ≡ true → fin.contains (unwrap_or o fin.empty) q ≡ true
      kept true o e = e
      kept false o e = absurd (has_none q e)

-- a key is put
module _ {slots slots' : Grown ℕ} {tasks : ℕ} (old : Queues) (slot : ℕ) (key : Priority) (written : slots' ≡ with_value slots key.task slot) (low : key.task < tasks)
    (absent : IsQueued old key.task → ⊥) (n : NotesSlots slots tasks old.waiting) where
  noted_other : (s : ℕ) (q : Priority) → fin.contains (list_at old.waiting s) q ≡ true → value_of slots' q.task ≡ s
  noted_other s q h =
      let differ : q.task ≢ key.task = λ e. absent (record { key = q; has = inr (s, h); of_task = e }) in
      ap (λ (x : Grown ℕ). value_of x q.task) written ∙ get_or-set_other slots.0 key.task q.task slot slots.1 differ ∙ n.slot_is s q h

  pub notes_put : {new : Waiting} → new ≡ finmap.insert old.waiting slot (fin.insert (list_at old.waiting slot) key) → NotesSlots slots' tasks new
  notes_put {new} is = record {
    slot_is = λ s q h. ⊎_elim
        (λ here. ⊎_elim
        (λ own. ap (λ (x : Grown ℕ). value_of x q.task) written ∙ ap (λ t. get_or (set slots.0 key.task slot) t slots.1) (ap (λ (p : Priority). p.task) own)
        ∙ get_or-set_same slots.0 key.task slot slots.1 (omega (arith, low, n.room)) ∙ sym here.0)
        (λ was. noted_other s q (ap (λ x. fin.contains (list_at old.waiting x) q) here.0 ∙ was))
        (insert_cases (list_at old.waiting slot) key q here.1))
        (λ was. noted_other s q was)
        (list_with old.waiting slot s (fin.insert (list_at old.waiting slot) key) q (sym (ap (λ w. fin.contains (list_at w s) q) is) ∙ h));
    room = omega (arith, n.room, ap (λ (x : Grown ℕ). length x.0) written, length-set slots.0 key.task slot);
  }

-- ---- a task with no key in the entry for its slot doesn't wait

module _ {heaps : Heaps} {es : List WaitingList} {unused : List ℕ} {held limit room unused_room : ℕ} (laid : IsLaidOut heaps es unused held limit room unused_room)
    {slots : Grown ℕ} (n : NotesSlots slots heaps.tasks (waiting_in heaps es)) where
  pub none_waits : (task : ℕ) → HasNoneFor heaps es (value_of slots task) task → (s : ℕ) (q : Priority) → fin.contains (list_at (waiting_in heaps es) s) q ≡ true → q.task ≢ task
  none_waits task none s q h e =
      let slot_is : value_of slots task ≡ s = ap (value_of slots) (sym e) ∙ n.slot_is s q h in
      let k = waits_at (lists_in heaps es) s q laid.rise (sym (ap (λ x. fin.contains (list_at x s) q) (waiting_is heaps es)) ∙ h) in
      let lt : k.0 < length es = omega (arith, k.1, length-lists heaps es) in
      let slot_k : (get_or es k.0 no_entry).slot ≡ s = sym (slot_at heaps es k.0 fin.empty lt) ∙ k.2 in
      let has : fin.contains (list_of heaps (get_or es k.0 no_entry).heap) q ≡ true =
      sym (ap (λ l. fin.contains l q) (list_at_place heaps es k.0 fin.empty lt)) ∙ k.3 in
      let found : k.0 ≡ none.at → ⊥ = λ here.
      none.none (
        omega (arith, here, lt),
        λ d.
            ap (λ x. (get_or es x d).slot) (sym here) ∙ ap (λ (x : WaitingList). x.slot) (get_or_default es k.0 d no_entry lt) ∙ slot_k ∙ sym slot_is,
      )
      no_entry q (ap (λ x. fin.contains (list_of heaps (get_or es x no_entry).heap) q) (sym here) ∙ has) e in
      ⊎_elim
      (λ below. absurd (omega (arith, none.place.before k.0 no_entry below, slot_k, slot_is)))
      (λ ge. ⊎_elim
      (λ above. absurd (omega (
        arith,
        none.place.after none.at no_entry (omega arith) (omega (arith, above, lt)),
        rises (lists_in heaps es) none.at k.0 (0, fin.empty) laid.rise above k.1,
        slot_at heaps es none.at fin.empty (omega (arith, above, lt)),
        k.2,
        slot_is,
      )))
      (λ le. found (omega (arith, ge, le)))
      (cases_lt none.at k.0))
      (cases_lt k.0 none.at)
