-- The entries as a map from slot to list.
use Rattle.std.proofs.Common.{◌≡◌, ◌≢◌, ℕ, ◌+◌, ◌<◌, ◌≤◌, Bool, true, false, cond, ◌⊎◌, inl, inr, List, [], ◌∷◌, map, length, get_or, set, Option, Some, None, refl, sym, ap, ◌∙◌, subst, arith, ⊎_elim}
use lib.Dec.{T}
use Rattle.std.specs.Prelude.{insert, sum_by, unwrap_or}
use Rattle.std.specs.Ordering.{nat_cmp}
use Rattle.std.specs.Cmp.{nat_cmp_total}
use Rattle.std.specs.declared.cmp.Ordering.TheVariants.{Equal}
use Rattle.std.specs.FinSet as fin_set
use Rattle.std.specs.FinMap as fin
use Rattle.std.specs.FinMap.{nat_cmp-IsAntisymmetric, same_map, same_entries_map, get-from_sorted, get-retain_keys, entries-from_sorted, entries-insert, entries_sorted}
use Rattle.std.specs.FinMap.Entries.{put, where_key, find, is_sorted, find-where_key, is_sorted-where_key}
use Rattle.pf_order.specs.Priority.{Priority}
use Rattle.std.proofs.lemmas.List.Sums.{sum_by-cons}
use Rattle.pf_heap.specs.Keys.{Keys, Heaps, list_of}
use Rattle.pf_calendar.specs.declared.waiting_list.WaitingList.{WaitingList}
use Rattle.pf_calendar.specs.Queues.{Waiting, list_at}
use Rattle.pf_calendar.specs.Invariant.{lists_in, waiting_in}
use Rattle.pf_calendar.proofs.Slots.{find_at, find_place, put-at, put-between, rises}
use Rattle.pf_calendar.proofs.Sets.{has_none}

abbrev pub Keyed : Type 0
Keyed = List (ℕ × Keys)

abbrev pub in_order : Keyed → Bool
in_order es = is_sorted nat_cmp es

pub test_of : (b : Bool) → b ≡ true → T b
test_of b e = subst T (sym e) tt

pub true_of : (b : Bool) → T b → b ≡ true
true_of true t = refl
true_of false t = absurd t

pub get_in : (es : Keyed) (q : ℕ) → in_order es ≡ true → fin.get (fin.from_sorted {R = nat_cmp} es) q ≡ find nat_cmp q es
get_in es q s = get-from_sorted nat_cmp es q (test_of (in_order es) s)

pub entries_in : (es : Keyed) → in_order es ≡ true → fin.entries (fin.from_sorted {R = nat_cmp} es) ≡ es
entries_in es s = entries-from_sorted nat_cmp es (test_of (in_order es) s)

-- a value that is put in its place is put into the map
pub put_in : (es es' : Keyed) (s : ℕ) (keys : Keys) → in_order es ≡ true → es' ≡ put nat_cmp s keys es →
    (in_order es' ≡ true) × (fin.from_sorted {R = nat_cmp} es' ≡ fin.insert (fin.from_sorted es) s keys)
put_in es es' s keys ok is =
    let m : Waiting = fin.from_sorted es in
    let listed : fin.entries (fin.insert m s keys) ≡ es' =
    entries-insert nat_cmp_total m s keys ∙ ap (put nat_cmp s keys) (entries_in es ok) ∙ sym is in
    let sorted : in_order es' ≡ true = true_of (in_order es') (subst (λ l. T (in_order l)) listed (entries_sorted (fin.insert m s keys))) in
    (sorted, same_entries_map (fin.from_sorted es') (fin.insert m s keys) (entries_in es' sorted ∙ sym listed))

-- a new list for a slot that has one
pub set_in : (es : Keyed) (at s : ℕ) (keys : Keys) → in_order es ≡ true → at < length es → (get_or es at (0, fin_set.empty)).0 ≡ s →
    (in_order (set es at (s, keys)) ≡ true) × (fin.from_sorted {R = nat_cmp} (set es at (s, keys)) ≡ fin.insert (fin.from_sorted es) s keys)
set_in es at s keys ok lt is =
    put_in es (set es at (s, keys)) s keys ok
    (sym (put-at s keys es at (0, fin_set.empty) lt (λ k below. omega (arith, rises es k at (0, fin_set.empty) ok below lt, is)) is))

-- a list for a slot that has none
pub insert_in : (es : Keyed) (at s : ℕ) (keys : Keys) → in_order es ≡ true → at ≤ length es → ((k : ℕ) → k < at → (get_or es k (0, fin_set.empty)).0 < s) →
    (at < length es → s < (get_or es at (0, fin_set.empty)).0) →
    (in_order (insert es at (s, keys)) ≡ true) × (fin.from_sorted {R = nat_cmp} (insert es at (s, keys)) ≡ fin.insert (fin.from_sorted es) s keys)
insert_in es at s keys ok le before after =
    put_in es (insert es at (s, keys)) s keys ok (sym (put-between s keys es at (0, fin_set.empty) le before after))

-- the entries whose slots pass a test
pub retained_in : (es es' : Keyed) (p : ℕ → Bool) → in_order es ≡ true → where_key nat_cmp p es ≡ es' →
    (in_order es' ≡ true) × (fin.from_sorted {R = nat_cmp} es' ≡ fin.retain_keys (fin.from_sorted es) p)
retained_in es es' p ok is =
    let alike : (q x : ℕ) → nat_cmp q x ≡ Equal → p x ≡ p q = λ q x t. ap p (sym (nat_cmp-IsAntisymmetric q x t)) in
    let sorted : in_order es' ≡ true =
    ap in_order (sym is) ∙ true_of (in_order (where_key nat_cmp p es)) (is_sorted-where_key nat_cmp p es (test_of (in_order es) ok)) in (
      sorted,
      same_map nat_cmp_total nat_cmp-IsAntisymmetric (fin.from_sorted es') (fin.retain_keys (fin.from_sorted es) p) (λ q.
          get_in es' q sorted ∙ ap (find nat_cmp q) (sym is) ∙ find-where_key nat_cmp p q (alike q) es
          ∙ sym (get-retain_keys (fin.from_sorted es) p q (alike q) ∙ ap (λ o. cond (p q) o None) (get_in es q ok))),
    )

-- ---- the list of a slot

pub list_found : (es : Keyed) (s : ℕ) (o : Option Keys) → in_order es ≡ true → find nat_cmp s es ≡ o → list_at (fin.from_sorted es) s ≡ unwrap_or o fin_set.empty
list_found es s o ok e = ap (λ x. unwrap_or x fin_set.empty) (get_in es s ok ∙ e)

none_or_some : {X : Type 0} (o : Option X) → (o ≡ None) ⊎ ((x : X) × (o ≡ Some x))
none_or_some None = inl refl
none_or_some (Some x) = inr (x, refl)

-- no entry has this slot
pub none_found : (es : Keyed) (s : ℕ) → ((k : ℕ) → k < length es → (get_or es k (0, fin_set.empty)).0 ≢ s) → find nat_cmp s es ≡ None
none_found es s other =
    ⊎_elim (λ e. e) (λ w. let m = find_place s es w.0 (0, fin_set.empty) w.1 in absurd (other m.0 m.1 m.2)) (none_or_some (find nat_cmp s es))

-- a key that waits is in the list of some entry
pub waits_at : (es : Keyed) (s : ℕ) (q : Priority) → in_order es ≡ true → fin_set.contains (list_at (fin.from_sorted es) s) q ≡ true →
    (k : ℕ) × (k < length es) × ((get_or es k (0, fin_set.empty)).0 ≡ s) × (fin_set.contains (get_or es k (0, fin_set.empty)).1 q ≡ true)
waits_at es s q ok h =
    ⊎_elim
    (λ e. absurd (has_none q (sym (ap (λ l. fin_set.contains l q) (list_found es s None ok e)) ∙ h)))
    (λ w. let m = find_place s es w.0 (0, fin_set.empty) w.1 in
    (m.0, m.1, m.2, ap (λ l. fin_set.contains l q) m.3 ∙ sym (ap (λ l. fin_set.contains l q) (list_found es s (Some w.0) ok w.1)) ∙ h))
    (none_or_some (find nat_cmp s es))

-- the key of an entry waits
pub waits_from : (es : Keyed) (k : ℕ) (q : Priority) → in_order es ≡ true → k < length es → fin_set.contains (get_or es k (0, fin_set.empty)).1 q ≡ true →
    fin_set.contains (list_at (fin.from_sorted es) (get_or es k (0, fin_set.empty)).0) q ≡ true
waits_from es k q ok lt h =
    ap (λ l. fin_set.contains l q) (list_found es (get_or es k (0, fin_set.empty)).0 (Some (get_or es k (0, fin_set.empty)).1) ok (find_at es k (0, fin_set.empty) ok lt)) ∙ h

-- how many keys wait
pub sum_in : (heaps : Heaps) (es : List WaitingList) → in_order (lists_in heaps es) ≡ true →
    sum_by fin_set.len (fin.values (waiting_in heaps es)) ≡ sum_by (λ e. fin_set.len (list_of heaps e.heap)) es
unfolding waiting_in
sum_in heaps es ok = ap (λ l. sum_by fin_set.len (map (λ e. e.1) l)) (entries_in (lists_in heaps es) ok) ∙ sum_lists heaps es where
  sum_lists : (heaps : Heaps) (es : List WaitingList) → sum_by fin_set.len (map (λ e. e.1) (lists_in heaps es)) ≡ sum_by (λ e. fin_set.len (list_of heaps e.heap)) es
  sum_lists heaps [] = refl
  sum_lists heaps (e ∷ es) =
      sum_by-cons fin_set.len (list_of heaps e.heap) (map (λ e. e.1) (lists_in heaps es))
      ∙ ap (λ n. fin_set.len (list_of heaps e.heap) + n) (sum_lists heaps es)
      ∙ sym (sum_by-cons (λ e. fin_set.len (list_of heaps e.heap)) e es)
