-- An agenda after a push, a replacement and a taking out.
use Rattle.std.proofs.Common.{◌≡◌, ◌≢◌, ℕ, ◌<◌, Bool, true, false, not, ◌||◌, Some, List, [], ◌∷◌, ◌++◌, refl, sym, ap, ◌∙◌, subst, arith, inl, inr}
use Rattle.std.specs.Prelude.{◌==◌}
use Rattle.std.specs.List.{All, list_any}
use Rattle.std.specs.Cmp.{IsTotalOrder}
use Rattle.std.specs.declared.cmp.Ordering.{Ordering}
use Rattle.std.specs.declared.cmp.Ordering.TheVariants.{Less, Equal, Greater}
use Rattle.std.specs.Ordering.{is_eq, ordering_reverse}
use Rattle.std.specs.Set.{remove_key}
use Rattle.std.specs.BTreeMap.{is_at}
use Rattle.std.specs.BTreeSet.{insert_key}
use Rattle.std.proofs.lemmas.Bool.{cases_Bool, false≢true, or_parts, or_cases, eqb-true}
use Rattle.std.proofs.lemmas.Bool.Decides.{nat_tests}
use Rattle.std.proofs.lemmas.List.{append-nil}
use Rattle.std.proofs.lemmas.List.Elements.{All-nil, All-head, All-tail, All-weaker}
use Rattle.pf_lemmas.proofs.Orders.{is_equal}
use Rattle.pf_scenario.proofs.Lists.{Pairs-from_all, Pairs_middle, Pairs_without, Pairs_before, Pairs_after, none_passes, All_at}
use Rattle.pf_scenario.proofs.Sorting.{put_comm, All-put, list_any-put}
use Rattle.pf_scenario.proofs.Indexing.{room_held}
use Rattle.pf_scenario.proofs.Scenarios.{without_held, replaced_held}
use Rattle.pf_scenario.proofs.Placing.{place_cmp_total, Untied, apart_around, held_place, taken_place, insert_key_put, not_at, remove_put, places_of, untied, indexed_put, indexed_taken}
use Rattle.pf_scenario.specs.Sorted.{put_in_order}
use Rattle.pf_scenario.specs.Event.{is_join_of, is_leave_of}
use Rattle.pf_scenario.specs.Scenario.{with_number, events_without}
use Rattle.pf_scenario.specs.Place.{place_of, place_cmp, IsPlaceable, IsMove}
use Rattle.pf_scenario.specs.Index.{IsIndexed, IsNewEvent, HasTaskRoom, Notes, event_at, with_event}
use Rattle.pf_scenario.specs.declared.event.Event.{Event}
use Rattle.pf_scenario.specs.declared.event.Numbered.{Numbered}
use Rattle.pf_scenario.specs.declared.place.Place.{Place}

-- places that tie are equal
same_place : (p q : Place) → place_cmp p q ≡ Equal → p ≡ q
same_place p q tie =
    let slots : p.slot ≡ q.slot = grind (arith, nat_tests) in
    let kinds : p.kind ≡ q.kind = grind (arith, nat_tests) in
    let tasks : p.task ≡ q.task = grind (arith, nat_tests) in
    let ids : p.id ≡ q.id = grind (arith, nat_tests) in
    made slots kinds tasks ids
  where
    made : p.slot ≡ q.slot → p.kind ≡ q.kind → p.task ≡ q.task → p.id ≡ q.id → p ≡ q
    made slots kinds tasks ids =
        ap (λ n. record p { slot = n }) slots
        ∙ ap (λ n. record p { slot = q.slot; kind = n }) kinds
        ∙ ap (λ n. record p { slot = q.slot; kind = q.kind; task = n }) tasks
        ∙ ap (λ n. record q { id = n }) ids

not_equal : (r : Ordering) → is_eq r ≡ false → r ≢ Equal
not_equal Less h e = absurd (cc)
not_equal Equal h e = absurd (false≢true (sym h))
not_equal Greater h e = absurd (cc)

reversed : (r : Ordering) → r ≢ Equal → ordering_reverse r ≢ Equal
reversed Less h e = absurd (cc)
reversed Equal h e = absurd (h refl)
reversed Greater h e = absurd (cc)

none_at : {K : Type 0} (R : K → K → Ordering) (k : K) (ks : List K) → Untied R k ks → list_any (is_at (R k)) ks ≡ false
none_at R k [] h = refl
none_at R k (x ∷ xs) h =
    ap (λ b. b || list_any (is_at (R k)) xs) (not_at R k x (All-head (λ q. R k q ≢ Equal) x xs h)) ∙ none_at R k xs (All-tail (λ q. R k q ≢ Equal) x xs h)

-- a key that goes to a new place
pub moved : {K : Type 0} {R : K → K → Ordering} (o : IsTotalOrder R) (from to : K) (ks : List K) → list_any (is_at (R to)) (put_in_order R from ks) ≡ false → Untied R from ks → remove_key (is_at (R from)) (insert_key R (put_in_order R from ks) to) ≡ put_in_order R to ks
moved {R = R} o from to ks none rest =
    let new = All-weaker (λ q. is_at (R to) q ≡ false) (λ q. R to q ≢ Equal) (λ q h. not_equal (R to q) h) (put_in_order R from ks) (none_passes (is_at (R to)) (put_in_order R from ks) none) in
    let parts = or_parts (is_at (R to) from) (list_any (is_at (R to)) ks) (sym (list_any-put (is_at (R to)) R from ks) ∙ none) in
    let apart : R to from ≢ Equal = not_equal (R to from) parts.0 in
    let back : R from to ≢ Equal = subst (λ r. r ≢ Equal) (sym (o.antisymm from to)) (reversed (R to from) apart) in
    ap (remove_key (is_at (R from))) (insert_key_put R to (put_in_order R from ks) new ∙ put_comm o to from apart back ks)
    ∙ remove_put o from (put_in_order R to ks) (All-put (λ q. R from q ≢ Equal) R to ks back rest)

-- a key that stays where it is
pub stayed : (from to : Place) (ks : List Place) → list_any (is_at (place_cmp to)) (put_in_order place_cmp from ks) ≡ true → Untied place_cmp to ks → put_in_order place_cmp from ks ≡ put_in_order place_cmp to ks
stayed from to ks some rest =
    elim (or_cases (is_at (place_cmp to) from) (list_any (is_at (place_cmp to)) ks) (sym (list_any-put (is_at (place_cmp to)) place_cmp from ks) ∙ some)) [
      | inl here ↦ ap (λ p. put_in_order place_cmp p ks) (sym (same_place to from (is_equal (place_cmp to from) here)))
      | inr there ↦ absurd (false≢true (sym (none_at place_cmp to ks rest) ∙ there))
    ]

-- whether an insert added its key
pub was_there : (added held : Bool) → added ≡ not held → added ≡ false → held ≡ true
was_there added true e h = refl
was_there added false e h = absurd (false≢true (sym h ∙ e))

pub was_new : (added held : Bool) → added ≡ not held → added ≡ true → held ≡ false
was_new added true e h = absurd (false≢true (sym e ∙ h))
was_new added false e h = refl

-- a push
pub new_place : (events : List Numbered) (x : Numbered) (places : List Place) (joins leaves : List ℕ) → IsIndexed events places joins leaves → IsNewEvent x events → Untied place_cmp (place_of x) places
new_place events x places joins leaves h new =
    subst (Untied place_cmp (place_of x)) (sym h.placed) (untied x events new.apart)

pub taken_back : (events : List Numbered) (x : Numbered) (places : List Place) (joins leaves : List ℕ) → IsIndexed events places joins leaves → IsNewEvent x events → remove_key (is_at (place_cmp (place_of x))) (insert_key place_cmp places (place_of x)) ≡ places
taken_back events x places joins leaves h new =
    let free = new_place events x places joins leaves h new in
    ap (remove_key (is_at (place_cmp (place_of x)))) (insert_key_put place_cmp (place_of x) places free) ∙ remove_put place_cmp_total (place_of x) places free

pub indexed_pushed : (events : List Numbered) (x : Numbered) (places : List Place) (joins leaves joins' leaves' : List ℕ) → IsIndexed events places joins leaves → IsNewEvent x events → All (λ y. y.id < x.id) events → Notes is_join_of joins joins' x.event x.id → Notes is_leave_of leaves leaves' x.event x.id → IsIndexed (events ++ x ∷ []) (insert_key place_cmp places (place_of x)) joins' leaves'
indexed_pushed events x places joins leaves joins' leaves' h new last note_join note_leave =
    let e = sym (append-nil events) in
    let h' = subst (λ es. IsIndexed es places joins leaves) e h in
    let new' = subst (IsNewEvent x) e new in
    let rising = Pairs_middle (λ x y. x.id < y.id) events x [] (Pairs-from_all (λ x y. x.id < y.id) (events ++ []) h'.rising) last (All-nil (λ y. x.id < y.id)) in
    subst (λ ps. IsIndexed (events ++ x ∷ []) ps joins' leaves') (sym (insert_key_put place_cmp (place_of x) places (new_place events x places joins leaves h new)))
    (indexed_put events x [] places joins leaves joins' leaves' h' new' rising note_join note_leave)

-- an event in the place of another of its number
pub indexed_replaced : (front : List Numbered) (x y : Numbered) (back : List Numbered) (places : List Place) (joins leaves joins' leaves' joins'' leaves'' : List ℕ) → IsIndexed (front ++ x ∷ back) places joins leaves → y.id ≡ x.id → IsNewEvent y (front ++ back) → Notes is_join_of joins joins' x.event 0 → Notes is_leave_of leaves leaves' x.event 0 → Notes is_join_of joins' joins'' y.event y.id → Notes is_leave_of leaves' leaves'' y.event y.id → IsIndexed (front ++ y ∷ back) (put_in_order place_cmp (place_of y) (places_of (front ++ back))) joins'' leaves''
indexed_replaced front x y back places joins leaves joins' leaves' joins'' leaves'' h same new out_join out_leave in_join in_leave =
    let up = Pairs-from_all (λ x y. x.id < y.id) (front ++ x ∷ back) h.rising in
    let rest = Pairs_without (λ x y. x.id < y.id) front x back up in
    let before = subst (λ n. All (λ z. z.id < n) front) (sym same) (Pairs_before (λ x y. x.id < y.id) front x back up) in
    let after = subst (λ n. All (λ z. n < z.id) back) (sym same) (Pairs_after (λ x y. x.id < y.id) front x back up) in
    let rising = Pairs_middle (λ x y. x.id < y.id) front y back rest before after in
    let taken = indexed_taken front x back places joins leaves joins' leaves' h out_join out_leave in
    indexed_put front y back (places_of (front ++ back)) joins' leaves' joins'' leaves'' taken new rising in_join in_leave

-- an event that is held, amid the others
pub record Found (events : List Numbered) (id : ℕ) (event : Event) : Type 0 where
  pub front : List Numbered
  pub back : List Numbered
  pub is : events ≡ front ++ with_number id event ∷ back

pub found_event : (events : List Numbered) (id : ℕ) (event : Event) → event_at events id ≡ Some event → Found events id event
found_event [] id event h = absurd (cc)
found_event (x ∷ xs) id event h =
    elim (cases_Bool (x.id == id)) [
      | inl here ↦
          let whole : Some x.event ≡ Some event = rw here at h in
          let same : x.event ≡ event = cc in
          record { front = []; back = xs; is = ap (λ y. y ∷ xs) (ap (λ n. record x { id = n }) (eqb-true x.id id here) ∙ ap (λ v. with_number id v) same) }
      | inr other ↦
          let later = rw other at h in
          let rest = found_event xs id event later in
          record { front = x ∷ rest.front; back = rest.back; is = ap (λ ys. x ∷ ys) rest.is }
    ]

-- it has a place, and the tables have room for it
pub held_placeable : (events : List Numbered) (id : ℕ) (event : Event) → All IsPlaceable events → event_at events id ≡ Some event → IsPlaceable (with_number id event)
held_placeable events id event h e =
    let f = found_event events id event e in
    All_at IsPlaceable f.front (with_number id event) f.back (subst (All IsPlaceable) f.is h)

pub held_room : (events : List Numbered) (id : ℕ) (event : Event) (places : List Place) (joins leaves : List ℕ) → IsIndexed events places joins leaves → event_at events id ≡ Some event → HasTaskRoom joins leaves event
held_room events id event places joins leaves h e =
    let f = found_event events id event e in
    room_held f.front (with_number id event) f.back places joins leaves (subst (λ es. IsIndexed es places joins leaves) f.is h)

-- a taking out
pub indexed_without : (events : List Numbered) (id : ℕ) (event : Event) (places : List Place) (joins leaves joins' leaves' : List ℕ) → IsIndexed events places joins leaves → event_at events id ≡ Some event → Notes is_join_of joins joins' event 0 → Notes is_leave_of leaves leaves' event 0 → IsIndexed (events_without id events) (remove_key (is_at (place_cmp (place_of (with_number id event)))) places) joins' leaves'
indexed_without events id event places joins leaves joins' leaves' h e note_join note_leave =
    let f = found_event events id event e in
    let x = with_number id event in
    let split = subst (λ es. IsIndexed es places joins leaves) f.is h in
    let rest = without_held events f.front x f.back id h.rising f.is refl in
    let gone = taken_place f.front x f.back places joins leaves split in
    rw (rest, gone) (indexed_taken f.front x f.back places joins leaves joins' leaves' split note_join note_leave)

-- a replacement
pub indexed_with : (events : List Numbered) (id : ℕ) (was event : Event) (places places' : List Place) (joins leaves joins' leaves' joins'' leaves'' : List ℕ) → IsIndexed events places joins leaves → event_at events id ≡ Some was → IsNewEvent (with_number id event) (events_without id events) → IsMove (place_of (with_number id was)) (place_of (with_number id event)) places places' → Notes is_join_of joins joins' was 0 → Notes is_leave_of leaves leaves' was 0 → Notes is_join_of joins' joins'' event id → Notes is_leave_of leaves' leaves'' event id → IsIndexed (with_event id event events) places' joins'' leaves''
indexed_with events id was event places places' joins leaves joins' leaves' joins'' leaves'' h e new move out_join out_leave in_join in_leave =
    let f = found_event events id was e in
    let x = with_number id was in
    let y = with_number id event in
    let split = subst (λ es. IsIndexed es places joins leaves) f.is h in
    let fresh = subst (IsNewEvent y) (without_held events f.front x f.back id h.rising f.is refl) new in
    let others = f.front ++ f.back in
    let placed = move (places_of others) (untied x others (apart_around f.front x f.back places joins leaves split)) (untied y others fresh.apart) (held_place f.front x f.back places joins leaves split) in
    let done = indexed_replaced f.front x y f.back places joins leaves joins' leaves' joins'' leaves'' split refl fresh out_join out_leave in_join in_leave in
    rw (replaced_held events f.front x f.back id event h.rising f.is refl, placed) done
