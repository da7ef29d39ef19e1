-- The places of events in time order, and what a change makes of them.
use Rattle.std.proofs.Common.{◌≡◌, ◌≢◌, ℕ, ◌<◌, ◌≤◌, false, List, [], ◌∷◌, ◌++◌, map, refl, sym, ap, ◌∙◌, inl, inr}
use Rattle.std.specs.List.{All}
use Rattle.std.specs.Cmp.{IsTotalOrder, nat_cmp_total}
use Rattle.std.specs.declared.cmp.Ordering.{Ordering}
use Rattle.std.specs.declared.cmp.Ordering.TheVariants.{Less, Equal, Greater}
use Rattle.std.specs.Ordering.{is_lt, is_eq}
use Rattle.std.specs.Set.{remove_key}
use Rattle.std.specs.BTreeMap.{is_at}
use Rattle.std.specs.BTreeSet.{insert_key}
use Rattle.std.proofs.lemmas.Cmp.{then_total, on_total, tied_itself}
use Rattle.std.proofs.lemmas.Bool.{cases_Bool, cond-true, cond-false}
use Rattle.std.proofs.lemmas.List.Elements.{All-nil, All-cons, All-head, All-tail, All-weaker}
use Rattle.pf_scenario.proofs.Lists.{Pairs, Pairs-from_all, AllPairs-from_pairs, Pairs_middle, Pairs_without, All_left, All_right, All_middle, All_without}
use Rattle.pf_scenario.proofs.Sorting.{put_low, put_high, All-sorted_by}
use Rattle.pf_scenario.proofs.Indexing.{time_differs, apart_back, around_apart, put_note, take_note, join_excludes, leave_excludes}
use Rattle.pf_scenario.proofs.Timeline.{in_time_middle}
use Rattle.pf_scenario.specs.Sorted.{put_in_order}
use Rattle.pf_scenario.specs.Event.{run_cmp, is_join_of, is_leave_of}
use Rattle.pf_scenario.specs.TimeOrder.{time_cmp, in_time_order}
use Rattle.pf_scenario.specs.Place.{place_of, place_cmp, IsPlaceable}
use Rattle.pf_scenario.specs.Index.{AreDistinctEvents, IsIndexed, IsNewEvent, Notes}
use Rattle.pf_scenario.specs.declared.event.Numbered.{Numbered}
use Rattle.pf_scenario.specs.declared.place.Place.{Place}

pub place_cmp_total : IsTotalOrder place_cmp
place_cmp_total =
    then_total (on_total (λ (p : Place). p.slot) nat_cmp_total)
    (then_total (on_total (λ (p : Place). p.kind) nat_cmp_total)
    (then_total (on_total (λ (p : Place). p.task) nat_cmp_total) (on_total (λ (p : Place). p.id) nat_cmp_total)))

-- places stand as their events do
pub cmp_of : (x y : Numbered) → place_cmp (place_of x) (place_of y) ≡ time_cmp x y
unfolding time_cmp run_cmp
cmp_of x y = refl

map_put : (x : Numbered) (ys : List Numbered) → map place_of (put_in_order time_cmp x ys) ≡ put_in_order place_cmp (place_of x) (map place_of ys)
map_put x [] = refl
map_put x (y ∷ ys) =
    let same = ap is_lt (cmp_of x y) in
    elim (cases_Bool (is_lt (time_cmp x y))) [
      | inl low ↦ ap (map place_of) (put_low time_cmp x y ys low) ∙ sym (put_low place_cmp (place_of x) (place_of y) (map place_of ys) (same ∙ low))
      | inr high ↦
          ap (map place_of) (put_high time_cmp x y ys high)
          ∙ ap (λ zs. place_of y ∷ zs) (map_put x ys)
          ∙ sym (put_high place_cmp (place_of x) (place_of y) (map place_of ys) (same ∙ high))
    ]

-- k ties with none of these
abbrev pub Untied : {K : Type 0} → (K → K → Ordering) → K → List K → Type 0
Untied R k = All (λ q. R k q ≢ Equal)

-- a new key goes where `put_in_order` puts it, and from there it is taken out again
pub insert_key_put : {K : Type 0} (R : K → K → Ordering) (k : K) (ks : List K) → Untied R k ks → insert_key R ks k ≡ put_in_order R k ks
insert_key_put R k [] h = refl
insert_key_put R k (x ∷ xs) h = by (insert_key_put R k xs (All-tail (λ q. R k q ≢ Equal) x xs h)) (R k x) refl
  where
    by : insert_key R xs k ≡ put_in_order R k xs → (r : Ordering) → R k x ≡ r → insert_key R (x ∷ xs) k ≡ put_in_order R k (x ∷ xs)
    by later Less e = rw e refl
    by later Equal e = absurd (All-head (λ q. R k q ≢ Equal) x xs h e)
    by later Greater e = rw e (ap (λ zs. x ∷ zs) later)

pub not_at : {K : Type 0} (R : K → K → Ordering) (k q : K) → R k q ≢ Equal → is_at (R k) q ≡ false
not_at R k q differ = by (R k q) refl
  where
    by : (r : Ordering) → R k q ≡ r → is_eq (R k q) ≡ false
    by Less e = rw e refl
    by Equal e = absurd (differ e)
    by Greater e = rw e refl

pub remove_put : {K : Type 0} {R : K → K → Ordering} (o : IsTotalOrder R) (k : K) (ks : List K) → Untied R k ks → remove_key (is_at (R k)) (put_in_order R k ks) ≡ ks
remove_put {R = R} o k [] h = rw (tied_itself o k) refl
remove_put {R = R} o k (x ∷ xs) h =
    elim (cases_Bool (is_lt (R k x))) [
      | inl low ↦ ap (remove_key (is_at (R k))) (put_low R k x xs low) ∙ cond-true (is_at (R k) k) _ _ (ap is_eq (tied_itself o k))
      | inr high ↦
          ap (remove_key (is_at (R k))) (put_high R k x xs high)
          ∙ cond-false (is_at (R k) x) _ _ (not_at R k x (All-head (λ q. R k q ≢ Equal) x xs h))
          ∙ ap (λ zs. x ∷ zs) (remove_put o k xs (All-tail (λ q. R k q ≢ Equal) x xs h))
    ]

-- the places of these events
abbrev pub places_of : List Numbered → List Place
places_of events = map place_of (in_time_order events)

-- the place of an event ties with none of events that are apart from it
untied_list : (x : Numbered) (ys : List Numbered) → All (λ y. AreDistinctEvents y x) ys → Untied place_cmp (place_of x) (map place_of ys)
untied_list x [] h = All-nil (λ q. place_cmp (place_of x) q ≢ Equal)
untied_list x (y ∷ ys) h =
    let here = apart_back y x (All-head (λ y. AreDistinctEvents y x) y ys h) in
    All-cons (λ q. place_cmp (place_of x) q ≢ Equal) (place_of y) (map place_of ys) (λ tie. time_differs x y here.numbers (sym (cmp_of x y) ∙ tie)) (untied_list x ys (All-tail (λ y. AreDistinctEvents y x) y ys h))

pub untied : (x : Numbered) (events : List Numbered) → All (λ y. AreDistinctEvents y x) events → Untied place_cmp (place_of x) (places_of events)
untied x events h = untied_list x (in_time_order events) (All-sorted_by (λ y. AreDistinctEvents y x) time_cmp events h)

-- the place of an event amid others
pub placed_middle : (front : List Numbered) (x : Numbered) (back : List Numbered) → All (λ y. AreDistinctEvents y x) front → places_of (front ++ x ∷ back) ≡ put_in_order place_cmp (place_of x) (places_of (front ++ back))
placed_middle front x back apart =
    ap (map place_of) (in_time_middle front x back apart) ∙ map_put x (in_time_order (front ++ back))

-- the events of an agenda about one of them are apart from it
pub apart_around : (front : List Numbered) (x : Numbered) (back : List Numbered) (places : List Place) (joins leaves : List ℕ) → IsIndexed (front ++ x ∷ back) places joins leaves → All (λ y. AreDistinctEvents y x) (front ++ back)
apart_around front x back places joins leaves h =
    around_apart front x back (Pairs-from_all AreDistinctEvents (front ++ x ∷ back) h.apart)

-- its place among the places of the others
pub held_place : (front : List Numbered) (x : Numbered) (back : List Numbered) (places : List Place) (joins leaves : List ℕ) → IsIndexed (front ++ x ∷ back) places joins leaves → places ≡ put_in_order place_cmp (place_of x) (places_of (front ++ back))
held_place front x back places joins leaves h =
    h.placed ∙ placed_middle front x back (All_left (λ y. AreDistinctEvents y x) front back (apart_around front x back places joins leaves h))

-- an agenda without an event
pub taken_place : (front : List Numbered) (x : Numbered) (back : List Numbered) (places : List Place) (joins leaves : List ℕ) → IsIndexed (front ++ x ∷ back) places joins leaves → remove_key (is_at (place_cmp (place_of x))) places ≡ places_of (front ++ back)
taken_place front x back places joins leaves h =
    ap (remove_key (is_at (place_cmp (place_of x)))) (held_place front x back places joins leaves h)
    ∙ remove_put place_cmp_total (place_of x) (places_of (front ++ back)) (untied x (front ++ back) (apart_around front x back places joins leaves h))

pub indexed_taken : (front : List Numbered) (x : Numbered) (back : List Numbered) (places : List Place) (joins leaves joins' leaves' : List ℕ) → IsIndexed (front ++ x ∷ back) places joins leaves → Notes is_join_of joins joins' x.event 0 → Notes is_leave_of leaves leaves' x.event 0 → IsIndexed (front ++ back) (places_of (front ++ back)) joins' leaves'
indexed_taken front x back places joins leaves joins' leaves' h note_join note_leave =
    let apart = apart_around front x back places joins leaves h in
    record {
      rising = AllPairs-from_pairs (λ x y. x.id < y.id) (front ++ back) (Pairs_without (λ x y. x.id < y.id) front x back (Pairs-from_all (λ x y. x.id < y.id) (front ++ x ∷ back) h.rising));
      apart = AllPairs-from_pairs AreDistinctEvents (front ++ back) (Pairs_without AreDistinctEvents front x back (Pairs-from_all AreDistinctEvents (front ++ x ∷ back) h.apart));
      given = All_without (λ y. 1 ≤ y.id) front x back h.given;
      placeable = All_without IsPlaceable front x back h.placeable;
      placed = refl;
      joined = take_note is_join_of joins joins' front x back (λ t y a. join_excludes t x y (apart_back y x a)) apart h.joined note_join;
      left = take_note is_leave_of leaves leaves' front x back (λ t y a. leave_excludes t x y (apart_back y x a)) apart h.left note_leave;
    }

-- an agenda with one event more
pub indexed_put : (front : List Numbered) (x : Numbered) (back : List Numbered) (places : List Place) (joins leaves joins' leaves' : List ℕ) → IsIndexed (front ++ back) places joins leaves → IsNewEvent x (front ++ back) → Pairs (λ x y. x.id < y.id) (front ++ x ∷ back) → Notes is_join_of joins joins' x.event x.id → Notes is_leave_of leaves leaves' x.event x.id → IsIndexed (front ++ x ∷ back) (put_in_order place_cmp (place_of x) places) joins' leaves'
indexed_put front x back places joins leaves joins' leaves' h new rising note_join note_leave =
    let before = All_left (λ y. AreDistinctEvents y x) front back new.apart in
    let after = All-weaker (λ y. AreDistinctEvents y x) (AreDistinctEvents x) (λ y a. apart_back y x a) back (All_right (λ y. AreDistinctEvents y x) front back new.apart) in
    record {
      rising = AllPairs-from_pairs (λ x y. x.id < y.id) (front ++ x ∷ back) rising;
      apart = AllPairs-from_pairs AreDistinctEvents (front ++ x ∷ back) (Pairs_middle AreDistinctEvents front x back (Pairs-from_all AreDistinctEvents (front ++ back) h.apart) before after);
      given = All_middle (λ y. 1 ≤ y.id) front x back h.given new.given;
      placeable = All_middle IsPlaceable front x back h.placeable new.placeable;
      placed = ap (put_in_order place_cmp (place_of x)) h.placed ∙ sym (placed_middle front x back before);
      joined = put_note is_join_of joins joins' front x back (λ t y a. join_excludes t x y (apart_back y x a)) new.apart h.joined note_join;
      left = put_note is_leave_of leaves leaves' front x back (λ t y a. leave_excludes t x y (apart_back y x a)) new.apart h.left note_leave;
    }
