-- The listed tasks, one more at a time, and that they are those of the definition.
use Rattle.std.proofs.Common.{◌≡◌, ◌≢◌, ℕ, zero, suc, ◌+◌, ◌-◌, ◌<◌, ◌≤◌, Bool, true, false, ◌&&◌, ◌||◌, ◌==◌, nat_lt, ltb, cond, Option, None, Some, List, [], ◌∷◌, ◌++◌, length, get_or, map, filter, find, inl, inr, refl, sym, ap, ap₂, ◌∙◌, arith}
use Rattle.std.specs.List.{list_any, position, position_or_len, range_with_len, remove, slice_get}
use Rattle.std.proofs.lemmas.Bool.{cases_lt, cond-true, cond-false, eqb-true, lt-ltb, ne_eqb}
use Rattle.std.proofs.lemmas.List.{append-nil, map-append}
use Rattle.std.proofs.lemmas.List.Folds.{find_at}
use Rattle.std.proofs.lemmas.List.Quantifiers.{position-Some}
use Rattle.std.proofs.lemmas.List.Sums.{position_or_len_is}
use Rattle.std.proofs.lemmas.Option.{slice_get-get_or, slice_get_past}
use Rattle.std.proofs.lemmas.List.Elements.{filter_agree, filter-append}
use Rattle.std.proofs.lemmas.List.Sorted.{list_any-IsPermutation}
use Rattle.pf_lemmas.proofs.Ranges.{range_more}
use Rattle.pf_weight.specs.declared.task.TheConstants.{LARGEST_TASK}
use Rattle.pf_order.specs.declared.pick.Pick.{Pick}
use Rattle.pf_scenario.specs.Event.{slot_of}
use Rattle.pf_scenario.specs.Scenario.{Plan}
use Rattle.pf_scenario.specs.declared.event.Numbered.{Numbered}
use Rattle.pf_run.specs.declared.denied.Denied.{Denied}
use Rattle.pf_run.specs.Record.{is_denied}
use Rattle.pf_run.specs.Computed.{run_of}
use Rattle.pf_collections.specs.Table.Lists.{noted_of}
use Rattle.pf_tally.specs.Own.{is_own, AreDiaries}
use Rattle.pf_tally.specs.Standing.{AreNumbersOf}
use Rattle.pf_courses.specs.Built.{is_listed_by, listing_by, listings_by}
use Rattle.pf_courses.specs.Course.{Track, tracks_of}
use Rattle.pf_courses.specs.Listing.{Listing, is_listed, listings_of}

-- one number more
module _ (tracks : List Track) (own : List (List Numbered)) (denied : List ℕ) (n : ℕ) where
  listed_step : (task : ℕ) → 1 ≤ task → listings_by tracks own denied n (task + 1 - 1)
      ≡ listings_by tracks own denied n (task - 1) ++ cond (is_listed_by own n task) (listing_by tracks own denied task ∷ []) []
  listed_step task some =
      let f : ℕ → Listing = listing_by tracks own denied in
      let p : ℕ → Bool = is_listed_by own n in
      let before = range_with_len 1 (task - 1) in
      ap (listings_by tracks own denied n) (let z : task + 1 - 1 ≡ (task - 1) + 1 = omega arith in z)
      ∙ ap (λ ts. map f (filter p ts)) (range_more 1 (task - 1))
      ∙ ap (map f) (filter-append p before ((1 + (task - 1)) ∷ []))
      ∙ map-append f (filter p before) (filter p ((1 + (task - 1)) ∷ []))
      ∙ ap (λ t. map f (filter p before) ++ map f (filter p (t ∷ []))) (let z : 1 + (task - 1) ≡ task = omega arith in z)
      ∙ ap (λ ls. map f (filter p before) ++ ls) (one (p task))
    where
      one : (b : Bool) → map (listing_by tracks own denied) (cond b (task ∷ []) []) ≡ cond b (listing_by tracks own denied task ∷ []) []
      one true = refl
      one false = refl

  pub listed_one : (before after : List Listing) (task : ℕ) (l : Listing) → 1 ≤ task → is_listed_by own n task ≡ true → l ≡ listing_by tracks own denied task → after ≡ before ++ l ∷ [] →
      before ≡ listings_by tracks own denied n (task - 1) → after ≡ listings_by tracks own denied n (task + 1 - 1)
  listed_one before after task l some is of_task push so_far =
      let m = listing_by tracks own denied task in
      push ∙ ap₂ (λ ls l. ls ++ l ∷ []) so_far of_task
      ∙ ap (λ ls. listings_by tracks own denied n (task - 1) ++ ls) (sym (cond-true (is_listed_by own n task) (m ∷ []) [] is))
      ∙ sym (listed_step task some)

  pub listed_none : (before after : List Listing) (task : ℕ) → 1 ≤ task → is_listed_by own n task ≡ false → after ≡ before →
      before ≡ listings_by tracks own denied n (task - 1) → after ≡ listings_by tracks own denied n (task + 1 - 1)
  listed_none before after task some is same so_far =
      let m = listing_by tracks own denied task in
      same ∙ so_far ∙ sym (append-nil (listings_by tracks own denied n (task - 1)))
      ∙ ap (λ ls. listings_by tracks own denied n (task - 1) ++ ls) (sym (cond-false (is_listed_by own n task) (m ∷ []) [] is))
      ∙ sym (listed_step task some)

  pub listing_is : (l : Listing) (task number : ℕ) (course : Option Track) (slots : List ℕ) (events : List Numbered) →
      l ≡ record { task = number; track = course; denied = slots } → number ≡ task → course ≡ find (λ track. track.task == task) tracks →
      slots ≡ map (λ x. slot_of x.event) (filter (λ x. list_any (λ n. n == x.id) denied) events) → events ≡ noted_of own task → l ≡ listing_by tracks own denied task
  listing_is l task number course slots events of_parts of_number of_course of_slots of_events =
      let slots' = of_slots ∙ ap (λ xs. map (λ (x : Numbered). slot_of x.event) (filter (λ (x : Numbered). list_any (λ n. n == x.id) denied) xs)) of_events in
      of_parts ∙ (λ k. let z : Listing = record { task = of_number k; track = of_course k; denied = slots' k } in z)

-- an event is denied where its number is among those of the denials
denied_among : (denials : List Denied) (x : Numbered) → list_any (λ n. n == x.id) (map (λ (d : Denied). d.id) denials) ≡ is_denied denials x
denied_among [] x = refl
denied_among (d ∷ denials) x = ap (λ b. (d.id == x.id) || b) (denied_among denials x)

-- two tests, one after the other or both at once
any_both : {X : Type 0} (p q : X → Bool) (xs : List X) → list_any q (filter p xs) ≡ list_any (λ x. p x && q x) xs
any_both p q [] = refl
any_both p q (x ∷ xs) = first (p x) ∙ ap (λ b. (p x && q x) || b) (any_both p q xs)
  where
    first : (b : Bool) → list_any q (cond b (x ∷ filter p xs) (filter p xs)) ≡ ((b && q x) || list_any q (filter p xs))
    first true = refl
    first false = refl

filter_both : {X : Type 0} (p q : X → Bool) (xs : List X) → filter q (filter p xs) ≡ filter (λ x. p x && q x) xs
filter_both p q [] = refl
filter_both p q (x ∷ xs) = first (p x) ∙ ap (λ ys. cond (p x && q x) (x ∷ ys) ys) (filter_both p q xs)
  where
    first : (b : Bool) → filter q (cond b (x ∷ filter p xs) (filter p xs)) ≡ cond (b && q x) (x ∷ filter q (filter p xs)) (filter q (filter p xs))
    first true = refl
    first false = refl

-- Use: they are those of the definition.
pub listings_are : (s : Plan) (n : ℕ) (rows : List (List (Option Pick))) (denials : List Denied) (tracks : List Track) (own : List (List Numbered)) (denied : List ℕ) → AreDiaries s.events own → AreNumbersOf denials denied →
    tracks ≡ tracks_of s (run_of s n) rows → listings_by tracks own denied n LARGEST_TASK ≡ listings_of s n rows denials
unfolding listings_of
listings_are s n rows denials tracks own denied diaries numbers of_tracks =
    let events = s.events in
    let among : (x : Numbered) → list_any (λ m. m == x.id) denied ≡ is_denied denials x = λ x.
    sym (list_any-IsPermutation (λ m. m == x.id) (map (λ (d : Denied). d.id) denials) denied numbers.same) ∙ denied_among denials x in
    let listed : (task : ℕ) → is_listed_by own n task ≡ is_listed s n task = λ task.
    ap (list_any (λ (x : Numbered). nat_lt (slot_of x.event) n)) (diaries.each task) ∙ any_both (λ (x : Numbered). is_own task x.event) (λ (x : Numbered). nat_lt (slot_of x.event) n) events in
    let slots : (task : ℕ) → map (λ (x : Numbered). slot_of x.event) (filter (λ (x : Numbered). list_any (λ m. m == x.id) denied) (noted_of own task))
    ≡ map (λ (x : Numbered). slot_of x.event) (filter (λ (x : Numbered). is_own task x.event && is_denied denials x) events) = λ task.
    ap (map (λ (x : Numbered). slot_of x.event))
    (filter_agree (λ (x : Numbered). list_any (λ m. m == x.id) denied) (is_denied denials) among (noted_of own task)
    ∙ ap (filter (is_denied denials)) (diaries.each task) ∙ filter_both (λ (x : Numbered). is_own task x.event) (is_denied denials) events) in
    (λ k. map (λ task. let l : Listing = record { task = task; track = find (λ track. track.task == task) (of_tracks k); denied = slots task k } in l)
    (filter (λ task. listed task k) (range_with_len 1 LARGEST_TASK)))

-- Use: the course of a task that is taken out of the courses, and what is left of others.
pub course_taken : (tracks : List Track) (task i : ℕ) (track : Track) → Some i ≡ position (λ track. track.task == task) tracks → track ≡ get_or tracks i track →
    Some track ≡ find (λ track. track.task == task) tracks
course_taken tracks task i track at is =
    let p : Track → Bool = λ track. track.task == task in
    let found = position-Some p tracks i track (sym at) in
    let place = position_or_len_is p tracks i track (omega (arith, found.0)) found.2 (λ below. found.1) in
    ap (λ (track : Track). Some track) is ∙ sym (find_at p tracks ∙ ap (slice_get tracks) place ∙ slice_get-get_or tracks i track found.0)

pub no_course : (tracks : List Track) (task : ℕ) → None ≡ position (λ track. track.task == task) tracks → None ≡ find (λ track. track.task == task) tracks
no_course tracks task at =
    let p : Track → Bool = λ track. track.task == task in
    elim (cases_lt (position_or_len p tracks) (length tracks)) [
      | inl below ↦
          let yes : ltb (position_or_len p tracks) (length tracks) ≡ true = lt-ltb _ _ below in
          let some : None ≡ Some (position_or_len p tracks) = at ∙ ap (λ b. cond b (Some (position_or_len p tracks)) None) yes in
          cc
      | inr past ↦ sym (find_at p tracks ∙ slice_get_past tracks (position_or_len p tracks) past)
    ]

other_stays : (q : Track → Bool) (tracks : List Track) (i : ℕ) (d : Track) → i < length tracks → q (get_or tracks i d) ≡ false → find q (remove tracks i) ≡ find q tracks
other_stays q [] i d within other = absurd (omega arith)
other_stays q (x ∷ xs) zero d within other = sym (cond-false (q x) (Some x) (find q xs) other)
other_stays q (x ∷ xs) (suc i) d within other = ap (λ o. cond (q x) (Some x) o) (other_stays q xs i d (omega arith) other)

pub others_stay : (tracks : List Track) (task i : ℕ) → Some i ≡ position (λ track. track.task == task) tracks → (other : ℕ) → other ≢ task →
    find (λ track. track.task == other) (remove tracks i) ≡ find (λ track. track.task == other) tracks
others_stay [] task i at other differ = cc
others_stay (x ∷ xs) task i at other differ =
    let tracks = x ∷ xs in
    let found = position-Some (λ (track : Track). track.task == task) tracks i x (sym at) in
    other_stays (λ (track : Track). track.task == other) tracks i x found.0
    (ne_eqb _ _ (λ e. differ (sym e ∙ eqb-true _ _ found.1)))
