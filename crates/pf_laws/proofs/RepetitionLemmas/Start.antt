-- A synchronous scenario at every point of its run: the same events are in force, all of them joins, so the same tasks are
-- inside, no window is shifted and all processors are in use.
use Rattle.std.proofs.Common.{◌≡◌, ℕ, zero, suc, ◌≤◌, Bool, true, false, not, nat_le, cond, None, Some, List, [], ◌∷◌, ◌++◌, filter, filter_map, fold, find, sum_by, get_or, All, Contains, arith, refl, ap, sym, ◌∙◌, append-nil}
use Rattle.std.specs.Option.{option_map_or}
use Rattle.std.proofs.lemmas.Bool.{ne_eqb, or_from}
use Rattle.std.proofs.lemmas.List.Elements.{All-head, All-tail, All-contains, Contains-get_or}
use Rattle.std.proofs.lemmas.List.Sums.{sum_by-cons}
use Rattle.pf_weight.specs.Share.{share_of}
use Rattle.pf_scenario.specs.Event.{slot_of, is_of_slot, is_leave_of, in_run_order}
use Rattle.pf_scenario.specs.Scenario.{Plan, events_of, past}
use Rattle.pf_scenario.specs.declared.event.Event.{Event}
use Rattle.pf_scenario.specs.declared.event.Event.TheVariants.{Join, Leave, Delay, Limit}
use Rattle.pf_scenario.specs.declared.event.Numbered.{Numbered}
use Rattle.pf_run.specs.Record.{Slot, denials_of, in_force}
use Rattle.pf_run.specs.Inside.{Joined, joined_by, join_of, has_left, inside, hold_back_of, shift_of, count_after, count_of}
use Rattle.pf_run.specs.Run.{events_in_force}
use Rattle.pf_run.proofs.Joins.{contains_past}
use Rattle.pf_tally.specs.Misses.{leaves_after}
use Rattle.pf_tally.proofs.Subs.{Giver, from_filter_map}
use Rattle.pf_tally.proofs.Fronts.{in_force_all}
use Rattle.pf_laws.specs.Repetition.Synchronous.{JoinsAtStart, IsSynchronous}

-- what holds of a join of slot 0

at_start : (event : Event) → JoinsAtStart event → slot_of event ≡ 0
at_start (Join slot task cost period early) joins = joins.0
at_start (Leave slot task) joins = absurd joins
at_start (Delay slot task by) joins = absurd joins
at_start (Limit slot count) joins = absurd joins

never_leaves : (task : ℕ) (event : Event) → JoinsAtStart event → is_leave_of task event ≡ false
never_leaves task (Join slot task' cost period early) joins = refl
never_leaves task (Leave slot task') joins = absurd joins
never_leaves task (Delay slot task' by) joins = refl
never_leaves task (Limit slot count) joins = refl

never_holds : (r : List Slot) (task i : ℕ) (event : Event) → JoinsAtStart event → hold_back_of r task i event ≡ 0
never_holds r task i (Join slot task' cost period early) joins = refl
never_holds r task i (Leave slot task') joins = refl
never_holds r task i (Delay slot task' by) joins = absurd joins
never_holds r task i (Limit slot count) joins = refl

never_limits : (count : ℕ) (event : Event) → JoinsAtStart event → count_after count event ≡ count
never_limits count (Join slot task cost period early) joins = refl
never_limits count (Leave slot task) joins = refl
never_limits count (Delay slot task by) joins = refl
never_limits count (Limit slot count') joins = absurd joins

-- a task as such a join brings it
pub record BeginsAtStart (j : Joined) : Type 0 where
  pub slot : j.slot ≡ 0
  pub early : j.early ≡ 0

begins : (base : ℕ) (event : Event) (j : Joined) → JoinsAtStart event → joined_by base event ≡ Some j → BeginsAtStart j
begins base (Join slot task cost period early) j joins is =
    let joined : Joined = record { task = task; slot = slot; weight = share_of base cost period; early = early } in
    let same : joined ≡ j = cc in
    record { slot = ap (λ (k : Joined). k.slot) (sym same) ∙ joins.0; early = ap (λ (k : Joined). k.early) (sym same) ∙ joins.1 }
begins base (Leave slot task) j joins is = absurd joins
begins base (Delay slot task by) j joins is = absurd joins
begins base (Limit slot count) j joins is = absurd joins

-- of a list of them

abbrev pub AllJoin : List Numbered → Type 0
AllJoin xs = All (λ x. JoinsAtStart x.event) xs

pub none_leaves : (xs : List Numbered) (task : ℕ) → AllJoin xs → has_left xs task ≡ false
none_leaves [] task all = refl
none_leaves (x ∷ xs) task all =
    or_from (is_leave_of task x.event) (has_left xs task)
    (never_leaves task x.event (All-head (λ y. JoinsAtStart y.event) x xs all))
    (none_leaves xs task (All-tail (λ y. JoinsAtStart y.event) x xs all))

all_kept : {X : Type 0} (p : X → Bool) (xs : List X) → ((x : X) → p x ≡ false) → filter (λ x. not (p x)) xs ≡ xs
all_kept p [] none = refl
all_kept p (x ∷ xs) none =
    ap (λ b. cond (not b) (x ∷ filter (λ y. not (p y)) xs) (filter (λ y. not (p y)) xs)) (none x)
    ∙ ap (λ ys. x ∷ ys) (all_kept p xs none)

pub all_inside : (base : ℕ) (xs : List Numbered) → AllJoin xs → inside base xs ≡ filter_map (join_of base) xs
unfolding inside
all_inside base xs all = all_kept (λ (j : Joined). has_left xs j.task) (filter_map (join_of base) xs) (λ j. none_leaves xs j.task all)

none_held : (r : List Slot) (task i : ℕ) (xs : List Numbered) → AllJoin xs → sum_by (λ x. hold_back_of r task i x.event) xs ≡ 0
none_held r task i [] all = refl
none_held r task i (x ∷ xs) all =
    omega (
      arith,
      sum_by-cons (λ y. hold_back_of r task i y.event) x xs,
      never_holds r task i x.event (All-head (λ y. JoinsAtStart y.event) x xs all),
      none_held r task i xs (All-tail (λ y. JoinsAtStart y.event) x xs all),
    )

pub never_shifted : (r : List Slot) (xs : List Numbered) (j : Joined) (i : ℕ) → AllJoin xs → j.slot ≡ 0 → shift_of r xs j i ≡ 0
unfolding shift_of
never_shifted r xs j i all start = omega (arith, none_held r j.task i xs all, start)

all_in_use : (m : ℕ) (xs : List Numbered) → AllJoin xs → fold (λ count x. count_after count x.event) m xs ≡ m
all_in_use m [] all = refl
all_in_use m (x ∷ xs) all =
    ap (λ count. fold (λ n y. count_after n y.event) count xs) (never_limits m x.event (All-head (λ y. JoinsAtStart y.event) x xs all))
    ∙ all_in_use m xs (All-tail (λ y. JoinsAtStart y.event) x xs all)

pub count_is : (m : ℕ) (xs : List Numbered) → AllJoin xs → count_of m xs ≡ m
unfolding count_of
count_is m xs all = all_in_use m xs all

pub begins_joined : (base : ℕ) (xs : List Numbered) (j : Joined) → AllJoin xs → Contains (filter_map (join_of base) xs) j → BeginsAtStart j
begins_joined base xs j all at =
    let giver : Giver (join_of base) xs j = from_filter_map (join_of base) xs j at in
    begins base giver.giver.event j (All-contains (λ y. JoinsAtStart y.event) xs giver.giver all giver.stands) giver.gives

-- no task of such a list left before a slot
none_found : (xs : List Numbered) (task : ℕ) → AllJoin xs → find (λ x. is_leave_of task x.event) xs ≡ None
none_found [] task all = refl
none_found (x ∷ xs) task all =
    ap (λ b. cond b (Some x) (find (λ y. is_leave_of task y.event) xs)) (never_leaves task x.event (All-head (λ y. JoinsAtStart y.event) x xs all))
    ∙ none_found xs task (All-tail (λ y. JoinsAtStart y.event) x xs all)

pub leaves_late : (xs : List Numbered) (j : Joined) (t : ℕ) → AllJoin xs → leaves_after xs j t ≡ true
leaves_late xs j t all = ap (λ o. option_map_or (λ (x : Numbered). nat_le t (slot_of x.event)) o true) (none_found xs j.task all)

-- along the scenario

module _ (s : Plan) (start : IsSynchronous s) where
  none_of_slot : (t : ℕ) (xs : List Numbered) → AllJoin xs → filter (is_of_slot (suc t)) xs ≡ []
  none_of_slot t [] all = refl
  none_of_slot t (x ∷ xs) all =
      let at : slot_of x.event ≡ 0 = at_start x.event (All-head (λ y. JoinsAtStart y.event) x xs all) in
      ap (λ b. cond b (x ∷ filter (is_of_slot (suc t)) xs) (filter (is_of_slot (suc t)) xs))
      (ne_eqb (slot_of x.event) (suc t) (λ e. omega (arith, at, e)))
      ∙ none_of_slot t xs (All-tail (λ y. JoinsAtStart y.event) x xs all)

  none_after : (t : ℕ) → events_of s (suc t) ≡ []
  unfolding events_of
  none_after t = ap in_run_order (none_of_slot t s.events start)

  same_past : (t : ℕ) → past s (suc t) ≡ past s 1
  same_past zero = refl
  same_past (suc t) = ap (λ xs. past s (suc t) ++ xs) (none_after t) ∙ append-nil (past s (suc t)) ∙ same_past t

  -- Use: the same events are in force at every point.
  pub same_events : (r : List Slot) (t u : ℕ) → 1 ≤ t → 1 ≤ u → events_in_force s r t ≡ events_in_force s r u
  same_events r zero u some some' = absurd (omega (arith, some))
  same_events r (suc t) zero some some' = absurd (omega (arith, some'))
  same_events r (suc t) (suc u) some some' = ap (in_force (denials_of r)) (same_past t ∙ sym (same_past u))

  pub all_join : (r : List Slot) (t : ℕ) → AllJoin (events_in_force s r t)
  all_join r t =
      in_force_all (λ x. JoinsAtStart x.event) (denials_of r) (past s t)
      (λ k d lt.
      All-contains (λ x. JoinsAtStart x.event) s.events (get_or (past s t) k d) start
      (contains_past s t (get_or (past s t) k d) (Contains-get_or (past s t) k d lt)))
