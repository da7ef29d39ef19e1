-- A change that is not refused makes a scenario of a scenario.
use Rattle.std.proofs.Common.{◌≡◌, ℕ, ◌+◌, ◌<◌, ◌≤◌, Bool, true, false, not, Option, Some, None, List, [], ◌∷◌, ◌++◌, length, map, eqb, refl, sym, ap, ◌∙◌, subst, arith, if◌then◌else◌}
use Rattle.std.specs.Prelude.{◌==◌}
use Rattle.std.specs.List.{All, AllPairs, list_any}
use Rattle.std.proofs.lemmas.List.Elements.{All-nil, All-append, All-weaker}
use Rattle.std.proofs.lemmas.List.{append-nil, length-append}
use Rattle.std.proofs.lemmas.Bool.{ltb-true, leb-true, eqb-true, eq-eqb, ne_eqb, not-true, cond-true, cond-false, not_from_false}
use Rattle.pf_scenario.proofs.Lists.{All_left, All_right, All_middle, All_without, All_at, Pairs, Pairs-from_all, AllPairs-from_pairs, Pairs_middle, Pairs_without, Pairs_before, Pairs_after, filter_middle, map_middle, none_passes, found}
use Rattle.pf_scenario.specs.System.{System, IsSystem}
use Rattle.pf_scenario.specs.Scenario.{Plan, with_number, is_held, events_without, plan_after}
use Rattle.pf_scenario.specs.Edit.{or_else, unless, join_alike, leave_alike, event_fault, edit_fault, IsEvent, IsScenario}
use Rattle.pf_scenario.specs.declared.scenario.TheConstants.{MOST_EVENTS, LAST_NUMBER}
use Rattle.pf_scenario.specs.Laws.{ChangesKeepScenarios, NumbersRise, OpeningIsScenario}
use Rattle.pf_scenario.specs.declared.event.Event.{Event}
use Rattle.pf_scenario.specs.declared.event.Event.TheVariants.{Join, Leave}
use Rattle.pf_scenario.specs.declared.event.Numbered.{Numbered}
use Rattle.pf_scenario.specs.declared.change.Change.TheVariants.{Insert, Alter, Strike}
use Rattle.pf_scenario.specs.declared.fault.EditFault.{EditFault}
use Rattle.pf_scenario.specs.declared.fault.EditFault.TheVariants.{JoinTwice, LeaveTwice}
use Rattle.std.proofs.lemmas.Cmp.{nat_eq_equiv}

-- no fault of two tests is no fault of either
pub or_else_none : (f g : Option EditFault) → or_else f g ≡ None → (f ≡ None) × (g ≡ None)
or_else_none None g h = (refl, h)
or_else_none (Some f) g h = absurd (cc)

pub unless_none : (b : Bool) (f : EditFault) → unless b f ≡ None → b ≡ true
unless_none true f h = refl
unless_none false f h = absurd (cc)

pub or_else-nothing : (f : Option EditFault) → or_else f None ≡ f
or_else-nothing None = refl
or_else-nothing (Some f) = refl

pub or_else_assoc : (f g h : Option EditFault) → or_else (or_else f g) h ≡ or_else f (or_else g h)
or_else_assoc None g h = refl
or_else_assoc (Some f) g h = refl

-- two joins of one task, and two leaves of one, are so either way round
pub join_alike_back : (x y : Event) → join_alike x y ≡ join_alike y x
join_alike_back (Join slot task cost period early) (Join slot' task' cost' period' early') = nat_eq_equiv.symm task task'
join_alike_back (Join slot task cost period early) y = refl
join_alike_back x (Join slot task cost period early) = refl
join_alike_back x y = refl

pub leave_alike_back : (x y : Event) → leave_alike x y ≡ leave_alike y x
leave_alike_back (Leave slot task) (Leave slot' task') = nat_eq_equiv.symm task task'
leave_alike_back (Leave slot task) y = refl
leave_alike_back x (Leave slot task) = refl
leave_alike_back x y = refl

-- an event that has no fault beside others is within its limits, and is alike to none of them
pub record IsFree (settings : System) (others : List Numbered) (event : Event) : Type 0 where
  pub within : IsEvent settings event
  pub joins : All (λ x. join_alike x.event event ≡ false) others
  pub leaves : All (λ x. leave_alike x.event event ≡ false) others

-- the faults that an event has by itself, and then those that it has beside others
pub event_fault_parts : (settings : System) (others : List Numbered) (event : Event) → event_fault settings others event ≡ or_else (event_fault settings [] event) (or_else (unless (not (list_any (λ x. join_alike x.event event) others)) JoinTwice) (unless (not (list_any (λ x. leave_alike x.event event) others)) LeaveTwice))
event_fault_parts settings others event = simp (or_else_assoc, or_else-nothing)

pub IsFree-from_none : (settings : System) (others : List Numbered) (event : Event) → event_fault settings others event ≡ None → IsFree settings others event
IsFree-from_none settings others event h =
    let parts = or_else_none _ _ (sym (event_fault_parts settings others event) ∙ h) in
    let alike = or_else_none _ _ parts.1 in
    record {
      within = parts.0;
      joins = none_passes _ others (not-true _ (unless_none _ _ alike.0));
      leaves = none_passes _ others (not-true _ (unless_none _ _ alike.1));
    }

-- the events of a scenario, about one of them or about the place for one more
pub record Around (settings : System) (next : ℕ) (front back : List Numbered) : Type 0 where
  pub rising : Pairs (λ x y. x.id < y.id) (front ++ back)
  pub given : All (λ x. (1 ≤ x.id) × (x.id < next)) (front ++ back)
  pub joins_once : Pairs (λ x y. join_alike x.event y.event ≡ false) (front ++ back)
  pub leaves_once : Pairs (λ x y. leave_alike x.event y.event ≡ false) (front ++ back)
  pub limits : All (λ x. IsEvent settings x.event) (front ++ back)

-- the facts of a scenario that are about its events
pub around_nothing : (s : Plan) → IsScenario s → Around s.settings s.next s.events []
around_nothing s h =
    let e = append-nil s.events in
    record {
      rising = rw e (Pairs-from_all (λ x y. x.id < y.id) s.events h.rising);
      given = rw e h.given;
      joins_once = rw e (Pairs-from_all (λ x y. join_alike x.event y.event ≡ false) s.events h.joins_once);
      leaves_once = rw e (Pairs-from_all (λ x y. leave_alike x.event y.event ≡ false) s.events h.leaves_once);
      limits = rw e h.limits;
    }

-- without the event in the middle
pub around_one : (s : Plan) (front : List Numbered) (x : Numbered) (back : List Numbered) → s.events ≡ front ++ x ∷ back → IsScenario s → Around s.settings s.next front back
around_one s front x back e h =
    record {
      rising = Pairs_without (λ x y. x.id < y.id) front x back (rw e at (Pairs-from_all (λ x y. x.id < y.id) s.events h.rising));
      given = All_without (λ x. (1 ≤ x.id) × (x.id < s.next)) front x back (rw e at h.given);
      joins_once = Pairs_without (λ x y. join_alike x.event y.event ≡ false) front x back (rw e at (Pairs-from_all (λ x y. join_alike x.event y.event ≡ false) s.events h.joins_once));
      leaves_once = Pairs_without (λ x y. leave_alike x.event y.event ≡ false) front x back (rw e at (Pairs-from_all (λ x y. leave_alike x.event y.event ≡ false) s.events h.leaves_once));
      limits = All_without (λ x. IsEvent s.settings x.event) front x back (rw e at h.limits);
    }

-- with an event in the middle that is free, and whose number stands between those around it
pub IsScenario-middle : (settings : System) (next : ℕ) (front : List Numbered) (x : Numbered) (back : List Numbered) → IsSystem settings → 1 ≤ next → next ≤ LAST_NUMBER + 1 → length (front ++ x ∷ back) ≤ MOST_EVENTS → Around settings next front back → IsFree settings (front ++ back) x.event → All (λ y. y.id < x.id) front → All (λ y. x.id < y.id) back → (1 ≤ x.id) × (x.id < next) → IsScenario (record { settings = settings; events = front ++ x ∷ back; next = next })
IsScenario-middle settings next front x back system some below few around free before after given =
    let J : Numbered → Numbered → Type 0 = λ x y. join_alike x.event y.event ≡ false in
    let L : Numbered → Numbered → Type 0 = λ x y. leave_alike x.event y.event ≡ false in
    let joins_after = All-weaker (λ y. J y x) (J x) (λ y h. join_alike_back x.event y.event ∙ h) back (All_right (λ y. J y x) front back free.joins) in
    let leaves_after = All-weaker (λ y. L y x) (L x) (λ y h. leave_alike_back x.event y.event ∙ h) back (All_right (λ y. L y x) front back free.leaves) in
    record {
      settings = system;
      rising = AllPairs-from_pairs (λ x y. x.id < y.id) _ (Pairs_middle (λ x y. x.id < y.id) front x back around.rising before after);
      given = All_middle (λ y. (1 ≤ y.id) × (y.id < next)) front x back around.given given;
      next_some = some;
      next_within = below;
      joins_once = AllPairs-from_pairs J _ (Pairs_middle J front x back around.joins_once (All_left (λ y. J y x) front back free.joins) joins_after);
      leaves_once = AllPairs-from_pairs L _ (Pairs_middle L front x back around.leaves_once (All_left (λ y. L y x) front back free.leaves) leaves_after);
      limits = All_middle (λ y. IsEvent settings y.event) front x back around.limits free.within;
      few = few;
    }

-- with nothing in the middle
pub IsScenario-without : (settings : System) (next : ℕ) (front back : List Numbered) → IsSystem settings → 1 ≤ next → next ≤ LAST_NUMBER + 1 → length (front ++ back) ≤ MOST_EVENTS → Around settings next front back → IsScenario (record { settings = settings; events = front ++ back; next = next })
IsScenario-without settings next front back system some below few around =
    record {
      settings = system;
      rising = AllPairs-from_pairs (λ x y. x.id < y.id) _ around.rising;
      given = around.given;
      next_some = some;
      next_within = below;
      joins_once = AllPairs-from_pairs (λ x y. join_alike x.event y.event ≡ false) _ around.joins_once;
      leaves_once = AllPairs-from_pairs (λ x y. leave_alike x.event y.event ≡ false) _ around.leaves_once;
      limits = around.limits;
      few = few;
    }

-- the numbers about an event are not its own
pub others_of : (front : List Numbered) (x : Numbered) (back : List Numbered) → Pairs (λ x y. x.id < y.id) (front ++ x ∷ back) → All (λ y. eqb y.id x.id ≡ false) (front ++ back)
others_of front x back h =
    All-append (λ y. eqb y.id x.id ≡ false) front back
    (All-weaker (λ y. y.id < x.id) (λ y. eqb y.id x.id ≡ false) (λ y low. ne_eqb _ _ (λ e. omega arith)) front (Pairs_before (λ x y. x.id < y.id) front x back h))
    (All-weaker (λ y. x.id < y.id) (λ y. eqb y.id x.id ≡ false) (λ y high. ne_eqb _ _ (λ e. omega arith)) back (Pairs_after (λ x y. x.id < y.id) front x back h))

-- a scenario's events about the one of a number that is held
pub record Held (s : Plan) (id : ℕ) : Type 0 where
  pub front : List Numbered
  pub at : Numbered
  pub back : List Numbered
  pub is : s.events ≡ front ++ at ∷ back
  pub number : at.id ≡ id

-- what the definitions of a change compute there
pub without_held : (events : List Numbered) (front : List Numbered) (x : Numbered) (back : List Numbered) (id : ℕ) → AllPairs (λ x y. x.id < y.id) events → events ≡ front ++ x ∷ back → x.id ≡ id → events_without id events ≡ front ++ back
without_held events front x back id rising e number =
    let apart = others_of front x back (rw e at (Pairs-from_all (λ x y. x.id < y.id) events rising)) in
    let kept = All-weaker (λ y. eqb y.id x.id ≡ false) (λ y. not (eqb y.id x.id) ≡ true) (λ y h. not_from_false _ h) (front ++ back) apart in
    rw (e, ← number) (filter_middle (λ y. not (eqb y.id x.id)) front x back kept (ap not (eq-eqb x.id x.id refl)))

pub replaced_held : (events : List Numbered) (front : List Numbered) (x : Numbered) (back : List Numbered) (id : ℕ) (event : Event) → AllPairs (λ x y. x.id < y.id) events → events ≡ front ++ x ∷ back → x.id ≡ id → map (λ y. if y.id == id then with_number id event else y) events ≡ front ++ with_number id event ∷ back
replaced_held events front x back id event rising e number =
    let f : Numbered → Numbered = λ y. if y.id == id then with_number id event else y in
    let apart = others_of front x back (rw e at (Pairs-from_all (λ x y. x.id < y.id) events rising)) in
    let same = All-weaker (λ y. eqb y.id x.id ≡ false) (λ y. f y ≡ y) (λ y h. cond-false (eqb y.id id) _ _ (rw (← number) h)) (front ++ back) apart in
    rw e (map_middle f front x back same ∙ ap (λ z. front ++ z ∷ back) (cond-true (eqb x.id id) _ _ (eq-eqb x.id id number)))

pub held : (s : Plan) (id : ℕ) → is_held s.events id ≡ true → Held s id
held s id h =
    let at = found (λ x. x.id == id) s.events h in
    record { front = at.front; at = at.at; back = at.back; is = at.is; number = eqb-true _ _ at.passes }

length_middle : (front : List Numbered) (x y : Numbered) (back : List Numbered) → length (front ++ x ∷ back) ≡ length (front ++ y ∷ back)
length_middle front x y back = simp length-append

length_without : (front : List Numbered) (x : Numbered) (back : List Numbered) → length (front ++ back) ≤ length (front ++ x ∷ back)
length_without front x back = simp length-append (omega arith)

-- an event more, an event in the place of another, and an event less
inserted_after : (s : Plan) (event : Event) → IsScenario s → IsFree s.settings s.events event → length s.events < MOST_EVENTS → s.next ≤ LAST_NUMBER → IsScenario (plan_after s (Insert event))
inserted_after s event h free few more =
    let some = h.next_some in
    let around = around_nothing s h in
    let later : Around s.settings (s.next + 1) s.events [] = record {
      rising = around.rising;
      given = All-weaker (λ x. (1 ≤ x.id) × (x.id < s.next)) (λ x. (1 ≤ x.id) × (x.id < s.next + 1)) (λ x g. (g.0, omega arith)) _ around.given;
      joins_once = around.joins_once;
      leaves_once = around.leaves_once;
      limits = around.limits;
    } in
    let free' = rw (← append-nil s.events) at free in
    IsScenario-middle s.settings (s.next + 1) s.events (with_number s.next event) [] h.settings (omega arith) (omega arith) (simp length-append (omega arith)) later free' (All-weaker (λ x. (1 ≤ x.id) × (x.id < s.next)) (λ x. x.id < s.next) (λ x g. g.1) s.events h.given) (All-nil (λ x. s.next < x.id)) (some, omega arith)

altered_at : (s : Plan) (front : List Numbered) (x : Numbered) (back : List Numbered) (event : Event) → s.events ≡ front ++ x ∷ back → IsScenario s → IsFree s.settings (front ++ back) event → IsScenario (record s { events = front ++ with_number x.id event ∷ back })
altered_at s front x back event is h free =
    let rising = rw is at (Pairs-from_all (λ x y. x.id < y.id) s.events h.rising) in
    let few = rw is at h.few in
    let given = All_at (λ x. (1 ≤ x.id) × (x.id < s.next)) front x back (rw is at h.given) in
    IsScenario-middle s.settings s.next front (with_number x.id event) back h.settings h.next_some h.next_within (rw (length_middle front (with_number x.id event) x back) few) (around_one s front x back is h) free (Pairs_before (λ x y. x.id < y.id) front x back rising) (Pairs_after (λ x y. x.id < y.id) front x back rising) given

struck_at : (s : Plan) (front : List Numbered) (x : Numbered) (back : List Numbered) → s.events ≡ front ++ x ∷ back → IsScenario s → IsScenario (record s { events = front ++ back })
struck_at s front x back is h =
    let few = rw is at h.few in
    let less = length_without front x back in
    IsScenario-without s.settings s.next front back h.settings h.next_some h.next_within (omega arith) (around_one s front x back is h)

-- the three changes
inserted : (s : Plan) (event : Event) → IsScenario s → edit_fault s (Insert event) ≡ None → IsScenario (plan_after s (Insert event))
inserted s event h none =
    let parts = or_else_none _ _ none in
    let room = or_else_none _ _ parts.1 in
    inserted_after s event h (IsFree-from_none s.settings s.events event parts.0) (ltb-true _ _ (unless_none _ _ room.0)) (leb-true _ _ (unless_none _ _ room.1))

altered : (s : Plan) (front : List Numbered) (x : Numbered) (back : List Numbered) (event : Event) → s.events ≡ front ++ x ∷ back → IsScenario s → event_fault s.settings (events_without x.id s.events) event ≡ None → IsScenario (plan_after s (Alter x.id event))
altered s front x back event is h none =
    let e1 = without_held s.events front x back x.id h.rising is refl in
    let e2 = replaced_held s.events front x back x.id event h.rising is refl in
    rw e2 (altered_at s front x back event is h (IsFree-from_none s.settings (front ++ back) event (rw e1 at none)))

struck : (s : Plan) (front : List Numbered) (x : Numbered) (back : List Numbered) → s.events ≡ front ++ x ∷ back → IsScenario s → IsScenario (plan_after s (Strike x.id))
struck s front x back is h =
    let e1 = without_held s.events front x back x.id h.rising is refl in
    rw e1 (struck_at s front x back is h)

pub changes_keep_scenarios : ChangesKeepScenarios
changes_keep_scenarios s (Insert event) h none = inserted s event h none
changes_keep_scenarios s (Alter id event) h none =
    let parts = or_else_none _ _ none in
    let here = held s id (unless_none _ _ parts.0) in
    let P : ℕ → Type 0 = λ n. event_fault s.settings (events_without n s.events) event ≡ None → IsScenario (plan_after s (Alter n event)) in
    subst P here.number (altered s here.front here.at here.back event here.is h) parts.1
changes_keep_scenarios s (Strike id) h none =
    let here = held s id (unless_none _ _ none) in
    let P : ℕ → Type 0 = λ n. IsScenario (plan_after s (Strike n)) in
    subst P here.number (struck s here.front here.at here.back here.is h)

pub numbers_rise : NumbersRise
numbers_rise s (Insert event) = omega arith
numbers_rise s (Alter id event) = omega arith
numbers_rise s (Strike id) = omega arith

pub opening_is_scenario : OpeningIsScenario
opening_is_scenario settings h =
    record {
      settings = h;
      rising = λ i j d below low. absurd (omega arith);
      given = All-nil (λ x. (1 ≤ x.id) × (x.id < 1));
      next_some = omega arith;
      next_within = omega arith;
      joins_once = λ i j d below low. absurd (omega arith);
      leaves_once = λ i j d below low. absurd (omega arith);
      limits = All-nil (λ x. IsEvent settings x.event);
      few = omega arith;
    }
