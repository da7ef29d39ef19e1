-- The runs of scenarios in which tasks only join.
use Rattle.std.proofs.Common.{◌≡◌, ◌∙◌, ◌+◌, ◌*◌, ◌≤◌, ℕ, zero, suc, false, nat_lt, Option, None, List, [], ◌∷◌, ◌++◌, fold, length, take, arith, refl, sym, ap, ap₂, subst, append_assoc, append-nil}
use Rattle.std.proofs.lemmas.Bool.Decides.{nat_tests}
use Rattle.std.proofs.lemmas.List.{take_all}
use Rattle.std.proofs.lemmas.List.Elements.{All-append, All-head, All-nil, All-push, All-tail}
use Rattle.std.proofs.lemmas.List.Sums.{sum_by-append, sum_by-cons}
use Rattle.pf_weight.specs.Share.{share_of}
use Rattle.pf_admit.specs.declared.denial.Denial.{Denial}
use Rattle.pf_scenario.specs.System.{System}
use Rattle.pf_scenario.specs.Scenario.{Plan, events_of, past}
use Rattle.pf_scenario.specs.declared.event.Event.{Event}
use Rattle.pf_scenario.specs.declared.event.Event.TheVariants.{Join, Leave, Delay, Limit}
use Rattle.pf_scenario.specs.declared.event.Numbered.{Numbered}
use Rattle.pf_run.specs.declared.denied.Denied.{Denied}
use Rattle.pf_run.specs.Record.{Slot, denials_of, in_force}
use Rattle.pf_run.specs.Inside.{count_after, count_of, load_of}
use Rattle.pf_run.specs.Denials.{denial_of, denied_for}
use Rattle.pf_run.specs.Run.{events_in_force}
use Rattle.pf_run.specs.Computed.{after_events, course_of, denials_among, run_of, with_event}
use Rattle.pf_run.specs.RunRows.{denials_in}
use Rattle.pf_run.proofs.Judged.{denials_of_snoc}
use Rattle.pf_run.proofs.Runs.{run_is_computed}
use Rattle.pf_tally.specs.Load.{load_in, room_in}
use Rattle.pf_tally.proofs.Loads.{load_is_within_cap}
use Rattle.pf_laws.specs.Joins.Joins.{HasJoinsAlone, IsJoin, JoinsAreLetIn, JoinsStayWithinRoom, units_asked, units_of}
use Rattle.pf_laws.proofs.JoinsLemmas.Sums.{AreJoins, joins_of_slot, load_is_asked, past_is_all, past_within}

pub past_joins : (s : Plan) (n : ℕ) → AreJoins s.events → AreJoins (past s n)
past_joins s zero joins = All-nil (λ x. IsJoin x.event)
past_joins s (suc n) joins = All-append (λ x. IsJoin x.event) (past s n) (events_of s n) (past_joins s n joins) (joins_of_slot s n joins)

-- a join that has room is let in
let_in : (s : System) (r : List Slot) (xs : List Numbered) (e : Event) → AreJoins xs → IsJoin e → units_of s.base xs + units_asked s.base e ≤ s.cap
    → denial_of s r xs e ≡ None
let_in s r xs (Join slot task cost period early) joins is fits =
    let load = load_is_asked s.base xs joins in
    let room : nat_lt s.cap (load_of s.base xs + (share_of s.base cost period).units) ≡ false = grind (arith, nat_tests, load, fits) in
    rw room refl
let_in s r xs (Leave slot task) joins is fits = absurd is
let_in s r xs (Delay slot task held) joins is fits = absurd is
let_in s r xs (Limit slot count) joins is fits = absurd is

-- the events of a slot
pub record AllStand (s : System) (r : List Slot) (xs ys : List Numbered) : Type 0 where
  pub none : denials_among s r xs ys ≡ []
  pub after : after_events s r xs ys ≡ xs ++ ys

all_stand : (s : System) (r : List Slot) (xs ys : List Numbered) → AreJoins xs → AreJoins ys → units_of s.base xs + units_of s.base ys ≤ s.cap → AllStand s r xs ys
all_stand s r xs [] front joins fits = record { none = refl; after = sym (append-nil xs) }
all_stand s r xs (y ∷ ys) front joins fits =
    let f : Numbered → ℕ = λ x. units_asked s.base x.event in
    let first = sum_by-cons f y ys in
    let here = All-head (λ x. IsJoin x.event) y ys joins in
    let stands : denial_of s r xs y.event ≡ None = let_in s r xs y.event front here (omega (arith, fits, first)) in
    let more = all_stand s r (xs ++ y ∷ []) ys (All-push (λ x. IsJoin x.event) xs y front here) (All-tail (λ x. IsJoin x.event) y ys joins)
    (omega (arith, fits, first, sum_by-append f xs (y ∷ []), sum_by-cons f y [])) in
    record {
      none = ap (λ (o : Option Denial). denied_for y (length r) o ++ denials_among s r (with_event xs y o) ys) stands ∙ more.none;
      after = ap (λ (o : Option Denial). after_events s r (with_event xs y o) ys) stands ∙ more.after ∙ append_assoc xs (y ∷ []) ys;
    }

-- the run so far
pub record IsClean (s : Plan) (n : ℕ) : Type 0 where
  pub none : denials_of (run_of s n) ≡ []
  pub standing : (course_of s n).standing ≡ past s n

pub clean : (s : Plan) (n : ℕ) → AreJoins s.events → units_of s.settings.base s.events ≤ s.settings.cap → IsClean s n
unfolding course_of
clean s zero joins fits = record { none = refl; standing = refl }
clean s (suc n) joins fits =
    let before = clean s n joins fits in
    let f : Numbered → ℕ = λ x. units_asked s.settings.base x.event in
    let slots = run_of s n in
    let events = events_of s n in
    let both = all_stand s.settings slots (past s n) events (past_joins s n joins) (joins_of_slot s n joins)
    (omega (arith, fits, past_within f s (suc n), sum_by-append f (past s n) events)) in
    let at : AllStand s.settings slots (course_of s n).standing events = subst (λ (xs : List Numbered). AllStand s.settings slots xs events) (sym before.standing) both in
    record {
      none = denials_of_snoc slots _ ∙ ap₂ (λ (a b : List Denied). a ++ b) before.none at.none;
      standing = at.after ∙ ap (λ (xs : List Numbered). xs ++ events) before.standing;
    }

-- where none is denied, all are in force
all_in_force : (xs : List Numbered) → in_force [] xs ≡ xs
unfolding in_force
all_in_force [] = refl
all_in_force (x ∷ xs) = ap (λ (ys : List Numbered). x ∷ ys) (all_in_force xs)

pub in_force_is_past : (s : Plan) (r : List Slot) (t : ℕ) → denials_of r ≡ [] → events_in_force s r t ≡ past s t
in_force_is_past s r t none = ap (λ (d : List Denied). in_force d (past s t)) none ∙ all_in_force (past s t)

fits_let_in : (s : Plan) (n : ℕ) → HasJoinsAlone s n → denials_of (run_of s n) ≡ [] → units_of s.settings.base s.events ≤ s.settings.cap
fits_let_in s n is none =
    let r = run_of s n in
    let base = s.settings.base in
    let xs = past s n in
    let f : Numbered → ℕ = λ x. units_asked base x.event in
    let same = in_force_is_past s r n none in
    let whole : take (length xs) (events_in_force s r n) ≡ xs = ap (take (length xs)) same ∙ take_all (length xs) xs (omega arith) in
    let within = load_is_within_cap s n r (length xs) is.scenario (run_is_computed s n is.scenario) in
    omega (
      arith,
      subst (λ (ys : List Numbered). load_of base ys ≤ s.settings.cap) whole within,
      load_is_asked base xs (past_joins s n is.joins),
      past_is_all f s n is.reached,
    )

pub joins_are_let_in : JoinsAreLetIn
unfolding denials_in
joins_are_let_in s n is = (λ none. fits_let_in s n is none, λ fits. (clean s n is.joins fits).none)

-- joins leave all processors in use
count_stays : (m : ℕ) (xs : List Numbered) → AreJoins xs → fold (λ count x. count_after count x.event) m xs ≡ m
count_stays m [] joins = refl
count_stays m (x ∷ xs) joins = by x.event (All-head (λ y. IsJoin y.event) x xs joins) (count_stays m xs (All-tail (λ y. IsJoin y.event) x xs joins))
  where
    by : (e : Event) → IsJoin e → fold (λ count y. count_after count y.event) m xs ≡ m → fold (λ count y. count_after count y.event) (count_after m e) xs ≡ m
    by (Join slot task cost period early) is stays = stays
    by (Leave slot task) is stays = absurd is
    by (Delay slot task held) is stays = absurd is
    by (Limit slot count) is stays = absurd is

pub joins_stay_within_room : JoinsStayWithinRoom
unfolding count_of
joins_stay_within_room s n is fits carries t lt =
    let r = run_of s n in
    let base = s.settings.base in
    let f : Numbered → ℕ = λ x. units_asked base x.event in
    let xs = past s (suc t) in
    let joins = past_joins s (suc t) is.joins in
    let same = in_force_is_past s r (suc t) (clean s n is.joins fits).none in
    let load : load_in s r t ≡ units_of base xs = ap (load_of base) same ∙ load_is_asked base xs joins in
    let room : room_in s r t ≡ base * s.settings.processors =
    ap (λ (ys : List Numbered). base * count_of s.settings.processors ys) same ∙ ap (λ (c : ℕ). base * c) (count_stays s.settings.processors xs joins) in
    omega (arith, load, room, past_within f s (suc t), fits, carries)
