-- Leaves that were too early, and the slot that is told of them.
use Rattle.std.proofs.Common.{◌≡◌, ℕ, ◌-◌, ◌<◌, ◌≤◌, ◌&&◌, ◌==◌, min, true, nat_lt, List, length, Option, None, Some, refl, sym, ap, ap₂, ◌∙◌, arith}
use Rattle.std.specs.List.{Contains, list_any}
use Rattle.std.specs.Option.{option_and_then, option_map}
use Rattle.std.proofs.lemmas.Bool.{eq-eqb, eqb-true, lt-ltb}
use Rattle.std.proofs.lemmas.List.Elements.{All-contains, All-contains_itself}
use Rattle.std.proofs.lemmas.List.Folds.{list_any_at}
use Rattle.pf_lemmas.proofs.Finding.{found_all, found_passes}
use Rattle.pf_admit.specs.declared.denial.Denial.{Denial}
use Rattle.pf_admit.specs.declared.denial.Denial.TheVariants as denied
use Rattle.pf_notes.specs.Grounds.{early_leave, grounds_for, last_slot, leaves_in}
use Rattle.pf_notes.specs.Point.{before_event, event_of, joined_at}
use Rattle.pf_notes.specs.declared.grounds.Grounds.{Grounds}
use Rattle.pf_notes.specs.declared.grounds.Grounds.TheVariants.{NotInside, TooEarly}
use Rattle.pf_notes.specs.Laws.{NextLeaveIsFirst}
use Rattle.pf_scenario.specs.Edit.{IsEvent, IsScenario}
use Rattle.pf_scenario.specs.Event.{slot_of}
use Rattle.pf_scenario.specs.Scenario.{Plan, is_held, past}
use Rattle.pf_scenario.specs.declared.event.Event.{Event}
use Rattle.pf_scenario.specs.declared.event.Event.TheVariants.{Join, Leave, Delay, Limit}
use Rattle.pf_scenario.specs.declared.event.Numbered.{Numbered}
use Rattle.pf_run.specs.Computed.{run_of}
use Rattle.pf_run.specs.Inside.{Joined}
use Rattle.pf_run.specs.Record.{Slot, denials_of, in_force}
use Rattle.pf_run.specs.declared.denied.Denied.{Denied}
use Rattle.pf_run.proofs.Joins.{contains_past, past_below}
use Rattle.pf_run.proofs.Limits.{passes_tests}
use Rattle.pf_run.proofs.Numbers.{held_filter, held_past}
use Rattle.pf_run.proofs.Runs.{computed_length}
use Rattle.pf_script_laws.specs.Repairs.Repairs.{EarlyLeavesMayBeAltered, IsRepair}
use Rattle.pf_script_laws.proofs.RepairsLemmas.Altered.{denied_as, taken}

-- nothing else is told as a leave that was too early
never : {A : Type 0} (f : A → Grounds) (o : Option A) (g : Grounds) → ((a : A) → f a ≡ g → ⊥) → option_map f o ≡ Some g → ⊥
never f None g differ e = cc
never f (Some a) g differ e = differ a (let same : f a ≡ g = cc in same)

module _ (s : Plan) (r : List Slot) (task sub slot ran t later horizon : ℕ) (before : List Numbered) where
  abbrev told : Grounds
  told = TooEarly task sub slot ran (Some t) later horizon

  record IsEarly (event : Event) : Type 0 where
    pub is_leave : event ≡ Leave slot task
    pub j : Joined
    pub joined : joined_at s.settings.base (in_force (denials_of r) before) task ≡ Some j
    pub next : leaves_in s r j slot (last_slot s.settings (length r)) ≡ Some t

  early_by : (slot' task' : ℕ) (o : Option Joined) → joined_at s.settings.base (in_force (denials_of r) before) task' ≡ o
      → option_map (early_leave s r (in_force (denials_of r) before) slot') o ≡ Some told → IsEarly (Leave slot' task')
  early_by slot' task' None is e = cc
  early_by slot' task' (Some j) is e =
      let own : j.task ≡ task' = eqb-true j.task task' (found_passes (λ (j : Joined). j.task == task') _ j is) in
      let of_task : j.task ≡ task = cc in
      let of_slot : slot' ≡ slot = cc in
      let of_next : leaves_in s r j slot' (last_slot s.settings (length r)) ≡ Some t = cc in
      record {
        is_leave = ap₂ Leave of_slot (sym own ∙ of_task);
        j = j;
        joined = ap (joined_at s.settings.base (in_force (denials_of r) before)) (sym of_task ∙ own) ∙ is;
        next = ap (λ u. leaves_in s r j u (last_slot s.settings (length r))) (sym of_slot) ∙ of_next;
      }

  early_for : (event : Event) (denial : Denial) → grounds_for s r (denials_of r) before event denial ≡ Some told → IsEarly event
  early_for (Join slot' task' cost period early) denied.OverCapacity e = cc
  early_for (Join slot' task' cost period early) denied.NotInside e = cc
  early_for (Join slot' task' cost period early) denied.TooEarly e = cc
  early_for (Join slot' task' cost period early) denied.Released e = cc
  early_for (Leave slot' task') denied.OverCapacity e = cc
  early_for (Leave slot' task') denied.NotInside e = absurd (never (NotInside task') _ told (λ a no. cc) e)
  early_for (Leave slot' task') denied.TooEarly e = early_by slot' task' _ refl e
  early_for (Leave slot' task') denied.Released e = cc
  early_for (Delay slot' task' by) denied.OverCapacity e = cc
  early_for (Delay slot' task' by) denied.NotInside e = absurd (never (NotInside task') _ told (λ a no. cc) e)
  early_for (Delay slot' task' by) denied.TooEarly e = cc
  early_for (Delay slot' task' by) denied.Released e = absurd (never _ _ told (λ a no. cc) e)
  early_for (Limit slot' count) denied.OverCapacity e = cc
  early_for (Limit slot' count) denied.NotInside e = cc
  early_for (Limit slot' count) denied.TooEarly e = cc
  early_for (Limit slot' count) denied.Released e = cc

-- its event
pub record IsFound (s : Plan) (n task slot t : ℕ) (d : Denied) : Type 0 where
  pub x : Numbered
  pub found : event_of d.id (past s n) ≡ Some x
  pub is_leave : x.event ≡ Leave slot task
  pub j : Joined
  pub joined : joined_at s.settings.base (in_force (denials_of (run_of s n)) (before_event d.id (past s n))) task ≡ Some j
  pub next : leaves_in s (run_of s n) j slot (last_slot s.settings n) ≡ Some t

found_by : (s : Plan) (n m task sub slot ran t later horizon : ℕ) (d : Denied) (o : Option Numbered) → m ≡ n → length (run_of s n) ≡ m → event_of d.id (past s m) ≡ o
    → option_and_then (λ x. grounds_for s (run_of s n) (denials_of (run_of s n)) (before_event d.id (past s m)) x.event d.denial) o
    ≡ Some (TooEarly task sub slot ran (Some t) later horizon) → IsFound s n task slot t d
found_by s n m task sub slot ran t later horizon d None same long is e = cc
found_by s n m task sub slot ran t later horizon d (Some x) same long is e =
    let early = early_for s (run_of s n) task sub slot ran t later horizon (before_event d.id (past s m)) x.event d.denial e in record {
      x = x;
      found = ap (λ k. event_of d.id (past s k)) (sym same) ∙ is;
      is_leave = early.is_leave;
      j = early.j;
      joined = ap (λ k. joined_at s.settings.base (in_force (denials_of (run_of s n)) (before_event d.id (past s k))) task) (sym same) ∙ early.joined;
      next = ap (λ k. leaves_in s (run_of s n) early.j slot (last_slot s.settings k)) (sym (long ∙ same)) ∙ early.next;
    }

-- Use: the law.
module _ (next_leave : NextLeaveIsFirst) (s : Plan) (n : ℕ) (d : Denied) (task slot t : ℕ) (scenario : IsScenario s) (at : Contains (denials_of (run_of s n)) d)
    (is : IsFound s n task slot t d) where
  in_all : Contains (past s n) is.x
  in_all = found_all (λ (y : Numbered). y.id == d.id) (Contains (past s n)) (past s n) is.x is.found (All-contains_itself (past s n))

  held : Contains s.events is.x
  held = contains_past s n is.x in_all

  own : is.x.id ≡ d.id
  own = eqb-true is.x.id d.id (found_passes (λ (y : Numbered). y.id == d.id) (past s n) is.x is.found)

  of_slot : slot_of is.x.event ≡ slot
  of_slot = ap slot_of is.is_leave

  early : slot < n
  early = let low : slot_of is.x.event < n = past_below s n is.x in_all in omega (arith, low, of_slot)

  low : slot < s.settings.horizon
  low =
      let tests = passes_tests s.settings is.x.event (All-contains (λ (y : Numbered). IsEvent s.settings y.event) s.events is.x scenario.limits held) in
      omega (arith, tests.slot, of_slot)

  denied_there : list_any (λ (e : Denied). e.id == d.id) (denials_of (run_of s n)) ≡ true
  denied_there = list_any_at (λ (e : Denied). e.id == d.id) (denials_of (run_of s n)) at.0 d at.1 (eq-eqb _ _ (ap (λ (e : Denied). e.id) at.2))

  in_past : (u : ℕ) → slot < u → is_held (past s u) d.id ≡ true
  in_past u above =
      held_past s u d.id ∙ held_filter (λ y. nat_lt (slot_of y.event) u) s.events d.id
      ∙ list_any_at (λ (y : Numbered). nat_lt (slot_of y.event) u && (y.id == d.id)) s.events held.0 is.x held.1
      (ap (λ (y : Numbered). nat_lt (slot_of y.event) u && (y.id == d.id)) held.2
      ∙ ap₂ (λ a b. a && b) (lt-ltb (slot_of is.x.event) u (omega (arith, above, of_slot))) (eq-eqb is.x.id d.id own))

  pub repaired : IsRepair s d.id task slot t
  repaired =
      let first = next_leave.told s (run_of s n) is.j slot (last_slot s.settings n) t (let z : slot ≤ min n (s.settings.horizon - 1) = omega (arith, early, low) in z) is.next in
      let below : t < s.settings.horizon = omega (arith, first.within, low) in
      let within : t ≤ n = omega (arith, first.within) in record {
        taken = taken s d.id task slot scenario is.x held own is.is_leave t below;
        let_go = denied_as s d.id task slot scenario is.x held own is.is_leave t below n within denied_there is.j is.joined (in_past t first.above) ∙ first.let_go;
        before = λ u above under.
            let u_low : u < s.settings.horizon = omega (arith, under, below) in
            let u_within : u ≤ n = omega (arith, under, within) in
            denied_as s d.id task slot scenario is.x held own is.is_leave u u_low n u_within denied_there is.j is.joined (in_past u above) ∙ first.before u above under;
      }

pub early_leaves_may_be_altered : NextLeaveIsFirst → EarlyLeavesMayBeAltered
early_leaves_may_be_altered next_leave s n d task sub slot ran t later horizon scenario at grounds =
    repaired next_leave s n d task slot t scenario at
    (found_by s n (length (run_of s n)) task sub slot ran t later horizon d _ (computed_length s n scenario) refl refl grounds)
