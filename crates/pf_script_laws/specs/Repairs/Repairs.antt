-- What a denied event does to a run, and what comes of a leave that was too early when it is altered.
use Rattle.std.specs.Prelude.{◌≡◌, ℕ, ◌+◌, ◌==◌, ◌<◌, true, not, Option, None, Some, map, filter, find}
use Rattle.std.specs.List.{Contains, list_any}
use Rattle.std.specs.Option.{option_map}
use Rattle.pf_admit.specs.declared.denial.Denial.{Denial}
use Rattle.pf_admit.specs.declared.denial.Denial.TheVariants as why
use Rattle.pf_notes.specs.Grounds.{grounds_of}
use Rattle.pf_notes.specs.declared.grounds.Grounds.TheVariants.{TooEarly}
use Rattle.pf_run.specs.Computed.{run_of}
use Rattle.pf_run.specs.Record.{Slot, denials_of}
use Rattle.pf_run.specs.declared.denied.Denied.{Denied}
use Rattle.pf_scenario.specs.Edit.{IsScenario, edit_fault}
use Rattle.pf_scenario.specs.Scenario.{Plan, plan_after}
use Rattle.pf_scenario.specs.declared.change.Change.TheVariants.{Alter, Strike}
use Rattle.pf_scenario.specs.declared.event.Event.TheVariants.{Leave}

-- a slot without the denial of the event of this number
abbrev pub slot_without : ℕ → Slot → Slot
slot_without id slot = record slot { denials = filter (λ d. not (d.id == id)) slot.denials }

-- A denied event has no effect: where it is struck out, the run is the same but for its denial.
abbrev pub DeniedEventsHaveNoEffect : Type 0
DeniedEventsHaveNoEffect =
    (s : Plan) (n id : ℕ) → IsScenario s → list_any (λ d. d.id == id) (denials_of (run_of s n)) ≡ true
    → run_of (plan_after s (Strike id)) n ≡ map (slot_without id) (run_of s n)

-- the scenario whose event of this number is a leave of the task in slot t
abbrev pub leaving_in : Plan → ℕ → ℕ → ℕ → Plan
leaving_in s id task t = plan_after s (Alter id (Leave t task))

-- why the event of this number is denied in the run up to slot t, if it is
abbrev pub denial_up_to : Plan → ℕ → ℕ → Option Denial
denial_up_to s id t = option_map (λ (d : Denied). d.denial) (find (λ d. d.id == id) (denials_of (run_of s (t + 1))))

-- with the leave in slot t it is let go in the run up to that slot, and in each slot between it would be too early
pub record IsRepair (s : Plan) (id task slot t : ℕ) : Type 0 where
  pub taken : edit_fault s (Alter id (Leave t task)) ≡ None
  pub let_go : denial_up_to (leaving_in s id task t) id t ≡ None
  pub before : (u : ℕ) → slot < u → u < t → denial_up_to (leaving_in s id task u) id u ≡ Some why.TooEarly

-- The slot that is told of a leave that was too early is the next one in which it may leave: with the leave altered to it the
-- event is not denied in the run up to that slot, and in each slot between it would be too early.
abbrev pub EarlyLeavesMayBeAltered : Type 0
EarlyLeavesMayBeAltered =
    (s : Plan) (n : ℕ) (d : Denied) (task sub slot ran t later horizon : ℕ) → IsScenario s → Contains (denials_of (run_of s n)) d
    → grounds_of s (run_of s n) d ≡ Some (TooEarly task sub slot ran (Some t) later horizon) → IsRepair s d.id task slot t
