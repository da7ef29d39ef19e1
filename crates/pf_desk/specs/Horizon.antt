-- The desk machine at the horizon of ordinary settings and at the wide one.
use Rattle.std.specs.Prelude.{◌≡◌, ◌≢◌, List, All}
use Rattle.pf_scenario.specs.System.{System, near_horizon, wide_horizon}
use Rattle.pf_scenario.specs.declared.fault.EditFault.TheVariants.{SlotOutOfRange}
use Rattle.pf_run.specs.Computed.{run_of}
use Rattle.pf_desk.specs.declared.entry.Entry.{Entry}
use Rattle.pf_desk.specs.declared.reply.Reply.{Reply}
use Rattle.pf_desk.specs.declared.reply.Reply.TheVariants.{Refused}
use Rattle.pf_desk.specs.declared.reply.Fault.TheVariants.{BadEdit, AtHorizon}
use Rattle.pf_desk.specs.Machine.{State}
use Rattle.pf_desk.specs.History.{IsLegal, last_state}

-- the same settings with the wide horizon
abbrev pub with_wide_horizon : System → System
with_wide_horizon s = record s { horizon = wide_horizon }

-- the reply does not show the horizon
abbrev pub IsShortOfHorizon : Reply → Type 0
IsShortOfHorizon reply = (reply ≢ Refused (BadEdit SlotOutOfRange)) × (reply ≢ Refused AtHorizon)

-- the runs of both states are equal
abbrev pub HaveOneRun : State → State → Type 0
HaveOneRun x y = run_of x.plan x.now ≡ run_of y.plan y.now

-- The horizon is out of sight: a legal history at the horizon of ordinary settings, none of whose replies shows that
-- horizon, is legal at the wide horizon too, and its last state has the same run.
abbrev pub HorizonIsOutOfSight : Type 0
HorizonIsOutOfSight = (s : System) (es : List Entry) → s.horizon ≡ near_horizon →
    All (λ e. IsShortOfHorizon e.reply) es → IsLegal s es →
    IsLegal (with_wide_horizon s) es × HaveOneRun (last_state s es) (last_state (with_wide_horizon s) es)
