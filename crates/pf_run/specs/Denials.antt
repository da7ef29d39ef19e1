-- Which events are denied.
use Rattle.std.specs.Prelude.{ℕ, Option, None, Some, List, [], ◌∷◌, ◌++◌, length}
use Rattle.pf_scenario.specs.Share.{share_of}
use Rattle.pf_scenario.specs.System.{System}
use Rattle.pf_scenario.specs.declared.event.Event.{Event}
use Rattle.pf_scenario.specs.declared.event.Event.TheVariants.{Join, Leave, Delay, Limit}
use Rattle.pf_scenario.specs.declared.event.Numbered.{Numbered}
use Rattle.pf_admit.specs.Admission.{join_denial, leave_denial, delay_denial}
use Rattle.pf_admit.specs.declared.denial.Denial.{Denial}
use Rattle.pf_run.specs.declared.denied.Denied.{Denied}
use Rattle.pf_run.specs.Record.{Slot, in_force}
use Rattle.pf_run.specs.Inside.{load_of, member_at}

-- why an event's rule fails after the slots r, where the events xs are in force before it
abbrev pub denial_of : System → List Slot → List Numbered → Event → Option Denial
denial_of s r xs (Join slot task cost period early) =
    join_denial (load_of s.base xs) (share_of s.base cost period).units s.cap
denial_of s r xs (Leave slot task) = leave_denial slot (member_at s.base r xs task)
denial_of s r xs (Delay slot task by) = delay_denial slot (member_at s.base r xs task)
denial_of s r xs (Limit slot count) = None

-- the event in a list of denials, where there is a reason
abbrev pub denied_for : Numbered → ℕ → Option Denial → List Denied
denied_for x t None = []
denied_for x t (Some denial) = record { slot = t; id = x.id; denial = denial } ∷ []

-- of the events of a slot those whose rule fails at their place, in run order. `before` stands before them; of that
-- what is among the denials is not in force.
abbrev pub denials_behind : System → List Slot → List Denied → List Numbered → List Numbered → List Denied
denials_behind s r denials before [] = []
denials_behind s r denials before (x ∷ xs) =
    denied_for x (length r) (denial_of s r (in_force denials before) x.event)
    ++ denials_behind s r denials (before ++ x ∷ []) xs
