-- What is known of an event that isn't denied.
use Rattle.std.proofs.Common.{◌≡◌, ℕ, ◌≤◌, Option, Some, None, refl, sym, subst, arith}
use Rattle.pf_scenario.specs.declared.event.Event.{Event}
use Rattle.pf_scenario.specs.declared.event.Event.TheVariants.{Join, Leave, Delay, Limit}
use Rattle.pf_admit.specs.Admission.{delay_denial}
use Rattle.pf_admit.specs.declared.member.Member.{Member}
use Rattle.pf_engine.specs.Fits.{Kept}
use Rattle.pf_engine.specs.Kept.{kept_after_event}
use Rattle.pf_engine.specs.Engines.{IsEngine}
use Rattle.pf_engine.specs.Taking.{CanTakeEvent}
use Rattle.pf_engine.specs.Keeping.{join_count}

-- an event brings one task at most
pub one_joins : (event : Event) → join_count event ≤ 1
one_joins (Join slot task cost period early) = omega arith
one_joins (Leave slot task) = omega arith
one_joins (Delay slot task by) = omega arith
one_joins (Limit slot count) = omega arith

-- afterwards all is within its limits
pub engine_after : {e e' : Kept} {event : Event} → CanTakeEvent e event → e' ≡ kept_after_event e event → IsEngine e'
engine_after can same = subst IsEngine (sym same) can.next

-- the task is inside
pub inside_of_delay : (slot : ℕ) (o : Option Member) → delay_denial slot o ≡ None → (m : Member) × (o ≡ Some m)
inside_of_delay slot None none = absurd (cc)
inside_of_delay slot (Some m) none = (m, refl)
