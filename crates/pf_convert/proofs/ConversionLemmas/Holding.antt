-- The tasks of a plan are in slots, as those were that it was made of.
use Rattle.std.proofs.Common.{ℕ, zero, suc, ◌%◌, ◌≤◌, Bool, true, false, List, Option, None, Some, MatchOption, sym, subst, arith}
use Rattle.std.specs.Prelude.{All, ◌==◌, if◌then◌else◌}
use Rattle.std.proofs.lemmas.List.Elements.{All-map}
use Rattle.pf_convert.specs.declared.plan.Plan.{Plan}
use Rattle.pf_convert.specs.declared.slotted.Slotted.{Slotted}
use Rattle.pf_convert.specs.Plans.{IsExact, IsRounded, rounded_task}
use Rattle.pf_convert.specs.Rounding.{HasNoBase, rounded}
use Rattle.pf_convert.specs.Slots.{IsSlotted}
use Rattle.pf_convert.specs.Conversion.Planned.{HoldsPlan}
use Rattle.pf_convert.proofs.ConversionLemmas.Bases.{smooth_some}

rounded_within : (base period : ℕ) → rounded base period ≤ period
unfolding rounded
rounded_within base zero = omega arith
rounded_within base (suc p) = by (base % suc p == 0) (rounded_within base p)
  where
    by : (b : Bool) → rounded base p ≤ p → (if b then suc p else rounded base p) ≤ suc p
    by true h = omega arith
    by false h = omega (arith, h)

rounded_slotted : (base : ℕ) (t : Slotted) → IsSlotted t → t.cost ≤ rounded base t.period → IsSlotted (rounded_task base t)
rounded_slotted base t s holds = record {
  some = s.some;
  within = holds;
  short = omega (arith, rounded_within base t.period, s.short);
  join = s.join;
  early = s.early;
}

pub exact_holds : (tasks : List Slotted) (p : Plan) → All IsSlotted tasks → IsExact tasks p → HoldsPlan (Some p)
exact_holds tasks p slotted e = record { some = e.least.some; within = e.least.within; slotted = subst (All IsSlotted) (sym e.same) slotted }

pub rounded_holds : (tasks : List Slotted) (p : Plan) → All IsSlotted tasks → IsRounded tasks p → HoldsPlan (Some p)
rounded_holds tasks p slotted r = record {
  some = smooth_some p.base r.best.smooth;
  within = r.best.within;
  slotted =
      subst (All IsSlotted) (sym r.over.rounds)
      (All-map IsSlotted (rounded_task p.base) tasks (λ k d lt. rounded_slotted p.base _ (slotted k d lt) (r.best.holds k d lt)));
}

pub rounded_plan_holds : (tasks : List Slotted) (plan : Option Plan) → All IsSlotted tasks → MatchOption plan (HasNoBase tasks) (IsRounded tasks) → HoldsPlan plan
rounded_plan_holds tasks None slotted h = tt
rounded_plan_holds tasks (Some p) slotted h = rounded_holds tasks p slotted h
