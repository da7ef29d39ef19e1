-- Worked examples of admission.
use Rattle.std.specs.Prelude.{◌≡◌, ℕ, Option, None, Some}
use Rattle.pf_admit.specs.Admission.{join_denial, leave_denial, delay_denial}
use Rattle.pf_admit.specs.declared.member.Member.{Member}
use Rattle.pf_admit.specs.declared.denial.Denial.TheVariants.{OverCapacity, NotInside, TooEarly, Released}
use Rattle.pf_laws.specs.Examples.Windows.{weight}

-- a task of this weight that joined in slot 0 and received so many quanta, with no delay
abbrev pub member_with : ℕ → ℕ → ℕ → Option Member
member_with cost period done = Some (record {
  weight = weight cost period;
  joined = 0;
  early = 0;
  done = done;
  shift = 0;
  last = 0;
})

pub record WorkedAdmission : Type 0 where
  -- 11 + 1 is the cap of 12, and 12 + 1 is above it
  pub join : join_denial 11 1 12 ≡ None
  pub join_above : join_denial 12 1 12 ≡ Some OverCapacity
  -- 8/11 ran once: its group deadline is 4 and its bit 1, so it may leave in slot 5
  pub leave_early : leave_denial 4 (member_with 8 11 1) ≡ Some TooEarly
  pub leave : leave_denial 5 (member_with 8 11 1) ≡ None
  -- where it never ran it may leave at once
  pub leave_unrun : leave_denial 0 (member_with 8 11 0) ≡ None
  -- 3/7 is light and ran once: its deadline is 3 and its bit 1, so it may leave in slot 4
  pub light_early : leave_denial 3 (member_with 3 7 1) ≡ Some TooEarly
  pub light : leave_denial 4 (member_with 3 7 1) ≡ None
  -- the second subtask of 1/2 is released in slot 2
  pub delay : delay_denial 2 (member_with 1 2 1) ≡ None
  pub delay_late : delay_denial 3 (member_with 1 2 1) ≡ Some Released
  -- who isn't inside doesn't leave, and isn't delayed
  pub leave_of_none : leave_denial 0 None ≡ Some NotInside
  pub delay_of_none : delay_denial 0 None ≡ Some NotInside
