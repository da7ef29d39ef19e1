-- The worked examples of admission, computed.
use Rattle.std.proofs.Common.{refl}
use Rattle.pf_window.specs.Window.{release_of, deadline_of, bit_of}
use Rattle.pf_window.specs.Group.{group_of}
use Rattle.pf_laws.specs.Examples.Admissions.{WorkedAdmission}

pub worked_admission : WorkedAdmission
unfolding release_of deadline_of bit_of group_of
worked_admission = record {
  join = refl;
  join_above = refl;
  leave_early = refl;
  leave = refl;
  leave_unrun = refl;
  light_early = refl;
  light = refl;
  delay = refl;
  delay_late = refl;
  leave_of_none = refl;
  delay_of_none = refl;
}
