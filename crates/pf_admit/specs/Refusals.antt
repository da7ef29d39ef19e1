-- What a denial is called: its number and name in the table of refusals.
use Rattle.std.specs.Prelude.{ℕ, List, codes}
use Rattle.pf_admit.specs.declared.denial.Denial.{Denial}
use Rattle.pf_admit.specs.declared.denial.Denial.TheVariants.{OverCapacity, NotInside, TooEarly, Released}

abbrev pub denial_code : Denial → ℕ
denial_code OverCapacity = 20
denial_code NotInside = 21
denial_code TooEarly = 22
denial_code Released = 23

abbrev pub denial_name : Denial → List ℕ
denial_name OverCapacity = codes "OverCapacity"
denial_name NotInside = codes "NotInside"
denial_name TooEarly = codes "TooEarly"
denial_name Released = codes "Released"
