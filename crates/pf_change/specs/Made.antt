-- How a text is made before it is written.
use Rattle.std.specs.Prelude.{⊤, ℕ, ◌≡◌, Option, Some, Result, Err}
use Rattle.pf_vocabulary.specs.declared.fault.fault.Fault.{Fault}
use Rattle.pf_vocabulary.specs.declared.fault.fault.Fault.TheVariants as why
use Rattle.pf_script.specs.Told.{FaultTold}
use Rattle.pf_replies.specs.Course.{fault_number}
use Rattle.pf_change.specs.Difference.{DiffTold}

-- this was not told: the first bad record stopped it, or running out of memory
abbrev pub Stops : Result DiffTold ℕ → Fault → Type 0
Stops change (why.BadRecord number) = change ≡ Err number
Stops change why.NoMemory = ⊤
Stops change fault = ⊥

-- and lines with this fault were not read
abbrev pub StopsReading : Option FaultTold → Fault → Type 0
StopsReading told (why.BadRecord number) = fault_number told ≡ Some number
StopsReading told why.NoMemory = ⊤
StopsReading told fault = ⊥
