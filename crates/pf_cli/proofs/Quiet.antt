-- A status of 0 is that of what was done.
use Rattle.std.proofs.Common.{◌≡◌, ◌≢◌, refl, arith}
use Rattle.pf_vocabulary.specs.Fault.Faults.{number_of, status_behind}
use Rattle.pf_vocabulary.specs.declared.fault.fault.Fault.{Fault}
use Rattle.pf_vocabulary.specs.declared.fault.fault.Fault.TheVariants as why
use Rattle.pf_vocabulary.specs.declared.fault.status.Status.{Status}
use Rattle.pf_vocabulary.specs.declared.fault.status.Status.TheVariants.{Done, BadScript, BadWords, StreamFailed, NoMemory, GateShut, FailedOn}

pub done_of_zero : (s : Status) → number_of s ≡ 0 → s ≡ Done
done_of_zero Done is = refl
done_of_zero BadScript is = absurd (omega (arith, is))
done_of_zero BadWords is = absurd (omega (arith, is))
done_of_zero StreamFailed is = absurd (omega (arith, is))
done_of_zero NoMemory is = absurd (omega (arith, is))
done_of_zero GateShut is = absurd (omega (arith, is))
done_of_zero FailedOn is = absurd (omega (arith, is))

-- Use: no fault has the status 0.
pub never_zero : (f : Fault) → number_of (status_behind f) ≢ 0
never_zero (why.BadRecord number) is = absurd (omega (arith, is))
never_zero why.TooLong is = absurd (omega (arith, is))
never_zero (why.BadRange range) is = absurd (omega (arith, is))
never_zero why.Read is = absurd (omega (arith, is))
never_zero why.Write is = absurd (omega (arith, is))
never_zero why.NoMemory is = absurd (omega (arith, is))
never_zero why.NoViewer is = absurd (omega (arith, is))
never_zero why.Unread is = absurd (omega (arith, is))
never_zero why.GateShut is = absurd (omega (arith, is))
