use Rattle.std.proofs.Common.{◌≡◌, take}
use Rattle.pf_convert.specs.Conversion.PlanFaults.{fault_messages}
use Rattle.pf_convert.proofs.conversion.plan_faults.fault_messages.Given as goal

abbrev pub invariant-loop-fault : goal.invariant-loop-fault
invariant-loop-fault l = l.messages ≡ fault_messages l.file l.arrivals l.quantum (take l.fault-index l.faults)
