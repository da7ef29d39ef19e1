use Rattle.std.proofs.Common.{◌≡◌}
use Rattle.std.specs.Arc.{arc_value}
use Rattle.pf_shared_desk.specs.Opening.{new_readers}
use Rattle.pf_shared_desk.proofs.opened.make_readers.Given as goal

-- so many were made so far
abbrev pub invariant-loop : goal.invariant-loop
invariant-loop l = l.readers.items ≡ new_readers (arc_value l.common).terms l.counter
