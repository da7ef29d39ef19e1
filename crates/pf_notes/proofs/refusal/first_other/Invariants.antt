use Rattle.std.proofs.Common.{◌≡◌, find}
use Rattle.pf_notes.specs.Refusal.{is_other}
use Rattle.pf_notes.proofs.refusal.first_other.Given as goal

abbrev pub invariant-loop-numbered : goal.invariant-loop-numbered
invariant-loop-numbered l = find (is_other l.id l.event) l.numbered-iterator ≡ find (is_other l.id l.event) l.scenario.events
