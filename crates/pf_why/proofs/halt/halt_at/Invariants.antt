use Rattle.std.proofs.Common.{◌≡◌, ◌+◌, drop, take, sum_by}
use Rattle.pf_tally.specs.Held.{delay_from, next_in}
use Rattle.pf_why.specs.Upcoming.{halt_from}
use Rattle.pf_why.proofs.halt.halt_at.Given as goal

-- the shift is that of the events so far, and none of them made the stop
abbrev pub invariant-loop-numbered : goal.invariant-loop-numbered
invariant-loop-numbered l = record {
  shift_is : l.shift ≡ l.task.slot + sum_by (λ x. delay_from l.task x.event) (take l.numbered-index l.events);
  rest : halt_from (next_in l.ran) l.task l.t l.shift (drop l.numbered-index l.events) ≡ halt_from (next_in l.ran) l.task l.t l.task.slot l.events;
}
