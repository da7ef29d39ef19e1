use Rattle.std.proofs.Common.{◌-◌, ap, sym, ◌∙◌}
use Rattle.pf_calendar.specs.Queues.{key_count}
use Rattle.pf_calendar.proofs.Whole.{count_is}
use Rattle.pf_calendar.proofs.calendar.Calendar.len.Goals as goal

pub returns : goal.returns
returns c =
    let laid = c.self.invariant.0.laid in
    laid.held_is ∙ sym (count_is laid (c.self.inside.limit - c.self.inside.held)) ∙ ap key_count c.self.view_is
