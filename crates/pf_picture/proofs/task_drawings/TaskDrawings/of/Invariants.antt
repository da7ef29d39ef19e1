use Rattle.std.proofs.Common.{◌≡◌, filter, not}
use Rattle.pf_vocabulary.specs.Tasks.Listed.{is_listed}
use Rattle.pf_picture.proofs.task_drawings.TaskDrawings.of.Given as goal

abbrev pub invariant-loop-drawing : goal.invariant-loop-drawing
invariant-loop-drawing l = record {
  shown : l.shown.items ≡ filter (λ d. is_listed l.tasks d.listing.task) l.yielded;
  others : l.others.items ≡ filter (λ d. not (is_listed l.tasks d.listing.task)) l.yielded;
}
