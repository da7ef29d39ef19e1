use Rattle.std.proofs.Common.{◌≡◌, map}
use Rattle.pf_collections.specs.Table.Lists.{noted_of}
use Rattle.pf_picture.specs.Denials.{drawing_with}
use Rattle.pf_picture.proofs.drawings.drawings_by.Given as goal

abbrev pub invariant-loop-task : goal.invariant-loop-task
invariant-loop-task l = l.drawings.items ≡ map (λ x. drawing_with l.names (noted_of l.own x.task) (noted_of l.denied x.task) l.now x) l.yielded
