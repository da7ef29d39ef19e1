use Rattle.std.proofs.Common.{refl}
use Rattle.pf_convert.specs.List.Reading.{line_of}
use Rattle.pf_convert.proofs.list.tasks.Tasks.new.Goals as goal

pub invariant_of-result : goal.invariant_of-result
unfolding line_of
invariant_of-result c = λ name. rw (c.new-2.ensures.empty, c.new.ensures.items) refl
