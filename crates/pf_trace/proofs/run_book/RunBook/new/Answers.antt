use Rattle.pf_courses.proofs.OfRun.{length-rows}
use Rattle.pf_trace.proofs.run_book.RunBook.new.Goals as goal

pub invariant_of-result : goal.invariant_of-result
invariant_of-result c = (length-rows c.now.ensures.of_run, c.requires)
