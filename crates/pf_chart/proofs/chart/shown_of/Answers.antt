use Rattle.std.proofs.Common.{rules}
use Rattle.std.proofs.lemmas.Fn.{filter_same}
use Rattle.pf_vocabulary.specs.Tasks.Listed.{is_listed}
use Rattle.pf_courses.specs.Listing.{Listing}
use Rattle.pf_chart.proofs.chart.shown_of.Goals as goal

pub returns : goal.returns
returns c =
    filter_same _ (λ (l : Listing). is_listed c.args.tasks.now l.task) _ (λ x b f' r. (search rules, search rules)) c.args.listed.items c.retain.new.self.items c.retain.ensures.filtered
