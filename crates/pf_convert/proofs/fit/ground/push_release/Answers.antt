use Rattle.std.proofs.Common.{codes}
use Rattle.std.proofs.lemmas.Result.{on_ok_weaker}
use Rattle.pf_lemmas.proofs.Lists.{two_written}
use Rattle.pf_convert.specs.Fit.Notes.{early_words}
use Rattle.pf_convert.proofs.fit.ground.push_release.Goals as goal

pub returns : goal.returns
returns c =
    on_ok_weaker c.push_early.result
    (λ e. two_written c.args.words.now.items
    (codes "rests on: jobs of a task come as a slot begins, `every` apart or more, take `work` at most, and are released then")
    (early_words c.args.early) c.extend_from_slice.new.self.items c.push_early.new.words.items c.in_ok-extend_from_slice.ensures.items e)
    c.push_early.ensures
