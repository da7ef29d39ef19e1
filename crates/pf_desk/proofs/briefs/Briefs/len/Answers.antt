use Rattle.std.proofs.Common.{length, ap, sym, ◌∙◌}
use Rattle.pf_desk.specs.Runs.{Noted}
use Rattle.pf_desk.proofs.Runs.{length-briefs}
use Rattle.pf_desk.proofs.briefs.Briefs.len.Goals as goal

pub returns-clause-value : goal.returns-clause-value
returns-clause-value c = sym (length-briefs c.self.inside.runs.items c.self.inside.count) ∙ ap (λ (noted : Noted). length noted.items) c.self.view_is
