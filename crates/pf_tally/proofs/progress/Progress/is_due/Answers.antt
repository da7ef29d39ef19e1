use Rattle.std.proofs.Common.{ap, ap₂, ◌+◌, ◌-◌, ◌*◌, ◌∙◌, nat_le, arith}
use Rattle.pf_tally.proofs.Windows.{due_by_products}
use Rattle.pf_tally.proofs.progress.Progress.is_due.Goals as goal

pub returns-then-t-self : goal.returns-then-t-self
returns-then-t-self c =
    let w = c.args.self.now.weight in
    let behind = c.args.t - c.args.self.now.shift in
    ap (λ n. nat_le ((n + 1) * c.period.result) (behind * c.cost.result)) c.from.ensures
    ∙ ap₂ (λ period cost. nat_le ((c.args.self.now.received + 1) * period) (behind * cost)) c.period.ensures.value c.cost.ensures.value
    ∙ due_by_products w (c.args.self.now.received + 1) c.args.self.now.shift c.args.t c.cost.ensures.share (omega arith)
