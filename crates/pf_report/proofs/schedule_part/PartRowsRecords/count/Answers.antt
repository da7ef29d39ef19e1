use Rattle.std.proofs.Common.{◌-◌, ◌∙◌, sym, ap}
use Rattle.pf_report.specs.Part.{part_records}
use Rattle.pf_report.proofs.Parted.{none_behind}
use Rattle.pf_report.proofs.schedule_part.PartRowsRecords.count.Goals as goal

pub returns-clause-value : goal.returns-clause-value
returns-clause-value c = ap (λ p. p.to - p.from) c.self.view_is

pub returns-clause-end : goal.returns-clause-end
returns-clause-end c =
    let i = c.self.inside in
    ap (λ p. part_records p (i.to - i.from)) (sym c.self.view_is)
    ∙ none_behind (record { seen = i.snapshot.now; from = i.from; to = i.to }) c.self.invariant.0 c.self.invariant.1
