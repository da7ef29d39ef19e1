use Rattle.std.proofs.Common.{◌≡◌, ◌∷◌, ◌+◌, ◌-◌, ◌<◌, map, sym, subst, arith}
use Rattle.std.specs.Fmt.{decimal}
use Rattle.pf_place.specs.Lent.{lent_row}
use Rattle.pf_report.specs.Part.{Part, part_records}
use Rattle.pf_report.specs.Tables.{sitter_field}
use Rattle.pf_report.proofs.Parted.{part_first}
use Rattle.pf_text.proofs.Recorded.{first_added}
use Rattle.pf_report.proofs.schedule_part.PartRowsRecords.push_record.Goals as goal

pub row_at-requires : goal.row_at-requires
row_at-requires c =
    let i = c.self.inside in
    let below = subst (λ (p : Part). c.args.at < p.to - p.from) (sym c.self.view_is) c.requires.within in
    omega (arith, below, c.self.invariant.0, c.self.invariant.1)

pub returns : goal.returns
returns c =
    let i = c.self.inside in
    let at = c.args.at in
    let row = lent_row c.row_at.result in
    let below = subst (λ (p : Part). at < p.to - p.from) (sym c.self.view_is) c.requires.within in
    let first = part_first (record { seen = i.snapshot.now; from = i.from; to = i.to }) at row c.self.invariant.1
    (omega (arith, below, c.self.invariant.0)) c.row_at.ensures.row in
    first_added c.push_row.result _ _ _ c.args.table.now c.push_row.new.table
    (subst (λ (p : Part). part_records p at ≡ (decimal (i.from + at) ∷ map sitter_field row) ∷ part_records p (at + 1)) c.self.view_is first) c.push_row.ensures
