use Rattle.std.proofs.Common.{◌+◌, length, sym, ◌∙◌}
use Rattle.std.proofs.lemmas.Bool.{le-leb}
use Rattle.pf_journal.proofs.States.{few_judged, open_judged, short_judged}
use Rattle.pf_journal.proofs.shape.is_end.Goals as goal

pub returns-then-bytes-size : goal.returns-then-bytes-size
returns-then-bytes-size c =
    let bytes = c.args.bytes.now in
    le-leb (length bytes) (c.args.size + 1) c.if-bytes-size.true
    ∙ sym (short_judged bytes c.args.size c.requires.size c.requires.headed c.if-bytes-size.true)

pub returns-else-size-le-HEADING_SIZE : goal.returns-else-size-le-HEADING_SIZE
returns-else-size-le-HEADING_SIZE c =
    few_judged c.args.bytes.now c.args.size c.requires.size c.requires.headed c.if-bytes-size.false c.if-bytes-size-eq35.true c.if-size-le-HEADING_SIZE.false

pub returns-else-bytes-size-eq35 : goal.returns-else-bytes-size-eq35
returns-else-bytes-size-eq35 c =
    open_judged c.args.bytes.now c.args.size c.requires.size c.requires.headed c.if-bytes-size.false c.if-bytes-size-eq35.false
