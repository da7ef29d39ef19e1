use Rattle.std.proofs.Common.{◌+◌, ◌∙◌, ap}
use Rattle.pf_journal.specs.Lines.{ends_in, texts_of}
use Rattle.pf_journal.proofs.Counting.{lines_end}
use Rattle.pf_journal.proofs.Reading.{texts_of-all}
use Rattle.pf_journal.proofs.found.Found.damaged_record.Goals as goal

pub returns : goal.returns
returns g c =
    let bytes = c.args.self.now.contents.bytes.items in
    ap (λ n. n + 1) (c.ends_in.ensures.lines ∙ ap ends_in c.lines.ensures ∙ lines_end (texts_of bytes) (texts_of-all bytes))
