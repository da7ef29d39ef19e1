use Rattle.pf_cli.proofs.Running.{unread_if}
use Rattle.pf_cli.proofs.run.run.Goals as goal

pub returns-in-Err-clause-meaning : goal.returns-in-Err-clause-meaning
returns-in-Err-clause-meaning g c =
    rw c.from.ensures
    (unread_if c.args.format (g.R.Read.remaining c.args.reader.now) c.in-Err.fault (g.W.Write.contents c.args.writer.now) c.in-Err.ensures.bytes)
