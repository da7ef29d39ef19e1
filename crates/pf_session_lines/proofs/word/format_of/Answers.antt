use Rattle.std.proofs.Common.{sym}
use Rattle.pf_session_lines.proofs.Named.{names_none}
use Rattle.pf_session_lines.proofs.word.format_of.Goals as goal

pub returns-in-Err : goal.returns-in-Err
returns-in-Err c = sym (names_none c.args.name.now c.in-Err.ensures.cases.0)
