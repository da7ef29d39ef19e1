use Rattle.std.proofs.Common.{sym}
use Rattle.pf_script.specs.Left.{lines_ahead}
use Rattle.pf_script.proofs.Lines.{behind-drop}
use Rattle.pf_script.proofs.record_lines.RecordLines.pass.Goals as goal

pub returns-clause-rest : goal.returns-clause-rest
returns-clause-rest c = sym (behind-drop c.args.self.now.passed (lines_ahead c.args.self.now))
