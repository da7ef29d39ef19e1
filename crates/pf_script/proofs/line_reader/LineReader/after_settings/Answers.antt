use Rattle.pf_script.specs.Places.{record_lines}
use Rattle.pf_script.specs.Script.{script_records}
use Rattle.pf_script.proofs.Opening.{opened_lines}
use Rattle.pf_script.proofs.line_reader.LineReader.after_settings.Goals as goal

pub new-requires : goal.new-requires
new-requires c = rw c.after_settings.ensures (opened_lines c.args.version 1 (record_lines c.args.bytes.now) (script_records c.args.bytes.now))
