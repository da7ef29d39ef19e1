use Rattle.std.proofs.Common.{refl}
use Rattle.pf_script.specs.Places.{record_lines}
use Rattle.pf_script.specs.Script.{script_records}
use Rattle.pf_script.proofs.Opening.{beginning}
use Rattle.pf_script.proofs.opened.OpenedScript.open.Goals as goal

pub records-init : goal.records-init
records-init c = rw c.new-reader.ensures (record {
  told = refl;
  unopened = beginning 1 (record_lines c.args.bytes.now) (script_records c.args.bytes.now);
})
