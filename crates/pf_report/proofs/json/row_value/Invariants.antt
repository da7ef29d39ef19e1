use Rattle.std.proofs.Common.{◌≡◌, map, take}
use Rattle.serde_json.specs.View.{view}
use Rattle.pf_place.specs.Lent.{lent_row}
use Rattle.pf_report.specs.Json.{sitter_data}
use Rattle.pf_report.proofs.json.row_value.Given as goal

abbrev pub invariant-loop-processor : goal.invariant-loop-processor
invariant-loop-processor l = map view l.values.items ≡ map sitter_data (take l.processor (lent_row l.row))
