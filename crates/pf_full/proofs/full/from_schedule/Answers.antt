use Rattle.std.proofs.Common.{◌∙◌, ◌++◌, ap, ap₂, codes, map}
use Rattle.std.specs.Fmt.{decimal}
use Rattle.serde_json.specs.Data.{array}
use Rattle.serde_json.specs.View.{items_of}
use Rattle.serde_json.specs.Written.{compact_text}
use Rattle.pf_report.specs.Json.{array_data, sitter_data}
use Rattle.pf_full.specs.Parts.{from_schedule}
use Rattle.pf_full.proofs.full.from_schedule.Goals as goal

pub returns : goal.returns
unfolding from_schedule
returns c =
    c.keyed.ensures
    ∙ (λ i. c.in_ok-key.ensures.items i ++ (compact_text (array (items_of (map (array_data sitter_data) (c.of.ensures i).rows))) ++ c.in_ok-behind.ensures i))
