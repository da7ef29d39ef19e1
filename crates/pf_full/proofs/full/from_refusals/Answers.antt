use Rattle.std.proofs.Common.{◌∙◌, ◌++◌, ap, ap₂, codes, map}
use Rattle.std.specs.Fmt.{decimal}
use Rattle.serde_json.specs.Data.{array}
use Rattle.serde_json.specs.View.{items_of}
use Rattle.serde_json.specs.Written.{compact_text}
use Rattle.pf_report.specs.Json.{names_part}
use Rattle.pf_full.specs.Full.{refusal_data}
use Rattle.pf_full.specs.Parts.{from_refusals}
use Rattle.pf_full.proofs.full.from_refusals.Goals as goal

pub returns : goal.returns
unfolding from_refusals
returns c =
    c.keyed.ensures
    ∙ (λ i. (c.in_ok-key.ensures ∙ ap (λ n. names_part c.args.titles.now ++ (codes ",\"now\":" ++ (decimal n ++ codes ",\"refusals\":"))) c.now.ensures.value) i ++ (compact_text (array (items_of (map refusal_data (c.of.ensures i)))) ++ c.in_ok-behind.ensures i))
