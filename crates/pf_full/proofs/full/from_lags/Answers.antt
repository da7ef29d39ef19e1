use Rattle.std.proofs.Common.{◌∙◌, ◌++◌, ap, ap₂, codes, map}
use Rattle.std.specs.Fmt.{decimal}
use Rattle.serde_json.specs.Data.{array}
use Rattle.serde_json.specs.View.{items_of}
use Rattle.serde_json.specs.Written.{compact_text}
use Rattle.pf_report.specs.Json.{lag_data, miss_data}
use Rattle.pf_full.specs.Parts.{from_lags, from_misses}
use Rattle.pf_full.proofs.full.from_lags.Goals as goal

pub returns : goal.returns
unfolding from_lags from_misses
returns c =
    let misses = c.keyed-misses.ensures
    ∙ (λ i. c.in_ok-misses_key.ensures.items i
    ++ (compact_text (array (items_of (map miss_data ((c.of.ensures ∙ c.in_ok-lags.ensures.misses) i)))) ++ c.in_ok-behind.ensures i)) in
    c.keyed.ensures
    ∙ (λ i. c.in_ok-lags_key.ensures.items i
    ++ (compact_text (array (items_of (map lag_data ((c.of-2.ensures ∙ c.in_ok-lags.ensures.lags) i)))) ++ misses i))
