use Rattle.std.proofs.Common.{◌∙◌, ◌++◌, ap, ap₂, codes, map}
use Rattle.std.specs.Fmt.{decimal}
use Rattle.serde_json.specs.Data.{array}
use Rattle.serde_json.specs.View.{items_of}
use Rattle.serde_json.specs.Written.{compact_text}
use Rattle.pf_full.specs.Full.{figures_data}
use Rattle.pf_full.specs.Parts.{from_figures}
use Rattle.pf_full.proofs.full.from_figures.Goals as goal

pub returns : goal.returns
unfolding from_figures
returns c =
    c.keyed.ensures
    ∙ (λ i. c.in_ok-key.ensures.items i ++ (compact_text (array (items_of (map figures_data ((c.of-figures.ensures ∙ c.in_ok-figures.ensures) i)))) ++ c.in_ok-pieces.ensures i))
