use Rattle.std.proofs.Common.{◌∙◌, ◌++◌, ap, ap₂, codes, map}
use Rattle.std.specs.Fmt.{decimal}
use Rattle.serde_json.specs.Data.{array}
use Rattle.serde_json.specs.View.{items_of}
use Rattle.serde_json.specs.Written.{compact_text}
use Rattle.pf_full.specs.Full.{settings_data}
use Rattle.pf_full.specs.Parts.{from_settings}
use Rattle.pf_full.proofs.full.from_settings.Goals as goal

pub returns : goal.returns
unfolding from_settings
returns c =
    c.new-2.ensures ∙ ap₂ (λ a b. a ++ b) (c.new-key.ensures ∙ c.in_ok-from_slice.ensures.items)
    (c.new.ensures ∙ ap₂ (λ a b. a ++ b)
    (c.new-settings.ensures ∙ c.in_ok-settings_text.ensures ∙ ap (λ s. compact_text (settings_data c.args.every s)) c.settings.ensures)
    (c.new-end.ensures ∙ c.in_ok-end_text.ensures))
