use Rattle.std.proofs.Common.{◌∙◌, ◌++◌, ap, ap₂, codes, map}
use Rattle.std.specs.Fmt.{decimal}
use Rattle.serde_json.specs.Data.{array}
use Rattle.serde_json.specs.View.{items_of}
use Rattle.serde_json.specs.Written.{compact_text}
use Rattle.pf_full.specs.Full.{event_data}
use Rattle.pf_full.specs.Parts.{from_events}
use Rattle.pf_full.proofs.full.from_events.Goals as goal

pub returns : goal.returns
unfolding from_events
returns c =
    c.keyed.ensures
    ∙ (λ i. (c.in_ok-key.ensures ∙ ap (λ n. codes ",\"entries\":" ++ (decimal n ++ codes ",\"events\":")) c.version.ensures) i ++ (compact_text (array (items_of (map event_data (c.in_ok-events.ensures i)))) ++ c.in_ok-behind.ensures i))
