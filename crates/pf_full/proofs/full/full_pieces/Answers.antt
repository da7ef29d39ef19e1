use Rattle.std.proofs.Common.{◌∙◌, ◌++◌, ap, ap₂, codes, map}
use Rattle.std.specs.Fmt.{decimal}
use Rattle.serde_json.specs.Data.{array}
use Rattle.serde_json.specs.View.{items_of}
use Rattle.serde_json.specs.Written.{compact_text}
use Rattle.pf_run.specs.Computed.{run_of}
use Rattle.pf_tally.specs.Figures.{figures_of}
use Rattle.pf_tally.specs.Lags.{lags_of}
use Rattle.pf_tally.specs.Misses.{misses_of}
use Rattle.pf_report.specs.Json.{array_data, denial_data, lag_data, miss_data, sitter_data}
use Rattle.pf_full.specs.Full.{event_data, figures_data, full_data, refusal_data, settings_data}
use Rattle.pf_full.specs.Parts.{from_events, from_figures, from_lags, from_misses, from_refusals, from_schedule, from_settings}
use Rattle.pf_full.proofs.FullParts.{by_keys}
use Rattle.pf_full.proofs.full.full_pieces.Goals as goal

pub returns : goal.returns
unfolding full_data from_events from_figures from_lags from_misses from_refusals from_schedule from_settings
returns c =
    let seen = c.args.snapshot.now in
    c.keyed.ensures
    ∙ (λ i. c.in_ok-key.ensures.items i ++ (compact_text (array (items_of (map denial_data (c.of.ensures i)))) ++ c.in_ok-behind.ensures i))
    ∙ by_keys (items_of (map denial_data seen.denials)) seen.version (items_of (map event_data seen.state.plan.events))
    (items_of (map figures_data (figures_of seen.state.plan (run_of seen.state.plan seen.state.now) seen.rows)))
    (items_of (map lag_data (lags_of seen.state.plan (run_of seen.state.plan seen.state.now))))
    (items_of (map miss_data (misses_of seen.state.plan (run_of seen.state.plan seen.state.now)))) seen.state.now
    (items_of (map refusal_data c.args.refusals.items)) (items_of (map (array_data sitter_data) seen.rows)) (settings_data c.args.every seen.state.plan.settings) c.args.titles.now
