-- The text of the object from each of its keys on.
use Rattle.std.specs.Prelude.{ℕ, List, ◌++◌, codes}
use Rattle.std.specs.Fmt.{decimal}
use Rattle.serde_json.specs.Written.{compact_text}
use Rattle.pf_run.specs.Computed.{run_of}
use Rattle.pf_tally.specs.Figures.{figures_of}
use Rattle.pf_tally.specs.Lags.{lags_of}
use Rattle.pf_tally.specs.Misses.{misses_of}
use Rattle.pf_desk.specs.Desk.{Seen}
use Rattle.pf_vocabulary.specs.declared.names.titles.Titles.{Titles}
use Rattle.pf_report.specs.Json.{array_data, lag_data, miss_data, names_part, sitter_data, slot_part}
use Rattle.pf_full.specs.Full.{event_data, figures_data, refusal_data, settings_data}
use Rattle.pf_full.specs.declared.refusal.Refusal.{Refusal}

unfoldable pub from_settings : ℕ → Titles → Seen → List ℕ
from_settings every titles seen =
    codes ",\"settings\":" ++ (compact_text (settings_data every seen.state.plan.settings) ++ (slot_part titles ++ codes "}"))

unfoldable pub from_schedule : ℕ → Titles → Seen → List ℕ
from_schedule every titles seen =
    codes ",\"schedule\":" ++ (compact_text (array_data (array_data sitter_data) seen.rows) ++ from_settings every titles seen)

unfoldable pub from_refusals : ℕ → Titles → List Refusal → Seen → List ℕ
from_refusals every titles refusals seen =
    (names_part titles ++ (codes ",\"now\":" ++ (decimal seen.state.now ++ codes ",\"refusals\":")))
    ++ (compact_text (array_data refusal_data refusals) ++ from_schedule every titles seen)

unfoldable pub from_misses : ℕ → Titles → List Refusal → Seen → List ℕ
from_misses every titles refusals seen =
    codes ",\"misses\":"
    ++ (compact_text (array_data miss_data (misses_of seen.state.plan (run_of seen.state.plan seen.state.now))) ++ from_refusals every titles refusals seen)

unfoldable pub from_lags : ℕ → Titles → List Refusal → Seen → List ℕ
from_lags every titles refusals seen =
    codes ",\"lags\":"
    ++ (compact_text (array_data lag_data (lags_of seen.state.plan (run_of seen.state.plan seen.state.now))) ++ from_misses every titles refusals seen)

unfoldable pub from_figures : ℕ → Titles → List Refusal → Seen → List ℕ
from_figures every titles refusals seen =
    codes ",\"figures\":"
    ++ (compact_text (array_data figures_data (figures_of seen.state.plan (run_of seen.state.plan seen.state.now) seen.rows))
    ++ from_lags every titles refusals seen)

unfoldable pub from_events : ℕ → Titles → List Refusal → Seen → List ℕ
from_events every titles refusals seen =
    (codes ",\"entries\":" ++ (decimal seen.version ++ codes ",\"events\":"))
    ++ (compact_text (array_data event_data seen.state.plan.events) ++ from_figures every titles refusals seen)
