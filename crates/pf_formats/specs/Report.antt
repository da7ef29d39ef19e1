-- The text of each format.
use Rattle.std.specs.Prelude.{ℕ, List, [], ◌++◌, codes}
use Rattle.pf_vocabulary.specs.declared.names.titles.Titles.{Titles}
use Rattle.pf_desk.specs.Desk.{Seen}
use Rattle.pf_report.specs.Tables.{schedule_text, lags_text, misses_text, denials_text}
use Rattle.pf_report.specs.Part.{schedule_part_text}
use Rattle.pf_report.specs.Events.{events_text}
use Rattle.pf_report.specs.Script.{script_text_of}
use Rattle.pf_report.specs.Json.{json_text}
use Rattle.pf_report.specs.Quanta.{quanta_text}
use Rattle.pf_report.specs.Replies.{line_end}
use Rattle.pf_vocabulary.specs.Tasks.Listed.{all_tasks}
use Rattle.pf_jobs.specs.Jobs.{jobs_text}
use Rattle.pf_jobs.specs.Load.{load_text}
use Rattle.pf_windows.specs.Windows.{windows_text}
use Rattle.pf_code.specs.Array.{c_text}
use Rattle.pf_code.specs.Symbol.{usual_symbol}
use Rattle.pf_trace.specs.Trace.{trace_text}
use Rattle.pf_full.specs.Full.{full_text}
use Rattle.pf_full.specs.declared.refusal.Refusal.{Refusal}
use Rattle.pf_page.specs.Page.{page_text}
use Rattle.pf_stats.specs.Processors.{processors_text}
use Rattle.pf_stats.specs.Stats.{stats_text}
use Rattle.pf_chart.specs.Chart.{chart_text_of}
use Rattle.pf_picture.specs.Picture.{picture_text_of}
use Rattle.pf_vocabulary.specs.declared.options.format.Format.{Format}
use Rattle.pf_vocabulary.specs.declared.options.format.Format.TheVariants.{Schedule, Tables, Json, Report, Replies, Lags, Misses, Denials, Events, Script, Processors, Stats, Chart, Svg, Quanta, Windows, Jobs, Load, Trace, C, Full, Html}
use Rattle.pf_vocabulary.specs.Options.Ranges.{end_of, first_of, whole}

-- a table after a line with its name
abbrev pub text_under_title : List ℕ → List ℕ → List ℕ
text_under_title title table = title ++ line_end ++ table

-- the four tables
abbrev pub tables_text : Seen → Titles → List ℕ
tables_text seen titles =
    text_under_title (codes "schedule") (schedule_text seen)
    ++ text_under_title (codes "lags") (lags_text seen titles)
    ++ text_under_title (codes "misses") (misses_text seen)
    ++ text_under_title (codes "denials") (denials_text seen)

-- what stands after all replies, where the checkpoints lie so far apart, and the script has these titles and refused records
unfoldable pub report_text : Format → ℕ → Seen → Titles → List Refusal → List ℕ
report_text (Schedule range) every seen titles refusals = schedule_part_text seen (first_of range) (end_of range seen.state.now)
report_text Tables every seen titles refusals = tables_text seen titles
report_text Json every seen titles refusals = json_text seen titles ++ line_end
report_text Report every seen titles refusals = json_text seen titles ++ line_end
report_text Replies every seen titles refusals = []
report_text Lags every seen titles refusals = lags_text seen titles
report_text Misses every seen titles refusals = misses_text seen
report_text Denials every seen titles refusals = denials_text seen
report_text Events every seen titles refusals = events_text seen
report_text Script every seen titles refusals = script_text_of every seen titles
report_text Processors every seen titles refusals = processors_text seen
report_text Stats every seen titles refusals = stats_text seen titles
report_text (Chart range) every seen titles refusals = chart_text_of seen titles (first_of range) (end_of range seen.state.now)
report_text (Svg range look) every seen titles refusals = picture_text_of seen titles (first_of range) (end_of range seen.state.now) look
report_text (Quanta range) every seen titles refusals = quanta_text seen (first_of range) (end_of range seen.state.now)
report_text (Windows range) every seen titles refusals = windows_text seen all_tasks titles (first_of range) (end_of range seen.state.now)
report_text Jobs every seen titles refusals = jobs_text seen all_tasks titles
report_text (Load range) every seen titles refusals = load_text seen (first_of range) (end_of range seen.state.now)
report_text Trace every seen titles refusals = trace_text titles seen
report_text C every seen titles refusals = c_text seen titles whole usual_symbol
report_text Full every seen titles refusals = full_text every titles refusals seen ++ line_end
report_text Html every seen titles refusals = page_text (full_text every titles refusals seen)
