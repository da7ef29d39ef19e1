-- The text of each format that can show some tasks alone.
use Rattle.std.specs.Prelude.{ℕ, List, []}
use Rattle.pf_vocabulary.specs.declared.names.titles.Titles.{Titles}
use Rattle.pf_chart.specs.Chart.{task_chart_text_of}
use Rattle.pf_desk.specs.Desk.{Seen}
use Rattle.pf_jobs.specs.Jobs.{jobs_text}
use Rattle.pf_vocabulary.specs.Options.Ranges.{end_of, first_of}
use Rattle.pf_vocabulary.specs.declared.options.format.Format.{Format}
use Rattle.pf_vocabulary.specs.declared.options.format.Format.TheVariants.{Chart, Jobs, Lags, Misses, Quanta, Stats, Svg, Windows}
use Rattle.pf_picture.specs.Picture.{task_picture_text_of}
use Rattle.pf_report.specs.Quanta.{quanta_text}
use Rattle.pf_report.specs.Tables.{lags_text, misses_text}
use Rattle.pf_stats.specs.Stats.{stats_text}
use Rattle.pf_vocabulary.specs.TaskLines.Lines.{listed_text}
use Rattle.pf_vocabulary.specs.declared.tasks.task_range.TaskRange.{TaskRange}
use Rattle.pf_windows.specs.Windows.{windows_text}

-- what is shown of the tasks of these ranges: their windows, their jobs, or their lines of a table, whose tasks stand in its first
-- column, of the quanta in the third; a chart or a picture of them; nothing in any other format
unfoldable pub task_report_text : Format → Seen → Titles → List TaskRange → List ℕ
task_report_text (Windows range) seen titles tasks = windows_text seen tasks titles (first_of range) (end_of range seen.state.now)
task_report_text Jobs seen titles tasks = jobs_text seen tasks titles
task_report_text (Quanta range) seen titles tasks = listed_text tasks 2 (quanta_text seen (first_of range) (end_of range seen.state.now))
task_report_text Stats seen titles tasks = listed_text tasks 0 (stats_text seen titles)
task_report_text Lags seen titles tasks = listed_text tasks 0 (lags_text seen titles)
task_report_text Misses seen titles tasks = listed_text tasks 0 (misses_text seen)
task_report_text (Chart range) seen titles tasks = task_chart_text_of seen titles tasks (first_of range) (end_of range seen.state.now)
task_report_text (Svg range look) seen titles tasks =
    task_picture_text_of seen titles tasks (first_of range) (end_of range seen.state.now) look
task_report_text format seen titles tasks = []
