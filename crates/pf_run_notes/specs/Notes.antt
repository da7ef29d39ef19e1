-- The notes after a run.
use Rattle.std.specs.Prelude.{ℕ, Bool, true, ◌-◌, ◌==◌, nat_lt, if◌then◌else◌, Option, None, Some, List, [], ◌++◌, length, take}
use Rattle.std.specs.List.{flat_map}
use Rattle.std.specs.Option.{option_map_or, option_and_then}
use Rattle.pf_vocabulary.specs.Names.Names.{name_of}
use Rattle.pf_vocabulary.specs.declared.names.named.Named.{Named}
use Rattle.pf_scenario.specs.Scenario.{Plan}
use Rattle.pf_scenario.specs.declared.event.Numbered.{Numbered}
use Rattle.pf_run.specs.declared.denied.Denied.{Denied}
use Rattle.pf_run.specs.Record.{Slot}
use Rattle.pf_run.specs.Computed.{run_of}
use Rattle.pf_collections.specs.Table.Grown.{Grown, value_of}
use Rattle.pf_tally.specs.Misses.{misses_of}
use Rattle.pf_tally.specs.declared.miss.Miss.{Miss}
use Rattle.pf_notes.specs.Desk.{Seen}
use Rattle.pf_notes.specs.Absence.{join_among}
use Rattle.pf_notes.specs.Grounds.{grounds_of, grounds_text, task_of_grounds}
use Rattle.pf_notes.specs.Hints.{grounds_hint}
use Rattle.pf_notes.specs.Point.{event_of}
use Rattle.pf_notes.specs.declared.grounds.Grounds.{Grounds}
use Rattle.pf_run_notes.specs.Late.{count_of_task, firsts_of}
use Rattle.pf_run_notes.specs.Lines.{denied_line, hint_if, missed_line, more_line, count_line}
use Rattle.pf_run_notes.specs.Made.{maker_of}
use Rattle.pf_run_notes.specs.Refusals.{Kept, more}
use Rattle.pf_run_notes.specs.declared.place.Place.{Place}

-- the sentence of a denial that rests on these grounds
abbrev pub sentence_of : List Named → Grounds → List ℕ
sentence_of names grounds = grounds_text (option_and_then (name_of names) (task_of_grounds grounds)) grounds

-- the line of a denial, of this event, made by this record, on these grounds
abbrev pub denied_with : List ℕ → Bool → List Named → Option Numbered → Option Place → Option Grounds → List ℕ
denied_with file hints names (Some x) (Some place) (Some grounds) =
    denied_line file place x (sentence_of names grounds) (hint_if hints (grounds_hint grounds))
denied_with file hints names x place grounds = []

abbrev pub denied_note : List ℕ → Bool → List Named → List Place → Plan → List Slot → Denied → List ℕ
denied_note file hints names made s r d =
    denied_with file hints names (event_of d.id s.events) (maker_of made d.id) (grounds_of s r d)

-- the line of a task that missed so many windows, this one first, where this is its join
abbrev pub missed_with : List ℕ → List Named → List Place → Miss → ℕ → Option Numbered → List ℕ
missed_with file names made miss count None = []
missed_with file names made miss count (Some x) =
    option_map_or (λ place. missed_line file place (name_of names miss.task) miss count) (maker_of made x.id) []

abbrev pub missed_note : List ℕ → List Named → List Place → Plan → List Miss → Miss → List ℕ
missed_note file names made s misses miss =
    missed_with file names made miss (count_of_task miss.task misses) (join_among miss.task s.events)

-- the lines of the tasks that missed windows, these first, of which the table has the counts
abbrev pub late_lines : List ℕ → List Named → List Place → List Numbered → Grown ℕ → List Miss → List ℕ
late_lines file names made events counts firsts =
    flat_map (λ miss. missed_with file names made miss (value_of counts miss.task) (join_among miss.task events)) firsts

-- how many lines more there are than are shown
abbrev pub more_text : ℕ → ℕ → List ℕ
more_text most lines = if nat_lt most lines then more_line (lines - most) else []

-- the counts, where there is a line
abbrev pub counts_text : List ℕ → ℕ → ℕ → ℕ → ℕ → List ℕ
counts_text file lines refused denied missed = if lines == 0 then [] else count_line file refused denied missed

-- how many lines there are, up to the greatest number of 64 bits
abbrev pub lines_of : Kept → Seen → List Miss → ℕ
lines_of kept seen misses = more (more kept.records (length seen.denials)) (length (firsts_of misses))

-- of the refusals kept, the denials and the missed windows of the run: the first lines, with hints, where they are asked for, and how
-- many more there are
abbrev pub lists_with : List ℕ → Bool → List Named → List Place → Kept → Seen → List Slot → List Miss → List ℕ
lists_with file hints names made kept seen r misses =
    kept.lines
    ++ flat_map (denied_note file hints names made seen.state.plan r) (take (kept.most - kept.records) seen.denials)
    ++ flat_map (missed_note file names made seen.state.plan misses)
    (take (kept.most - more kept.records (length seen.denials)) (firsts_of misses))
    ++ more_text kept.most (lines_of kept seen misses)

-- with hints, and after them the counts
abbrev pub notes_with : List ℕ → List Named → List Place → Kept → Seen → List Slot → List Miss → List ℕ
notes_with file names made kept seen r misses =
    lists_with file true names made kept seen r misses
    ++ counts_text file (lines_of kept seen misses) kept.commands (length seen.denials) (length misses)

-- those of the run of what was seen
unfoldable pub lists_text : List ℕ → Bool → List Named → List Place → Kept → Seen → List ℕ
lists_text file hints names made kept seen =
    lists_with file hints names made kept seen (run_of seen.state.plan seen.state.now)
    (misses_of seen.state.plan (run_of seen.state.plan seen.state.now))

unfoldable pub notes_text : List ℕ → List Named → List Place → Kept → Seen → List ℕ
notes_text file names made kept seen =
    notes_with file names made kept seen (run_of seen.state.plan seen.state.now)
    (misses_of seen.state.plan (run_of seen.state.plan seen.state.now))
