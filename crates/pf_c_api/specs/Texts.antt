-- The texts that a desk has of itself, with its titles.
use Rattle.std.specs.Prelude.{ℕ, ◌≡◌, ◌⊎◌, ◌==◌, if◌then◌else◌, Option, None, Some, List, option_and_then}
use Rattle.pf_desk.specs.Desk.{Seen, seen_of}
use Rattle.pf_formats.specs.Report.{report_text}
use Rattle.pf_vocabulary.specs.Options.Formats.{format_within, range_fault}
use Rattle.pf_vocabulary.specs.Options.Ranges.{whole}
use Rattle.pf_vocabulary.specs.declared.options.format.Format.{Format}
use Rattle.pf_vocabulary.specs.declared.options.format.Format.TheVariants.{Schedule, Tables, Report, Lags, Misses, Denials, Events, Script, Processors, Stats, Chart, Quanta, Windows, Jobs, Load, Trace, C as Code, Full, Html}
use Rattle.pf_vocabulary.specs.declared.options.slot_range.SlotRange.{SlotRange}
use Rattle.pf_c_api.specs.declared.held.Held.{Held}
use Rattle.pf_c_forms.specs.declared.status.TheConstants.{OUT_OF_RANGE, UNKNOWN_KIND}
use Rattle.pf_c_api.specs.declared.text_kind.TheConstants.{SCHEDULE, LAGS, MISSES, DENIALS, EVENTS, SCRIPT, JSON, PROCESSORS, STATS, CHART, WINDOWS, JOBS, LOAD, QUANTA, TRACE, C, FULL, HTML, TABLES}
use Rattle.pf_c_api.specs.Refused.{refusals_told}
use Rattle.pf_c_api.specs.Told.{MayFillRoom}

-- the format of this number, of all slots
abbrev pub format_numbered : ℕ → Option Format
format_numbered number =
    if number == SCHEDULE then Some (Schedule whole) else
    if number == LAGS then Some Lags else
    if number == MISSES then Some Misses else
    if number == DENIALS then Some Denials else
    if number == EVENTS then Some Events else
    if number == SCRIPT then Some Script else
    if number == JSON then Some Report else
    if number == PROCESSORS then Some Processors else
    if number == STATS then Some Stats else
    if number == CHART then Some (Chart whole) else
    if number == WINDOWS then Some (Windows whole) else
    if number == JOBS then Some Jobs else
    if number == LOAD then Some (Load whole) else
    if number == QUANTA then Some (Quanta whole) else
    if number == TRACE then Some Trace else
    if number == C then Some Code else
    if number == FULL then Some Full else
    if number == HTML then Some Html else
    if number == TABLES then Some Tables else None

-- the slots from the first of these on and below the second
abbrev pub slots_between : ℕ → ℕ → SlotRange
slots_between from to = record { from = Some from; to = Some to }

-- the format of this number, of these slots alone, where it has a range
abbrev pub part_numbered : ℕ → ℕ → ℕ → Option Format
part_numbered number from to = option_and_then (λ format. format_within format (slots_between from to)) (format_numbered number)

-- the text of what is seen of a desk, which else is this one
abbrev pub text_seen : Format → Seen → Held → List ℕ
text_seen format seen held = report_text format held.desk.every seen held.titles (refusals_told format held.desk.history)

-- the text of a desk
abbrev pub text_of : Format → Held → List ℕ
text_of format held = text_seen format (seen_of held.desk) held

-- this, where the format can be shown of n slots; or it can't
abbrev pub WhereShown : Format → ℕ → Type 0 → ℕ → Type 0
WhereShown format n shows status =
    ((range_fault format n ≡ None) × shows) ⊎ ((status ≡ OUT_OF_RANGE) × (range_fault format n ≡ None → ⊥))

-- the room has the text of a format, where that can be shown of the slots stepped
abbrev pub TellsFormat : Format → Held → ℕ → ℕ → List ℕ → List ℕ → Type 0
TellsFormat format held status count room filled =
    WhereShown format held.desk.state.now (MayFillRoom (text_of format held) status count room filled) status

-- the same where there is a format
abbrev pub TellsText : Option Format → Held → ℕ → ℕ → List ℕ → List ℕ → Type 0
TellsText None held status count room filled = status ≡ UNKNOWN_KIND
TellsText (Some format) held status count room filled = TellsFormat format held status count room filled
