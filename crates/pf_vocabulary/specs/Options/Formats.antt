-- The names of the formats, which have replies, a range or a width, and which can be shown.
use Rattle.std.specs.Prelude.{ℕ, Bool, true, false, not, nat_lt, if◌then◌else◌, List, Option, Some, None, codes}
use Rattle.std.specs.Str.{bytes_eq}
use Rattle.pf_vocabulary.specs.declared.options.format.Format.{Format}
use Rattle.pf_vocabulary.specs.declared.options.format.Format.TheVariants.{Schedule, Tables, Json, Report, Replies, Lags, Misses, Denials, Events, Script, Processors, Stats, Chart, Svg, Quanta, Windows, Jobs, Load, Trace, C, Full, Html}
use Rattle.pf_vocabulary.specs.declared.options.format.TheConstants.{MOST_PAGE_SLOTS}
use Rattle.pf_vocabulary.specs.declared.look.wrap.TheConstants.{MOST_SLOTS}
use Rattle.pf_vocabulary.specs.declared.fault.range_fault.RangeFault.{RangeFault}
use Rattle.pf_vocabulary.specs.declared.fault.range_fault.RangeFault.TheVariants.{NotWithin, TooLong}
use Rattle.pf_vocabulary.specs.declared.options.slot_range.SlotRange.{SlotRange}
use Rattle.pf_vocabulary.specs.Look.Looks.{usual_look}
use Rattle.pf_vocabulary.specs.declared.look.style.Style.{Style}
use Rattle.pf_vocabulary.specs.Options.Ranges.{is_whole, is_within, slots_of, whole}

-- the format of this name, of all slots and in the usual look
abbrev pub format_named : List ℕ → Option Format
format_named name =
    if bytes_eq name (codes "schedule") then Some (Schedule whole)
    else if bytes_eq name (codes "tables") then Some Tables
    else if bytes_eq name (codes "json") then Some Json
    else if bytes_eq name (codes "report") then Some Report
    else if bytes_eq name (codes "replies") then Some Replies
    else if bytes_eq name (codes "lags") then Some Lags
    else if bytes_eq name (codes "misses") then Some Misses
    else if bytes_eq name (codes "denials") then Some Denials
    else if bytes_eq name (codes "events") then Some Events
    else if bytes_eq name (codes "script") then Some Script
    else if bytes_eq name (codes "processors") then Some Processors
    else if bytes_eq name (codes "stats") then Some Stats
    else if bytes_eq name (codes "chart") then Some (Chart whole)
    else if bytes_eq name (codes "svg") then Some (Svg whole usual_look)
    else if bytes_eq name (codes "windows") then Some (Windows whole)
    else if bytes_eq name (codes "jobs") then Some Jobs
    else if bytes_eq name (codes "load") then Some (Load whole)
    else if bytes_eq name (codes "quanta") then Some (Quanta whole)
    else if bytes_eq name (codes "trace") then Some Trace
    else if bytes_eq name (codes "c") then Some C
    else if bytes_eq name (codes "full") then Some Full
    else if bytes_eq name (codes "html") then Some Html
    else None

-- the formats that have reply lines
abbrev pub has_replies : Format → Bool
has_replies Tables = true
has_replies Json = true
has_replies Replies = true
has_replies format = false

-- the formats that tell of refused records after the replies
abbrev pub tells_refusals : Format → Bool
tells_refusals Full = true
tells_refusals Html = true
tells_refusals format = false

-- the format with the slots of a range alone; any other than these six has no range
abbrev pub format_within : Format → SlotRange → Option Format
format_within (Schedule all) range = Some (Schedule range)
format_within (Chart all) range = Some (Chart range)
format_within (Svg all look) range = Some (Svg range look)
format_within (Quanta all) range = Some (Quanta range)
format_within (Windows all) range = Some (Windows range)
format_within (Load all) range = Some (Load range)
format_within format range = if is_whole range then Some format else None

-- the format in slots of a width, in blocks of a length, and in a style; any other than this one has none
abbrev pub format_with_cell : Format → ℕ → Option Format
format_with_cell (Svg range look) cell = Some (Svg range (record { cell = cell; wrap = look.wrap; style = look.style }))
format_with_cell format cell = None

abbrev pub format_with_wrap : Format → ℕ → Option Format
format_with_wrap (Svg range look) wrap = Some (Svg range (record { cell = look.cell; wrap = wrap; style = look.style }))
format_with_wrap format wrap = None

abbrev pub format_with_style : Format → Style → Option Format
format_with_style (Svg range look) style = Some (Svg range (record { cell = look.cell; wrap = look.wrap; style = style }))
format_with_style format style = None

-- its slots: all of them where it has no range
abbrev pub range_of : Format → SlotRange
range_of (Schedule range) = range
range_of (Chart range) = range
range_of (Svg range look) = range
range_of (Quanta range) = range
range_of (Windows range) = range
range_of (Load range) = range
range_of format = whole

-- a picture or a page of more slots than one may show, where n slots were stepped
abbrev pub is_too_long : Format → ℕ → Bool
is_too_long (Svg range look) n = nat_lt MOST_SLOTS (slots_of range n)
is_too_long Html n = nat_lt MOST_PAGE_SLOTS n
is_too_long format n = false

-- why the format can't be shown of n slots: its range is not within them, or it is a picture or a page of too many
abbrev pub range_fault : Format → ℕ → Option RangeFault
range_fault format n =
    if not (is_within (range_of format) n) then Some (NotWithin n)
    else if is_too_long format n then Some TooLong
    else None
