-- What is told of a fault of a script.
use Rattle.std.specs.Prelude.{ℕ, ◌≡◌, Bool, Option, None, Some, List, []}
use Rattle.pf_vocabulary.specs.declared.fault.fault.Fault.{Fault}
use Rattle.pf_vocabulary.specs.declared.fault.fault.Fault.TheVariants as why
use Rattle.pf_vocabulary.specs.declared.fault.range_fault.RangeFault.{RangeFault}
use Rattle.pf_vocabulary.specs.declared.fault.range_fault.RangeFault.TheVariants as range
use Rattle.pf_script.specs.Check.Files.{first_text}
use Rattle.pf_script.specs.FaultNotes.FileFaults.{file_fault_line}
use Rattle.pf_script.specs.FaultNotes.Ranges.{long_note, outside_note, page_note}
use Rattle.pf_script.specs.declared.fault_notes.file_fault.FileFault.TheVariants as file
use Rattle.pf_vocabulary.specs.Options.Ranges.{slots_of}
use Rattle.pf_vocabulary.specs.declared.options.slot_range.SlotRange.{SlotRange}
use Rattle.pf_script_notes.specs.Behind.{IsSlotsOf}

-- which end of a range is beyond; a page has none
abbrev pub outside_text : Option SlotRange → ℕ → List ℕ
outside_text None now = []
outside_text (Some asked) now = outside_note asked now

-- how many slots a picture was asked for, or a page, which shows all
abbrev pub long_text : Option SlotRange → ℕ → List ℕ
long_text None now = page_note now
long_text (Some asked) now = long_note (slots_of asked now)

abbrev pub IsRangeNote : List ℕ → Option SlotRange → RangeFault → List ℕ → Type 0
IsRangeNote script asked (range.NotWithin now) text = text ≡ outside_text asked now
IsRangeNote script asked range.TooLong text = (now : ℕ) × IsSlotsOf script now × (text ≡ long_text asked now)

-- of the script of this file, of which this range was asked for, or a page; with hints, where they are asked for
abbrev pub IsFaultNote : List ℕ → List ℕ → Bool → Option SlotRange → Fault → List ℕ → Type 0
IsFaultNote name script hints asked (why.BadRecord number) text = text ≡ first_text name hints script
IsFaultNote name script hints asked why.TooLong text = text ≡ file_fault_line name file.TooLong
IsFaultNote name script hints asked (why.BadRange fault) text = IsRangeNote script asked fault text
IsFaultNote name script hints asked fault text = text ≡ []
