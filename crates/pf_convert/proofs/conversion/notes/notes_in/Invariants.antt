use Rattle.std.proofs.Common.{◌≡◌, take}
use Rattle.pf_convert.specs.Conversion.Notes.{notes_in}
use Rattle.pf_convert.proofs.conversion.notes.notes_in.Given as goal

abbrev pub invariant-loop-planned : goal.invariant-loop-planned
invariant-loop-planned l = l.notes ≡ notes_in l.file l.arrivals (take l.planned-index l.all)
