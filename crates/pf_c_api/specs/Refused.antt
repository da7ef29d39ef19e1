-- The refused commands that a text tells of.
use Rattle.std.specs.Prelude.{ℕ, ◌+◌, if◌then◌else◌, List, [], ◌∷◌, ◌++◌}
use Rattle.pf_desk.specs.declared.entry.Entry.{Entry}
use Rattle.pf_desk.specs.declared.reply.Reply.{Reply}
use Rattle.pf_desk.specs.declared.reply.Reply.TheVariants.{Refused}
use Rattle.pf_full.specs.declared.refusal.Refusal.{Refusal}
use Rattle.pf_vocabulary.specs.Options.Formats.{tells_refusals}
use Rattle.pf_vocabulary.specs.declared.options.format.Format.{Format}

-- the command of this number, where it was refused
abbrev pub refusal_in : ℕ → Reply → List Refusal
refusal_in number (Refused fault) = record { «record» = number; fault = fault } ∷ []
refusal_in number reply = []

-- the refused ones among commands, the first of which has this number
abbrev pub refusals_from : ℕ → List Entry → List Refusal
refusals_from number [] = []
refusals_from number (entry ∷ entries) = refusal_in number entry.reply ++ refusals_from (number + 1) entries

-- those of a history, by their numbers from 1 on, where a format tells of them
abbrev pub refusals_told : Format → List Entry → List Refusal
refusals_told format history = if tells_refusals format then refusals_from 1 history else []
