-- What worked scripts ask of a desk, computed from the definitions.
use Rattle.std.proofs.Common.{◌≡◌, [], ◌∷◌, true, refl, codes}
use Rattle.csv.specs.Machine.{next_record}
use Rattle.csv.specs.Reading.{records_from, strip_bom}
use Rattle.pf_scenario.specs.declared.change.Change.TheVariants.{Strike}
use Rattle.pf_desk.specs.declared.command.Command.TheVariants as command
use Rattle.pf_text.specs.Numbers.{number_of}
use Rattle.pf_script.specs.Fields.{is_word}
use Rattle.pf_script.specs.Parsing.{number_at, number_within, strike_at, change_at, edit_at, steps_at, line_at, settings_at, opening_at, record_at}
use Rattle.pf_script.specs.Places.{lines_from}
use Rattle.pf_script.specs.Told.{readings_from}
use Rattle.pf_script_desk.specs.Asked.{Whole, BadRecord, script_asked}

-- its settings and commands, and of a script with a fault the number of its record
pub asked : script_asked (codes "settings,1,1,1,1\nstep,2\nstrict,strike,1\n")
    ≡ Whole (record { processors = 1; base = 1; cap = 1; horizon = 1048576 }) (command.Step ∷ command.Step ∷ command.Edit (Strike 1) true ∷ [])
unfolding next_record records_from strip_bom number_of is_word number_at number_within strike_at change_at edit_at steps_at line_at settings_at opening_at record_at lines_from readings_from
asked = refl

pub asked_of_a_bad_script : script_asked (codes "settings,1,1,1,1\nstep,0\n") ≡ BadRecord 2
unfolding next_record records_from strip_bom number_of is_word number_at number_within steps_at line_at settings_at opening_at record_at lines_from readings_from
asked_of_a_bad_script = refl
