-- What worked scripts tell, computed from the definitions.
use Rattle.std.proofs.Common.{◌≡◌, [], ◌∷◌, Some, true, false, refl, codes}
use Rattle.csv.specs.Machine.{next_record}
use Rattle.csv.specs.Reading.{records_from, strip_bom}
use Rattle.pf_scenario.specs.declared.event.Event.TheVariants.{Join}
use Rattle.pf_scenario.specs.declared.change.Change.TheVariants.{Insert, Strike}
use Rattle.pf_script.specs.declared.fault.Reason.TheVariants as why
use Rattle.pf_script.specs.declared.line.Line.TheVariants.{Edit, Steps}
use Rattle.pf_script.specs.declared.version.Version.TheVariants.{First, Second}
use Rattle.pf_script.specs.Fields.{is_word}
use Rattle.pf_text.specs.Numbers.{number_of}
use Rattle.pf_script.specs.Parsing.{number_at, number_within, join_at, event_at, strike_at, alter_at, change_at, edit_at, steps_at, line_at, settings_at, names_line, opening_at, heading_at, record_at}
use Rattle.pf_script.specs.Places.{lines_from}
use Rattle.pf_script.specs.Told.{told, faults, readings_from}

-- a heading, settings, and three lines, of which the last is bad: the word after `alter,1` is at fault, on line 6
pub up_to_a_fault : told (codes "pfair,2\nsettings,2,3,6,4096\n\njoin,0,1,2,3,0\nstrict,strike,1\nalter,1,strike\nstep\n") ≡ record {
  opening = Some (record { version = Second; settings = record { processors = 2; base = 3; cap = 6; horizon = 4194304 }; every = 4096 });
  rest = record {
    lines = record { number = 3; asks = Edit (Insert (Join 0 1 2 3 0)) false } ∷ record { number = 4; asks = Edit (Strike 1) true } ∷ [];
    fault = Some (record { bad = record { number = 5; line = 6; fault = record { field = 3; reason = why.NoEvent Second } }; fields = codes "alter" ∷ codes "1" ∷ codes "strike" ∷ [] });
  };
}
unfolding next_record records_from strip_bom number_of is_word number_at number_within join_at event_at strike_at alter_at change_at edit_at line_at settings_at opening_at heading_at record_at lines_from readings_from
up_to_a_fault = refl

-- a script without settings lacks a record, and the records before it are bad
pub all_faults : faults (codes "step\nsettings,2,3,6,4097\nsettings,2,3,6\n") ≡
    record { bad = record { number = 1; line = 1; fault = record { field = 1; reason = why.NoSettings } }; fields = codes "step" ∷ [] }
    ∷ record { bad = record { number = 2; line = 2; fault = record { field = 5; reason = why.Outside 4097 4096 } }; fields = codes "settings" ∷ codes "2" ∷ codes "3" ∷ codes "6" ∷ codes "4097" ∷ [] }
    ∷ record { bad = record { number = 3; line = 3; fault = record { field = 5; reason = why.Fields 5 } }; fields = codes "settings" ∷ codes "2" ∷ codes "3" ∷ codes "6" ∷ [] }
    ∷ record { bad = record { number = 4; line = 4; fault = record { field = 1; reason = why.NoSettings } }; fields = [] } ∷ []
unfolding next_record records_from strip_bom number_of is_word number_at number_within settings_at names_line opening_at record_at lines_from readings_from
all_faults = refl

-- the last of 1 to the horizon, and what is outside of it
pub steps : told (codes "settings,1,1,1,1\nstep,1048576\nstep,0\n") ≡ record {
  opening = Some (record { version = First; settings = record { processors = 1; base = 1; cap = 1; horizon = 1048576 }; every = 1 });
  rest = record {
    lines = record { number = 2; asks = Steps 1048576 } ∷ [];
    fault = Some (record { bad = record { number = 3; line = 3; fault = record { field = 2; reason = why.Outside 0 1048576 } }; fields = codes "step" ∷ codes "0" ∷ [] });
  };
}
unfolding next_record records_from strip_bom number_of is_word number_at number_within steps_at line_at settings_at opening_at record_at lines_from readings_from
steps = refl
