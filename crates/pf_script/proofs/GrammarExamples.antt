-- Corners of the grammar, computed from the definitions: texts, and what their records are.
use Rattle.std.proofs.Common.{◌≡◌, ℕ, Bool, true, false, List, [], ◌∷◌, ◌++◌, map, Option, Some, None, refl, codes}
use Rattle.csv.specs.Machine.{next_record}
use Rattle.csv.specs.Reading.{records_from, strip_bom}
use Rattle.pf_scenario.specs.declared.event.Event.TheVariants.{Join, Leave, Delay, Limit}
use Rattle.pf_scenario.specs.declared.change.Change.TheVariants.{Insert, Alter, Strike}
use Rattle.pf_script.specs.declared.version.Version.{Version}
use Rattle.pf_script.specs.declared.version.Version.TheVariants.{First, Second}
use Rattle.pf_script.specs.declared.line.Line.{Line}
use Rattle.pf_script.specs.declared.line.Line.TheVariants.{Edit, Steps}
use Rattle.pf_script.specs.declared.line.Opening.{Opening}
use Rattle.pf_script.specs.Fields.{is_word}
use Rattle.pf_text.specs.Numbers.{number_of}
use Rattle.pf_script.specs.Grammar.{is_heading, settings_of, opening_of, join_of_fields, leave_of, delay_of, limit_of, event_of, strike_of, alter_of, change_of, steps_of, edit_of, line_of}
use Rattle.pf_script.specs.Script.{script_records}

-- what the records of a text are as lines, as headings and as openings
abbrev lines_in : Version → List ℕ → List (Option Line)
lines_in version text = map (line_of version) (script_records text)

abbrev headings_in : List ℕ → List Bool
headings_in text = map is_heading (script_records text)

abbrev openings_in : List ℕ → List (Option Opening)
openings_in text = map opening_of (script_records text)

-- in quotes the heading is the heading too
pub heading : headings_in (codes "pfair,2\n\"pfair\",\"2\"\n") ≡ true ∷ true ∷ []
unfolding next_record records_from strip_bom is_heading is_word
heading = refl

-- its 2 is a word, and it has two fields
pub no-heading : headings_in (codes "pfair,02\npfair,2,\npfair,3\npfair\nPfair,2\n") ≡ false ∷ false ∷ false ∷ false ∷ false ∷ []
unfolding next_record records_from strip_bom is_heading is_word
no-heading = refl

-- whether the settings are within their limits is not told here
pub opening : openings_in (codes "settings,2,3,6,2\nsettings,65,1,1,1\n")
    ≡ Some (record { processors = 2; base = 3; cap = 6; every = 2 }) ∷ Some (record { processors = 65; base = 1; cap = 1; every = 1 }) ∷ []
unfolding next_record records_from strip_bom opening_of settings_of number_of is_word
opening = refl

pub no-opening : openings_in (codes "settings,2,3,6\nsettings,2,3,6,2,1\nsettings,2,3,6,\nsettings,2,3,-6,2\nstep\n") ≡ None ∷ None ∷ None ∷ None ∷ None ∷ []
unfolding next_record records_from strip_bom opening_of settings_of number_of is_word
no-opening = refl

-- the five kinds of a change, and steps
pub changes : lines_in First (codes "join,0,1,2,3,4\nleave,5,1\ndelay,6,1,7\nalter,3,leave,4,1\nstrike,2\n")
    ≡ Some (Edit (Insert (Join 0 1 2 3 4)) false) ∷ Some (Edit (Insert (Leave 5 1)) false) ∷ Some (Edit (Insert (Delay 6 1 7)) false)
    ∷ Some (Edit (Alter 3 (Leave 4 1)) false) ∷ Some (Edit (Strike 2) false) ∷ []
unfolding next_record records_from strip_bom line_of edit_of change_of strike_of alter_of event_of join_of_fields leave_of delay_of number_of is_word
changes = refl

pub strict-changes : lines_in First (codes "strict,join,0,1,2,3,4\nstrict,alter,3,delay,4,1,1\nstrict,strike,2\n")
    ≡ Some (Edit (Insert (Join 0 1 2 3 4)) true) ∷ Some (Edit (Alter 3 (Delay 4 1 1)) true) ∷ Some (Edit (Strike 2) true) ∷ []
unfolding next_record records_from strip_bom line_of edit_of change_of strike_of alter_of event_of join_of_fields delay_of number_of is_word
strict-changes = refl

-- numbers of events that are out of their limits are lines too
pub out-of-limits : lines_in First (codes "join,1048576,0,0,0,999999999999999\ndelay,0,4096,0\nstrike,0\n")
    ≡ Some (Edit (Insert (Join 1048576 0 0 0 999999999999999)) false) ∷ Some (Edit (Insert (Delay 0 4096 0)) false) ∷ Some (Edit (Strike 0) false) ∷ []
unfolding next_record records_from strip_bom line_of edit_of change_of strike_of event_of join_of_fields delay_of number_of is_word
out-of-limits = refl

-- steps, one to the horizon
pub steps : lines_in First (codes "step\nstep,1\nstep,007\nstep,1048576\n") ≡ Some (Steps 1) ∷ Some (Steps 1) ∷ Some (Steps 7) ∷ Some (Steps 1048576) ∷ []
unfolding next_record records_from strip_bom line_of steps_of number_of is_word
steps = refl

pub no-steps : lines_in First (codes "step,0\nstep,1048577\nstep,\nstep,1,\nstep,1,1\nsteps\n") ≡ None ∷ None ∷ None ∷ None ∷ None ∷ None ∷ []
unfolding next_record records_from strip_bom line_of steps_of edit_of change_of event_of number_of is_word
no-steps = refl

pub wide-steps : lines_in Second (codes "step,1048577\nstep,4194304\nstep,4194305\nstep,0\n") ≡ Some (Steps 1048577) ∷ Some (Steps 4194304) ∷ None ∷ None ∷ []
unfolding next_record records_from strip_bom line_of steps_of number_of is_word
wide-steps = refl

-- limits are lines of version 2 alone
pub limits : lines_in Second (codes "limit,0,1\nalter,4,limit,2,1\nstrict,limit,0,1\nlimit,0\n")
    ≡ Some (Edit (Insert (Limit 0 1)) false) ∷ Some (Edit (Alter 4 (Limit 2 1)) false) ∷ Some (Edit (Insert (Limit 0 1)) true) ∷ None ∷ []
unfolding next_record records_from strip_bom line_of edit_of change_of alter_of event_of limit_of number_of is_word
limits = refl

pub no-limits : lines_in First (codes "limit,0,1\nalter,4,limit,2,1\nstrict,limit,0,1\n") ≡ None ∷ None ∷ None ∷ []
unfolding next_record records_from strip_bom line_of edit_of change_of alter_of event_of number_of is_word
no-limits = refl

-- too few fields, too many, and fields that are no numbers
pub no-events : lines_in First (codes "join,0,1\njoin,0,1,1,2,0,7\njoin,+0,1,1,2,0\nleave,0,1,9\nleave,0\ndelay,0,1\ndelay,0,1,1,1\nleave, 0,1\nLeave,0,1\n")
    ≡ None ∷ None ∷ None ∷ None ∷ None ∷ None ∷ None ∷ None ∷ None ∷ []
unfolding next_record records_from strip_bom line_of edit_of change_of event_of join_of_fields leave_of delay_of number_of is_word
no-events = refl

-- a number has 1 to 15 digits, and leading zeros are allowed
pub strikes : lines_in First (codes "strike,000000000000001\n\"strike\",7\n") ≡ Some (Edit (Strike 1) false) ∷ Some (Edit (Strike 7) false) ∷ []
unfolding next_record records_from strip_bom line_of edit_of change_of strike_of number_of is_word
strikes = refl

pub no-strikes : lines_in First (codes "strike,0000000000000001\nstrike,\nstrike\nstrike,1,1\n") ≡ None ∷ None ∷ None ∷ None ∷ []
unfolding next_record records_from strip_bom line_of edit_of change_of strike_of event_of number_of is_word
no-strikes = refl

-- only a change may be strict, and only an event stands after an alter
pub no-prefixes : lines_in Second (codes "strict\nstrict,strict,leave,0,1\nstrict,strict\nstrict,step\nstrict,step,1\nstrict,settings,1,1,1,1\nstrict,pfair,2\n")
    ≡ None ∷ None ∷ None ∷ None ∷ None ∷ None ∷ None ∷ []
unfolding next_record records_from strip_bom line_of edit_of change_of event_of number_of is_word
no-prefixes = refl

pub no-alters : lines_in Second (codes "alter\nalter,1\nalter,1,strike,2\nalter,1,alter,2,leave,0,1\nalter,1,strict,leave,0,1\nalter,1,step\nalter,leave,0,1\nalter,,leave,0,1\n")
    ≡ None ∷ None ∷ None ∷ None ∷ None ∷ None ∷ None ∷ None ∷ []
unfolding next_record records_from strip_bom line_of edit_of change_of alter_of event_of number_of is_word
no-alters = refl

-- a heading and settings are no lines, in either version
pub first-records : lines_in Second (codes "pfair,2\nsettings,1,1,1,1\n") ++ lines_in First (codes "pfair,2\nsettings,1,1,1,1\n") ≡ None ∷ None ∷ None ∷ None ∷ []
unfolding next_record records_from strip_bom line_of edit_of change_of event_of number_of is_word
first-records = refl

-- a record of one empty field, of one space, of a quote inside a field, and of the one byte 255
pub strange : lines_in First (codes "\"\"\n \ns\"tep\n" ++ 255 ∷ []) ≡ None ∷ None ∷ None ∷ None ∷ []
unfolding next_record records_from strip_bom line_of edit_of change_of event_of number_of is_word
strange = refl

-- an open quote at the end of the input still gives a line
pub open-quote : lines_in First (codes "step,\"1") ≡ Some (Steps 1) ∷ []
unfolding next_record records_from strip_bom line_of steps_of number_of is_word
open-quote = refl
