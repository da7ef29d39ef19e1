-- What a script's records from one of them on changed.
use Rattle.std.specs.Prelude.{ℕ, ◌-◌, Option, None, Some, Result, Ok, Err, List, [], ◌∷◌, length, take}
use Rattle.pf_desk.specs.Desk.{Seen}
use Rattle.pf_script.specs.declared.record.LineTold.{LineTold}
use Rattle.pf_script.specs.declared.record.ScriptSettings.{ScriptSettings}
use Rattle.pf_script_desk.specs.Asked.{commands_in}
use Rattle.pf_script.specs.Told.{FaultTold, Told, told}
use Rattle.pf_script_desk.specs.Carrying.{Carrying}
use Rattle.pf_vocabulary.specs.declared.options.diff_options.DiffOptions.{DiffOptions}
use Rattle.pf_replies.specs.Course.{ScriptCourse, course_at, course_behind, opening_course, seen_at}
use Rattle.pf_change.specs.Difference.{DiffTold, difference}

-- how far a desk is once the commands that wait are answered
abbrev pub course_to_be : Carrying → ScriptCourse
course_to_be c = course_behind (course_at c.desk) c.waiting

-- what a desk at this course shows once these lines are carried out
abbrev pub seen_behind : ScriptCourse → List LineTold → Seen
seen_behind c lines = seen_at (course_behind c (commands_in lines))

-- how many of these lines, whose records are numbered one after another, come before the record of a number, or else before
-- the last one
abbrev pub count_before : Option ℕ → List LineTold → ℕ
count_before since [] = 0
count_before None (line ∷ lines) = length lines
count_before (Some since) (line ∷ lines) = since - line.number

abbrev pub lines_before : Option ℕ → List LineTold → List LineTold
lines_before since lines = take (count_before since lines) lines

-- the desk before the record beside the desk at the end
abbrev pub change_behind : DiffOptions → Option ℕ → ScriptCourse → List LineTold → DiffTold
change_behind options since c lines = difference options (seen_behind c (lines_before since lines)) (seen_behind c lines)

-- what lines after these settings changed; a script without settings has a fault, at this record
abbrev pub change_of : DiffOptions → Option ℕ → Option ScriptSettings → List LineTold → Result DiffTold ℕ
change_of options since None lines = Err 1
change_of options since (Some s) lines = Ok (change_behind options since (opening_course s.every s.settings) lines)

-- nothing where a record has a fault
abbrev pub change_unless : Option FaultTold → Result DiffTold ℕ → Result DiffTold ℕ
change_unless None change = change
change_unless (Some fault) change = Err fault.bad.number

-- the same of a script that tells this
abbrev pub change_told : DiffOptions → Option ℕ → Told → Result DiffTold ℕ
change_told options since t = change_unless t.rest.fault (change_of options since t.opening t.rest.lines)

-- what the records of a script of these bytes changed, from this one on, counted from 1, or else the last alone; or else the
-- number of the bad record that ends it
unfoldable pub change_meaning : DiffOptions → Option ℕ → List ℕ → Result DiffTold ℕ
change_meaning options since bytes = change_told options since (told bytes)
