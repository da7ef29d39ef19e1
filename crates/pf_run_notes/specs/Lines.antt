-- The lines behind a run.
use Rattle.std.specs.Prelude.{ℕ, Bool, if◌then◌else◌, Option, None, Some, List, [], ◌∷◌, ◌++◌, codes}
use Rattle.std.specs.Fmt.{decimal}
use Rattle.pf_scenario.specs.declared.event.Numbered.{Numbered}
use Rattle.pf_tally.specs.declared.miss.Miss.{Miss}
use Rattle.pf_notes.specs.Subject.{subtask_text}
use Rattle.pf_notes.specs.Refusal.{record_text}
use Rattle.pf_message.specs.Form.{hint_line}
use Rattle.pf_text.specs.FileName.{file_text}
use Rattle.pf_run_notes.specs.Places.{place_text}
use Rattle.pf_run_notes.specs.declared.place.Place.{Place}

-- what would be right, where hints are asked for, and its line, where there is something
abbrev pub hint_if : Bool → List ℕ → List ℕ
hint_if hints hint = if hints then hint else []

abbrev pub hint_text : List ℕ → List ℕ
hint_text [] = []
hint_text (byte ∷ bytes) = hint_line (byte ∷ bytes)

-- a record whose command was refused, the sentence that tells why, and its hint
abbrev pub refused_line : List ℕ → Place → List ℕ → List ℕ → List ℕ
refused_line file place sentence hint = place_text file place ++ codes "refused: " ++ sentence ++ codes "\n" ++ hint_text hint

-- an event, with its record
unfoldable pub event_text : Numbered → List ℕ
event_text x = codes "denied: event " ++ decimal x.id ++ codes ", " ++ record_text x.event ++ codes ": "

-- an event that was denied, with the place of the record that made it as it stands
abbrev pub denied_line : List ℕ → Place → Numbered → List ℕ → List ℕ → List ℕ
denied_line file place x sentence hint = place_text file place ++ event_text x ++ sentence ++ codes "\n" ++ hint_text hint

-- when a window that was missed ran
abbrev pub ran_text : Option ℕ → List ℕ
ran_text None = codes " and did not run; "
ran_text (Some slot) = codes " and ran in slot " ++ decimal slot ++ codes "; "

-- before which slot a window had to run
unfoldable pub due_text : ℕ → List ℕ
due_text slot = codes " had to run before slot " ++ decimal slot

-- a window of a task with this name
unfoldable pub window_text : Option (List ℕ) → Miss → List ℕ
window_text name miss = codes "missed: " ++ subtask_text name miss.task miss.sub ++ due_text miss.deadline

-- the first window that a task missed, with how many it missed, and the place of the record that made its join
abbrev pub missed_line : List ℕ → Place → Option (List ℕ) → Miss → ℕ → List ℕ
missed_line file place name miss count =
    place_text file place ++ window_text name miss ++ ran_text miss.ran ++ decimal count ++ codes " in all\n"

-- how many lines more there are
unfoldable pub more_line : ℕ → List ℕ
more_line count = codes "and " ++ decimal count ++ codes " more\n"

-- the last line: how many commands were refused, events denied, windows missed
unfoldable pub count_line : List ℕ → ℕ → ℕ → ℕ → List ℕ
count_line file refused denied missed =
    file_text file ++ codes ": " ++ decimal refused ++ codes " refused, " ++ decimal denied ++ codes " denied, " ++ decimal missed ++ codes " missed\n"
