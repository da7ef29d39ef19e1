-- What is told of a list: where, what is wrong, and what would be right.
use Rattle.std.specs.Prelude.{ℕ, ◌-◌, ◌==◌, nat_lt, true, false, if◌then◌else◌, List, [], ◌++◌, length, take, codes}
use Rattle.std.specs.List.{flat_map}
use Rattle.std.specs.Fmt.{decimal}
use Rattle.pf_message.specs.Form.{file_front, hint_line, position_front}
use Rattle.pf_message.specs.Positions.{field_position}
use Rattle.pf_convert.specs.declared.list.messages.TheConstants.{MOST_MESSAGES}
use Rattle.pf_convert.specs.declared.list.place.TheConstants.{NO_FIELD}
use Rattle.pf_convert.specs.declared.list.place.Place.{Place}
use Rattle.pf_convert.specs.declared.list.place.Place.TheVariants.{File, Start, Field, End}

-- what is wrong at a place, and what would be right; nothing where nothing is said of it
pub record Told : Type 0 where
  pub place : Place
  pub text : List ℕ
  pub hint : List ℕ

-- what stands before a message of a file with these bytes: of a field its first byte that is no blank, or the record's end
abbrev pub front_text : List ℕ → List ℕ → Place → List ℕ
front_text file list File = file_front file
front_text file list Start = position_front file (record { line = 1; column = 1 })
front_text file list (Field line number) = position_front file (field_position list (record { line = line; number = number; trims = true }))
front_text file list (End line) = position_front file (field_position list (record { line = line; number = NO_FIELD; trims = false }))

abbrev pub hint_text : List ℕ → List ℕ
hint_text hint = if length hint == 0 then [] else hint_line hint

-- the lines of a message
abbrev pub message_text : List ℕ → List ℕ → Told → List ℕ
message_text file list m = front_text file list m.place ++ m.text ++ codes "\n" ++ hint_text m.hint

-- these messages, or as many as are told of them, and how many there are more
abbrev pub more_text : ℕ → List ℕ
more_text count = if nat_lt MOST_MESSAGES count then codes "and " ++ decimal (count - MOST_MESSAGES) ++ codes " more\n" else []

unfoldable pub messages_text : List ℕ → List ℕ → List Told → List ℕ
messages_text file list messages = flat_map (message_text file list) (take MOST_MESSAGES messages) ++ more_text (length messages)
