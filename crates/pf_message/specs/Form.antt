-- What stands before a message, and the line of its hint.
use Rattle.std.specs.Prelude.{ℕ, List, ◌++◌, codes}
use Rattle.std.specs.Fmt.{decimal}
use Rattle.pf_text.specs.FileName.{file_text}
use Rattle.pf_message.specs.declared.position.Position.{Position}

abbrev pub file_front : List ℕ → List ℕ
file_front file = file_text file ++ codes ": "

abbrev pub position_front : List ℕ → Position → List ℕ
position_front file p = file_text file ++ codes ":" ++ decimal p.line ++ codes ":" ++ decimal p.column ++ codes ": "

abbrev pub hint_line : List ℕ → List ℕ
hint_line hint = codes "  hint: " ++ hint ++ codes "\n"
