-- A text of lines, as it is shown.
use Rattle.std.specs.Prelude.{ℕ, ◌==◌, if◌then◌else◌, List, chars, codes, encode_utf8}
use Rattle.std.specs.List.{flat_map}
use Rattle.pf_text.specs.FileName.{file_text}

-- a character of it: a line feed as it is, any other as in a file's name
abbrev pub shown_character : ℕ → List ℕ
shown_character character = if character == 10 then codes "\n" else file_text (encode_utf8 character)

-- its characters, of which none that acts on a terminal and has no shape is left but line feeds
unfoldable pub shown_lines : List ℕ → List ℕ
shown_lines text = flat_map shown_character (chars text)
