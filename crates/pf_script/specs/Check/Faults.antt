-- The messages of a script's faults: that settings are lacking is told once.
use Rattle.std.specs.Prelude.{ℕ, ◌+◌, ◌==◌, min, nat_le, not, if◌then◌else◌, List, [], ◌∷◌, ◌++◌, codes, count_by, filter}
use Rattle.std.specs.List.{flat_map}
use Rattle.std.specs.Fmt.{decimal}
use Rattle.pf_script.specs.Messages.Lines.{FaultMessage}

-- the lines of a message
abbrev pub message_text : FaultMessage → List ℕ
message_text m = m.what ++ codes "\n" ++ m.hint

-- how many of them lack settings
abbrev pub count_lacking : List FaultMessage → ℕ
count_lacking messages = count_by (λ m. m.lacks) messages

-- how many more records lack settings
abbrev pub others_text : ℕ → List ℕ
others_text others = if others == 0 then [] else codes ", by " ++ decimal others ++ codes " more records too"

-- the lines of those that do not
abbrev pub own_lines : List FaultMessage → List ℕ
own_lines messages = flat_map (λ m. if m.lacks then [] else message_text m) messages

-- each message has its lines; but of all that lack settings only the first has some, which tell how many the others are
abbrev pub message_lines : List FaultMessage → List ℕ
message_lines [] = []
message_lines (m ∷ messages) =
    if m.lacks then (m.what ++ others_text (count_lacking messages) ++ codes "\n") ++ (m.hint ++ own_lines messages)
    else message_text m ++ message_lines messages

-- how many messages are told
abbrev pub count_lines : List FaultMessage → ℕ
count_lines messages = count_by (λ m. not m.lacks) messages + min (count_lacking messages) 1

-- the messages of the records of a script, which are so many; that it ends without settings is told of a record after the last one,
-- and that only where no record is bad
abbrev pub of_records : ℕ → List FaultMessage → List FaultMessage
of_records records messages = filter (λ m. nat_le m.number records) messages

abbrev pub or_all : List FaultMessage → List FaultMessage → List FaultMessage
or_all [] messages = messages
or_all (m ∷ chosen) messages = m ∷ chosen

abbrev pub told_of : ℕ → List FaultMessage → List FaultMessage
told_of records messages = or_all (of_records records messages) messages

-- what is told of a script with so many records, and how many messages that are
abbrev pub faults_text : ℕ → List FaultMessage → List ℕ
faults_text records messages = message_lines (told_of records messages)

abbrev pub faults_count : ℕ → List FaultMessage → ℕ
faults_count records messages = count_lines (told_of records messages)
