-- What readers of scripts answer.
use Rattle.std.specs.Prelude.{⊤, ℕ, ◌≡◌, Option, None, Some, Result, Ok, Err, List, [], ◌∷◌}
use Rattle.pf_script.specs.declared.fault.BadRecord.{BadRecord}
use Rattle.pf_script.specs.declared.fault.ScriptFault.{ScriptFault}
use Rattle.pf_script.specs.declared.fault.ScriptFault.TheVariants as fault
use Rattle.pf_script.specs.declared.record.LineTold.{LineTold}
use Rattle.pf_script.specs.declared.record.Record.{Record}
use Rattle.pf_script.specs.declared.record.Record.TheVariants.{Asks}
use Rattle.pf_script.specs.declared.record.RecordTold.{RecordTold}
use Rattle.pf_script.specs.Told.{LinesTold, Reading, Good, Bad, Missing}

-- The next of the readings that were left, of a record with these fields: it is answered, and the others are left. Without
-- memory none is.
abbrev pub ReadsNext : Result (Option RecordTold) ScriptFault → List (List ℕ) → List Reading → List Reading → Type 0
ReadsNext (Ok (Some told)) fields old new = old ≡ Good told ∷ new
ReadsNext (Ok None) fields old new = (old ≡ []) × (new ≡ [])
ReadsNext (Err (fault.Bad bad)) fields old new = old ≡ Bad (record { bad = bad; fields = fields }) ∷ new
ReadsNext (Err (fault.Missing bad)) fields old new = old ≡ Missing (record { bad = bad; fields = fields }) ∷ new
ReadsNext (Err fault.Memory) fields old new = new ≡ []

-- no line is told, but this fault, of a record with these fields
abbrev pub IsFault : BadRecord → List (List ℕ) → LinesTold → Type 0
IsFault bad fields told = told ≡ record { lines = []; fault = Some (record { bad = bad; fields = fields }) }

-- the same of the lines after the settings, of which a fault is the last
abbrev pub ReadsLine : Result (Option LineTold) ScriptFault → List (List ℕ) → LinesTold → LinesTold → Type 0
ReadsLine (Ok (Some line)) fields old new = old ≡ record new { lines = line ∷ new.lines }
ReadsLine (Ok None) fields old new = old ≡ record { lines = []; fault = None }
ReadsLine (Err (fault.Bad bad)) fields old new = IsFault bad fields old
ReadsLine (Err (fault.Missing bad)) fields old new = IsFault bad fields old
ReadsLine (Err fault.Memory) fields old new = ⊤

-- a record after the settings, or a fault
abbrev pub IsAsking : Record → Type 0
IsAsking (Asks line) = ⊤
IsAsking said = ⊥

abbrev pub AreLines : List Reading → Type 0
AreLines [] = ⊤
AreLines (Good told ∷ rest) = IsAsking told.says × AreLines rest
AreLines (Bad fault ∷ rest) = AreLines rest
AreLines (Missing fault ∷ rest) = AreLines rest
