-- What a script changed, by what it tells.
use Rattle.std.proofs.Common.{◌≡◌, ℕ, List, [], ◌∷◌, ◌++◌, Option, Some, None, Ok, Err, refl, ap, sym, ◌∙◌, append_assoc}
use Rattle.std.proofs.lemmas.List.{append-nil}
use Rattle.pf_vocabulary.specs.declared.fault.fault.Fault.{Fault}
use Rattle.pf_vocabulary.specs.declared.fault.fault.Fault.TheVariants as why
use Rattle.pf_script.specs.declared.fault.ScriptFault.{ScriptFault}
use Rattle.pf_script.specs.declared.fault.ScriptFault.TheVariants as script
use Rattle.pf_script.specs.declared.record.LineTold.{LineTold}
use Rattle.pf_script.specs.declared.record.ScriptSettings.{ScriptSettings}
use Rattle.pf_script.specs.Answers.{ReadsLine}
use Rattle.pf_script.specs.Faults.{fault_of_script}
use Rattle.pf_script.specs.Opened.{Opens}
use Rattle.pf_script.specs.Told.{FaultTold, LinesTold, Told, told}
use Rattle.pf_vocabulary.specs.declared.options.diff_options.DiffOptions.{DiffOptions}
use Rattle.pf_replies.specs.Course.{fault_number, opening_course}
use Rattle.pf_change.specs.Change.{change_behind, change_meaning, change_of, change_told, change_unless}
use Rattle.pf_change.specs.Difference.{DiffTold}
use Rattle.pf_change.specs.Made.{Stops, StopsReading}

-- Use: of the lines left one was read.
pub lines_on : (read more all : List LineTold) (left behind : LinesTold) (line : LineTold) → left ≡ record behind { lines = line ∷ behind.lines }
    → more ≡ read ++ line ∷ [] → read ++ left.lines ≡ all → more ++ behind.lines ≡ all
lines_on read more all left behind line is pushed same =
    ap (λ (xs : List LineTold). xs ++ behind.lines) pushed ∙ append_assoc read (line ∷ []) behind.lines
    ∙ ap (λ (rest : LinesTold). read ++ rest.lines) (sym is) ∙ same

-- Use: all of them were.
pub lines_whole : (read : List LineTold) (left all : LinesTold) → left ≡ record { lines = []; fault = None } → read ++ left.lines ≡ all.lines
    → left.fault ≡ all.fault → all ≡ record { lines = read; fault = None }
lines_whole read left all none same fault =
    let are : all.lines ≡ read = sym same ∙ ap (λ (rest : LinesTold). read ++ rest.lines) none ∙ append-nil read in
    let no_fault : all.fault ≡ None = sym fault ∙ ap (λ (rest : LinesTold). rest.fault) none in
    rw (← are, ← no_fault) refl

-- Use: one was not.
pub line_stops : (all : Option FaultTold) (left behind : LinesTold) (fields : List (List ℕ)) (fault : ScriptFault) → left.fault ≡ all
    → ReadsLine (Err fault) fields left behind → StopsReading all (fault_of_script fault)
line_stops all left behind fields (script.Bad bad) same h = rw (← same, h) refl
line_stops all left behind fields (script.Missing bad) same h = rw (← same, h) refl
line_stops all left behind fields script.Memory same h = tt

module _ (options : DiffOptions) (since : Option ℕ) (bytes : List ℕ) where
  change_is : change_meaning options since bytes ≡ change_told options since (told bytes)
  unfolding change_meaning
  change_is = refl

  bad_told : (fault : FaultTold) → (told bytes).rest.fault ≡ Some fault → change_meaning options since bytes ≡ Err fault.bad.number
  bad_told fault is =
      change_is ∙ ap (λ f. change_unless f (change_of options since (told bytes).opening (told bytes).rest.lines)) is

  -- Use: the script was not read up to its settings.
  pub opening_stops : (fields : List (List ℕ)) (fault : ScriptFault) → Opens (Err fault) fields (told bytes) → Stops (change_meaning options since bytes) (fault_of_script fault)
  opening_stops fields (script.Bad bad) h = bad_told _ (ap (λ (rest : LinesTold). rest.fault) h.1)
  opening_stops fields (script.Missing bad) h = bad_told _ (ap (λ (rest : LinesTold). rest.fault) h.1)
  opening_stops fields script.Memory h = tt

  module _ (opening : ScriptSettings) (lines : LinesTold) (is : told bytes ≡ record { opening = Some opening; rest = lines }) where
    -- Use: a line was not read.
    pub lines_stop : (fault : Fault) → StopsReading lines.fault fault → Stops (change_meaning options since bytes) fault
    lines_stop (why.BadRecord number) h = by lines.fault refl h
      where
        by : (found : Option FaultTold) → lines.fault ≡ found → fault_number found ≡ Some number → change_meaning options since bytes ≡ Err number
        by None none e = cc
        by (Some fault) some e =
            let same : fault.bad.number ≡ number = cc in
            bad_told fault (ap (λ (t : Told). t.rest.fault) is ∙ some) ∙ ap (λ (n : ℕ). Err n) same
    lines_stop why.NoMemory h = tt
    lines_stop why.Read h = absurd h
    lines_stop why.Write h = absurd h
    lines_stop why.TooLong h = absurd h
    lines_stop (why.BadRange range) h = absurd h
    lines_stop why.NoViewer h = absurd h
    lines_stop why.Unread h = absurd h
    lines_stop why.GateShut h = absurd h

    -- Use: it was told.
    pub lines_made : (read : List LineTold) (made : DiffTold) → lines ≡ record { lines = read; fault = None }
        → made ≡ change_behind options since (opening_course opening.every opening.settings) read → change_meaning options since bytes ≡ Ok made
    lines_made read made whole is_made =
        change_is ∙ ap (change_told options since) (is ∙ ap (λ rest. record { opening = Some opening; rest = rest }) whole)
        ∙ ap (λ (t : DiffTold). Ok t) (sym is_made)
