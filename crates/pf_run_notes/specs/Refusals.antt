-- What is kept of refused commands.
use Rattle.std.specs.Prelude.{ℕ, ◌+◌, ◌-◌, ◌^◌, nat_lt, min, if◌then◌else◌, Bool, Option, List, [], ◌++◌, codes}
use Rattle.pf_scenario.specs.Scenario.{Plan}
use Rattle.pf_scenario.specs.Refusals.{edit_fault_code, edit_fault_name}
use Rattle.pf_scenario.specs.declared.change.Change.{Change}
use Rattle.pf_notes.specs.Fault.{Fault}
use Rattle.pf_notes.specs.Fault.TheVariants.{BadEdit, AtHorizon, WouldDeny}
use Rattle.pf_notes.specs.Hints.{refusal_hint}
use Rattle.pf_notes.specs.Refusal.{refusal_text, horizon_text}
use Rattle.pf_run_notes.specs.Lines.{hint_if, refused_line}
use Rattle.pf_run_notes.specs.declared.place.Place.{Place}

-- the number and the name of a refusal
abbrev pub fault_code : Fault → ℕ
fault_code (BadEdit fault) = edit_fault_code fault
fault_code AtHorizon = 30
fault_code (WouldDeny id denial) = 31

abbrev pub fault_name : Fault → List ℕ
fault_name (BadEdit fault) = edit_fault_name fault
fault_name AtHorizon = codes "AtHorizon"
fault_name (WouldDeny id denial) = codes "WouldDeny"

-- how many records had refused commands, how many commands were refused, and the lines of the first of these records
pub record Kept : Type 0 where
  pub most : ℕ
  pub lines : List ℕ
  pub records : ℕ
  pub commands : ℕ

-- a count that ends at the greatest number of 64 bits
abbrev pub more : ℕ → ℕ → ℕ
more count n = min (count + n) (2 ^ 64 - 1)

-- one record more, with this line and so many refused commands: lines are kept of the first `most` records
abbrev pub kept_after : Kept → List ℕ → ℕ → Kept
kept_after k line n = record {
  most = k.most;
  lines = if nat_lt k.records k.most then k.lines ++ line else k.lines;
  records = more k.records 1;
  commands = more k.commands n;
}

-- the line of a refused change, and that of refused steps
abbrev pub change_line : List ℕ → Bool → Place → Option (List ℕ) → Plan → Change → Fault → List ℕ
change_line file hints place name s change fault =
    refused_line file place (refusal_text name s change fault) (hint_if hints (refusal_hint s change fault))

abbrev pub steps_line : List ℕ → Place → ℕ → ℕ → ℕ → List ℕ
steps_line file place horizon refused steps = refused_line file place (horizon_text horizon refused steps) []
