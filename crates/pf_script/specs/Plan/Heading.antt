-- The heading of a plan.
use Rattle.std.specs.Prelude.{⊤, ℕ, Bool, if◌then◌else◌, List, Option, None, Some, Result, Ok, Err, codes}
use Rattle.pf_script.specs.Fields.{is_word}
use Rattle.pf_script.specs.declared.plan.fault.Reason.TheVariants.{Fields, NoVersion}
use Rattle.pf_script.specs.declared.plan.fault.RecordFault.{RecordFault}
use Rattle.pf_script.specs.Plan.Parsing.{fault_at, of_length}

-- the first record of a plan
unfoldable pub is_plan_heading : List (List ℕ) → Bool
is_plan_heading fields = is_word fields 0 (codes "plan")

-- of two fields the second is the version
abbrev pub version_fault : List (List ℕ) → Result ⊤ RecordFault → Option RecordFault
version_fault fields (Ok two) = if is_word fields 1 (codes "1") then None else Some (fault_at 1 NoVersion)
version_fault fields (Err fault) = Some fault

-- what is wrong with a plan's heading, which is `plan,1`
unfoldable pub heading_fault : List (List ℕ) → Option RecordFault
heading_fault fields = version_fault fields (of_length fields 2 2 (Fields 2))
