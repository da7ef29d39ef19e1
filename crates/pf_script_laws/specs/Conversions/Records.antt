-- The records of a plan's script, each a list of fields.
use Rattle.std.specs.Prelude.{ℕ, ◌+◌, ◌*◌, List, [], ◌∷◌, ◌++◌, codes}
use Rattle.std.specs.Fmt.{decimal}
use Rattle.pf_convert.specs.declared.plan.Plan.{Plan}
use Rattle.pf_convert.specs.declared.slotted.Slotted.{Slotted}
use Rattle.pf_vocabulary.specs.declared.names.unit.Unit.{Unit}
use Rattle.pf_vocabulary.specs.Names.Slots.{unit_word}
use Rattle.pf_convert.specs.declared.list.listed.Listed.{Listed}
use Rattle.pf_convert.specs.Conversion.Script.{slot_of, steps_of}

abbrev pub settings_record : ℕ → ℕ → List (List ℕ)
settings_record processors base =
    codes "settings" ∷ decimal processors ∷ decimal base ∷ decimal (processors * base) ∷ codes "64" ∷ []

abbrev pub slot_record : ℕ × Unit → List (List ℕ)
slot_record slot = codes "slot" ∷ decimal slot.0 ∷ unit_word slot.1 ∷ []

abbrev pub name_record : ℕ → Listed → List (List ℕ)
name_record number task = codes "name" ∷ decimal number ∷ task.name ∷ []

abbrev pub join_record : ℕ → Slotted → List (List ℕ)
join_record number s =
    codes "join" ∷ decimal s.join ∷ decimal number ∷ decimal s.cost ∷ decimal s.period ∷ decimal s.early ∷ []

abbrev pub step_record : ℕ → List (List ℕ)
step_record steps = codes "step" ∷ decimal steps ∷ []

-- what each of some things, which are numbered from a number on, comes to
unfoldable pub each_numbered : {X Y : Type 0} → (ℕ → X → Y) → ℕ → List X → List Y
each_numbered f number [] = []
each_numbered f number (x ∷ xs) = f number x ∷ each_numbered f (number + 1) xs

abbrev pub heading_record : List (List ℕ)
heading_record = codes "plan" ∷ codes "1" ∷ []

-- the records after the heading
abbrev pub script_records : ℕ → ℕ → List Listed → Plan → List (List (List ℕ))
script_records processors quantum tasks plan =
    settings_record processors plan.base ∷ slot_record (slot_of quantum)
    ∷ (each_numbered name_record 1 tasks ++ (each_numbered join_record 1 plan.tasks.items ++ step_record (steps_of plan.base plan.tasks.items) ∷ []))
