-- What several quanta give, as an object of JSON.
use Rattle.std.specs.Prelude.{ℕ, ◌+◌, ◌*◌, ◌==◌, Bool, true, false, nat_le, if◌then◌else◌, Option, None, Some, unwrap_or, List, [], ◌∷◌, ◌++◌, codes}
use Rattle.std.specs.Fmt.{decimal}
use Rattle.pf_convert.specs.declared.plan.Plan.{Plan}
use Rattle.pf_convert.specs.declared.plan_fault.PlanFault.{PlanFault}
use Rattle.pf_convert.specs.declared.slotted.Slotted.{Slotted}
use Rattle.pf_convert.specs.declared.words.arrivals.Arrivals.{Arrivals}
use Rattle.pf_convert.specs.declared.words.arrivals.Arrivals.TheVariants.{Aligned, Any}
use Rattle.pf_vocabulary.specs.Names.Slots.{unit_word}
use Rattle.pf_scenario.specs.declared.settings.TheConstants.{MOST_PROCESSORS}
use Rattle.pf_convert.specs.declared.list.listed.Listed.{Listed}
use Rattle.pf_convert.specs.declared.conversion.list_file.ListFile.{ListFile}
use Rattle.pf_convert.specs.declared.conversion.planned.Planned.{Planned}
use Rattle.pf_convert.specs.declared.conversion.table.Series.{Series}
use Rattle.pf_convert.specs.List.Parts.{joined}
use Rattle.pf_convert.specs.Conversion.PlanFaults.{fault_place, fault_words, place_text}
use Rattle.pf_convert.specs.Conversion.Script.{numbered}

-- what stands before the element of a list at a place
abbrev pub comma : ℕ → List ℕ
comma place = if place == 0 then codes "" else codes ","

abbrev pub truth : Bool → List ℕ
truth true = codes "true"
truth false = codes "false"

abbrev pub option_json : Option ℕ → List ℕ
option_json None = codes "null"
option_json (Some number) = decimal number

-- a plan fits that needs so many processors
abbrev pub fits_word : Option ℕ → ℕ → List ℕ
fits_word processors needed = if nat_le needed (unwrap_or processors MOST_PROCESSORS) then codes "true" else codes "false"

-- a task in slots, at a place
abbrev pub slots_item : ℕ → ℕ → Slotted → List ℕ
slots_item quantum place s =
    joined (comma place ∷ codes "{\"arrival\":" ∷ decimal ((s.period + 1) * quantum) ∷ codes ",\"cost\":" ∷ decimal s.cost ∷ codes ",\"early\":" ∷ decimal s.early
    ∷ codes ",\"join\":" ∷ decimal s.join ∷ codes ",\"period\":" ∷ decimal s.period ∷ codes ",\"response\":" ∷ decimal (s.period * quantum) ∷ codes "}" ∷ [])

abbrev pub arrivals_word : Arrivals → List ℕ
arrivals_word Aligned = codes "aligned"
arrivals_word Any = codes "any"

unfoldable pub arrivals_json : Arrivals → List ℕ
arrivals_json arrivals = joined (codes "{\"arrivals\":\"" ∷ arrivals_word arrivals ∷ codes "\",\"best\":" ∷ [])

-- a fault, at a place
abbrev pub fault_item : ListFile → Arrivals → ℕ → ℕ → PlanFault → List ℕ
fault_item f arrivals quantum place fault =
    joined (comma place ∷ codes "\"" ∷ []) ++ place_text f.text.now (fault_place f.heading fault) ++ fault_words f.unit arrivals quantum fault
    ++ joined (codes "\"" ∷ [])

-- a task in time, at a place
abbrev pub task_item : ℕ → Listed → List ℕ
task_item place task =
    joined (comma place ∷ codes "{\"deadline\":" ∷ []) ++ option_json task.times.deadline
    ++ joined (codes ",\"early\":" ∷ decimal task.times.early ∷ codes ",\"every\":" ∷ decimal task.times.every ∷ codes ",\"first\":"
    ∷ decimal task.times.first ∷ codes ",\"name\":\"" ∷ task.name ∷ codes "\",\"work\":" ∷ decimal task.times.work ∷ codes "}" ∷ [])

abbrev pub plan_head : Option ℕ → ℕ → ℕ → Plan → List ℕ
plan_head processors quantum needed plan =
    joined (codes "{\"base\":" ∷ decimal plan.base ∷ codes ",\"exact\":" ∷ truth plan.exact ∷ codes ",\"faults\":[],\"fits\":" ∷ fits_word processors needed
    ∷ codes ",\"load\":" ∷ decimal plan.load ∷ codes ",\"processors\":" ∷ decimal needed ∷ codes ",\"quantum\":" ∷ decimal quantum ∷ codes ",\"tasks\":[" ∷ [])

unfoldable pub plan_json : Option ℕ → ℕ → ℕ → Plan → List ℕ
plan_json processors quantum needed plan =
    plan_head processors quantum needed plan ++ numbered (slots_item quantum) 0 plan.tasks.items ++ joined (codes "]}" ∷ [])

unfoldable pub no_plan_json : ListFile → Arrivals → ℕ → List PlanFault → List ℕ
no_plan_json f arrivals quantum faults =
    joined (codes "{\"base\":null,\"exact\":null,\"faults\":[" ∷ []) ++ numbered (fault_item f arrivals quantum) 0 faults
    ++ joined (codes "],\"fits\":false,\"load\":null,\"processors\":null,\"quantum\":" ∷ decimal quantum ∷ codes ",\"tasks\":[]}" ∷ [])

abbrev pub json_with : ListFile → Series → Planned → Option Plan → List ℕ
json_with f s p None = no_plan_json f s.arrivals p.quantum.length p.faults.items
json_with f s p (Some plan) = plan_json s.processors p.quantum.length (unwrap_or p.needed 0) plan

-- what a quantum gives, at a place
abbrev pub quantum_item : ListFile → Series → ℕ → Planned → List ℕ
quantum_item f s place p = joined (comma place ∷ []) ++ json_with f s p p.plan

unfoldable pub best_json : Option ℕ → List ℕ
best_json best = option_json best ++ joined (codes ",\"processors\":" ∷ [])

unfoldable pub processors_json : Option ℕ → List ℕ
processors_json processors = option_json processors ++ joined (codes ",\"quanta\":[" ∷ [])

unfoldable pub json_head : Series → List ℕ
json_head s = arrivals_json s.arrivals ++ best_json s.best ++ processors_json s.processors

abbrev pub json_tail : Series → List ℕ
json_tail s = joined (codes "],\"unit\":\"" ∷ unit_word s.unit ∷ codes "\",\"work\":" ∷ decimal s.work ∷ codes "}\n" ∷ [])

unfoldable pub json_text : ListFile → Series → ℕ → List Listed → List Planned → List ℕ
json_text f s switch tasks all =
    json_head s ++ numbered (quantum_item f s) 0 all ++ joined (codes "],\"switch\":" ∷ decimal switch ∷ codes ",\"tasks\":[" ∷ [])
    ++ numbered task_item 0 tasks ++ json_tail s
