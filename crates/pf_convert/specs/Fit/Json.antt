-- Whether a list fits, as an object of JSON.
use Rattle.std.specs.Prelude.{ℕ, ◌*◌, Bool, true, false, nat_le, unwrap_or, Option, None, Some, is_some, MatchOption, List, [], ◌∷◌, ◌++◌, codes}
use Rattle.std.specs.Fmt.{decimal}
use Rattle.pf_vocabulary.specs.Names.Slots.{unit_word}
use Rattle.pf_scenario.specs.declared.settings.TheConstants.{MOST_PROCESSORS}
use Rattle.pf_convert.specs.declared.conversion.list_file.ListFile.{ListFile}
use Rattle.pf_convert.specs.declared.conversion.planned.Planned.{Planned}
use Rattle.pf_convert.specs.declared.fit.shown.Shown.{Shown}
use Rattle.pf_convert.specs.declared.fit.shown_task.ShownTask.{ShownTask}
use Rattle.pf_convert.specs.declared.list.listed.Listed.{Listed}
use Rattle.pf_convert.specs.declared.outcome.Outcome.{Outcome}
use Rattle.pf_convert.specs.declared.terms.Terms.{Terms}
use Rattle.pf_convert.specs.Conversion.Json.{arrivals_word, comma, no_plan_json, option_json, plan_head, task_item, truth}
use Rattle.pf_convert.specs.Conversion.Script.{numbered}
use Rattle.pf_convert.specs.Fit.Exactness.{is_exact}
use Rattle.pf_convert.specs.Fit.Shown.{any_response_of, is_fit, least_time_of}
use Rattle.pf_convert.specs.List.Parts.{joined}

-- the front of the object
abbrev pub arrivals_json : Terms → List ℕ
arrivals_json terms = joined (codes "{\"arrivals\":\"" ∷ arrivals_word terms.arrivals ∷ codes "\",\"margins\":" ∷ [])

abbrev pub margins_json : Shown → List ℕ
margins_json s =
    joined (codes "{\"exact\":" ∷ truth (is_exact s.exactness) ∷ codes ",\"fail\":" ∷ []) ++ option_json s.margins.now.fail
    ++ joined (codes ",\"processors\":" ∷ decimal s.margins.now.processors ∷ codes ",\"switch\":" ∷ []) ++ option_json s.margins.now.switch
    ++ joined (codes "}" ∷ [])

abbrev pub shown_item_front : Shown → ℕ → ShownTask → List ℕ
shown_item_front s place t =
    joined (comma place ∷ codes "{\"arrival\":" ∷ decimal (any_response_of s t) ∷ codes ",\"cost\":" ∷ decimal t.slots.cost ∷ codes ",\"early\":"
    ∷ decimal t.slots.early ∷ codes ",\"join\":" ∷ decimal t.slots.join ∷ [])

abbrev pub least_json : Shown → ShownTask → List ℕ
least_json s t = joined (codes ",\"least\":" ∷ []) ++ option_json (least_time_of s t)

abbrev pub most_json : Option ℕ → List ℕ
most_json most = joined (codes ",\"most\":" ∷ []) ++ option_json most

abbrev pub shown_item_end : Shown → ShownTask → List ℕ
shown_item_end s t =
    joined (codes ",\"period\":" ∷ decimal t.slots.period ∷ codes ",\"response\":" ∷ decimal (t.slots.period * s.quantum.length) ∷ codes "}" ∷ [])

-- the task in slots at a place, with its margins
abbrev pub shown_item : Shown → ℕ → ShownTask → List ℕ
shown_item s place t = shown_item_front s place t ++ least_json s t ++ most_json t.margin.most ++ shown_item_end s t

abbrev pub shown_plan_json : Shown → List ℕ
shown_plan_json s =
    plan_head s.terms.processors s.quantum.length s.margins.now.processors s.plan.now ++ numbered (shown_item s) 0 s.tasks.now ++ joined (codes "]}" ∷ [])

abbrev pub fits_option : Option ℕ → Option ℕ → Bool
fits_option processors None = false
fits_option processors (Some needed) = nat_le needed (unwrap_or processors MOST_PROCESSORS)

-- what the quantum at a place needs
abbrev pub outcome_item : Option ℕ → ℕ → Outcome → List ℕ
outcome_item processors place o =
    joined (comma place ∷ codes "{\"fits\":" ∷ truth (fits_option processors o.needed) ∷ codes ",\"processors\":" ∷ []) ++ option_json o.needed
    ++ joined (codes ",\"quantum\":" ∷ decimal o.quantum ∷ codes "}" ∷ [])

abbrev pub verdict_word : Bool → List ℕ
verdict_word true = codes "fits"
verdict_word false = codes "does not fit"

abbrev pub processors_json : Option ℕ → List ℕ
processors_json processors = joined (codes ",\"processors\":" ∷ []) ++ option_json processors

abbrev pub tasks_json : ℕ → List Listed → List ℕ
tasks_json switch tasks =
    joined (codes ",\"switch\":" ∷ decimal switch ∷ codes ",\"tasks\":[" ∷ []) ++ numbered task_item 0 tasks

abbrev pub tried_json : Option ℕ → List Outcome → List ℕ
tried_json processors outcomes = joined (codes "],\"tried\":[" ∷ []) ++ numbered (outcome_item processors) 0 outcomes

abbrev pub end_json : ListFile → Bool → ℕ → List ℕ
end_json f fit work =
    joined (codes "],\"unit\":\"" ∷ unit_word f.unit ∷ codes "\",\"verdict\":\"" ∷ verdict_word fit ∷ codes "\",\"work\":" ∷ decimal work ∷ codes "}\n" ∷ [])

-- what comes after the plan
abbrev pub tail_json : ListFile → Terms → Option ℕ → List Listed → List Outcome → Bool → ℕ → List ℕ
tail_json f terms processors tasks outcomes fit work =
    processors_json processors ++ tasks_json terms.switch tasks ++ tried_json terms.processors outcomes ++ end_json f fit work

abbrev pub plan_json : Shown → List ℕ
plan_json s = joined (codes ",\"plan\":" ∷ []) ++ shown_plan_json s

abbrev pub shown_tail : Shown → List Outcome → ℕ → List ℕ
shown_tail s outcomes work = tail_json s.file.now s.terms (Some s.processors) s.listed.now outcomes (is_fit s) work

-- of a plan and its margins
unfoldable pub shown_json : Shown → List Outcome → ℕ → List ℕ
shown_json s outcomes work =
    arrivals_json s.terms ++ margins_json s ++ plan_json s ++ shown_tail s outcomes work

-- the quantum that is shown, where it has no plan
abbrev pub unplanned_json : ListFile → Terms → Option Planned → List ℕ
unplanned_json f terms None = joined (codes "null" ∷ [])
unplanned_json f terms (Some p) = no_plan_json f terms.arrivals p.quantum.length p.faults.items

-- where there is no plan
unfoldable pub no_shown_json : ListFile → Terms → Option Planned → List Listed → List Outcome → ℕ → List ℕ
no_shown_json f terms planned tasks outcomes work =
    arrivals_json terms ++ joined (codes "null,\"plan\":" ∷ []) ++ unplanned_json f terms planned ++ tail_json f terms terms.processors tasks outcomes false work
