-- What is told where there is no plan.
use Rattle.std.specs.Prelude.{ℕ, nat_lt, if◌then◌else◌, List, [], ◌∷◌, ◌++◌, codes}
use Rattle.std.specs.Fmt.{decimal}
use Rattle.pf_convert.specs.declared.conversion.list_file.ListFile.{ListFile}
use Rattle.pf_convert.specs.declared.conversion.planned.Planned.{Planned}
use Rattle.pf_convert.specs.declared.list.listed.Listed.{Listed}
use Rattle.pf_convert.specs.declared.words.arrivals.Arrivals.{Arrivals}
use Rattle.pf_convert.specs.Conversion.Notes.{no_quantum_line}
use Rattle.pf_convert.specs.Conversion.PlanFaults.{fault_messages}
use Rattle.pf_convert.specs.Fit.Headline.{arrivals_words, spaced_text}
use Rattle.pf_convert.specs.List.Messages.{messages_text}
use Rattle.pf_convert.specs.List.Parts.{joined}

-- no quantum was tried
abbrev pub nothing_text : ListFile → Arrivals → List Listed → List ℕ
nothing_text f arrivals tasks =
    joined (codes "does not fit, " ∷ arrivals_words arrivals ∷ codes ": no quantum to try\n" ∷ []) ++ no_quantum_line f tasks

abbrev pub count_words : ℕ → List ℕ
count_words count =
    if nat_lt 1 count then joined (codes "of " ∷ decimal count ∷ codes " quanta tried none has a plan; this is that with the fewest faults\n" ∷ []) else []

-- the quantum that is shown, of so many, has no plan
abbrev pub no_plan_text : ListFile → Arrivals → ℕ → Planned → List ℕ
no_plan_text f arrivals count p =
    joined (codes "does not fit, " ∷ arrivals_words arrivals ∷ codes ": no plan in quanta of " ∷ []) ++ spaced_text f.unit p.quantum.length ++ codes "\n"
    ++ count_words count ++ messages_text f.name.now f.text.now (fault_messages f arrivals p.quantum.length p.faults.items)
