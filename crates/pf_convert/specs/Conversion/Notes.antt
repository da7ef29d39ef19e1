-- What is told of several quanta.
use Rattle.std.specs.Prelude.{ℕ, ◌==◌, nat_lt, if◌then◌else◌, List, [], ◌∷◌, ◌++◌, length, codes}
use Rattle.std.specs.List.{flat_map}
use Rattle.std.specs.Fmt.{decimal}
use Rattle.pf_message.specs.Form.{file_front}
use Rattle.pf_vocabulary.specs.declared.names.unit.Unit.{Unit}
use Rattle.pf_convert.specs.declared.conversion.list_file.ListFile.{ListFile}
use Rattle.pf_convert.specs.declared.conversion.planned.Planned.{Planned}
use Rattle.pf_convert.specs.declared.list.listed.Listed.{Listed}
use Rattle.pf_convert.specs.declared.plan_fault.PlanFault.{PlanFault}
use Rattle.pf_convert.specs.declared.words.arrivals.Arrivals.{Arrivals}
use Rattle.pf_convert.specs.Conversion.PlanFaults.{fault_message}
use Rattle.pf_convert.specs.Conversion.Series.{shortest_time}
use Rattle.pf_convert.specs.List.Messages.{Told, messages_text}
use Rattle.pf_convert.specs.List.Parts.{joined}
use Rattle.pf_convert.specs.List.Times.{time_text}

-- before the first fault of a quantum, and after it where there are so many more
abbrev pub quantum_words : Unit → ℕ → List ℕ
quantum_words unit quantum = joined (codes "quantum " ∷ time_text unit quantum ∷ codes ": " ∷ [])

abbrev pub more_words : ℕ → List ℕ
more_words more = if nat_lt 0 more then joined (codes ", and " ∷ decimal more ∷ codes " more" ∷ []) else []

-- the message of a quantum, where it has faults: of the first, and how many more there are
abbrev pub notes_of : ListFile → Arrivals → ℕ → List PlanFault → List Told
notes_of f arrivals quantum [] = []
notes_of f arrivals quantum (first ∷ more) = fault_message f arrivals quantum (quantum_words f.unit quantum) (more_words (length more)) first ∷ []

abbrev pub notes_in : ListFile → Arrivals → List Planned → List Told
notes_in f arrivals all = flat_map (λ p. notes_of f arrivals p.quantum.length p.faults.items) all

-- no quotient of the shortest time is above what a switch takes
abbrev pub no_quantum_line : ListFile → List Listed → List ℕ
no_quantum_line f tasks =
    file_front f.name.now
    ++ joined (codes "no quantum is above the switch and up to the shortest time, " ∷ time_text f.unit (shortest_time tasks) ∷ codes "\n" ∷ [])

-- what is told of all of them
abbrev pub series_notes : ListFile → Arrivals → List Listed → List Planned → List ℕ
series_notes f arrivals tasks all =
    if length all == 0 then no_quantum_line f tasks else messages_text f.name.now f.text.now (notes_in f arrivals all)
