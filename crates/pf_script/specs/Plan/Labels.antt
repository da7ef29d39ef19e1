-- The labels of events.
use Rattle.std.specs.Prelude.{ℕ, ◌+◌, ◌==◌, if◌then◌else◌, List, [], ◌∷◌, Option, None, Some, option_map, find}
use Rattle.std.specs.Str.{bytes_eq}
use Rattle.pf_script.specs.declared.plan.labels.Labelled.{Labelled}

-- the number that the event with a label was given
abbrev pub number_of_label : List Labelled → List ℕ → Option ℕ
number_of_label [] label = None
number_of_label (labelled ∷ labels) label = if bytes_eq labelled.name label then Some labelled.number else number_of_label labels label

-- the label that means the event of a number
abbrev pub label_of_number : List Labelled → ℕ → Option (List ℕ)
label_of_number labels id = option_map (λ labelled. labelled.name) (find (λ labelled. labelled.number == id) labels)

-- the place of a label, counted from 0
abbrev pub place_of_label : List Labelled → List ℕ → Option ℕ
place_of_label [] label = None
place_of_label (labelled ∷ labels) label =
    if bytes_eq labelled.name label then Some 0 else option_map (λ place. place + 1) (place_of_label labels label)

-- a label as it was, or for the event that was given this number; none was where it is 0, as the insert was refused
abbrev pub relabelled : Labelled → ℕ → Labelled
relabelled labelled number = if number == 0 then labelled else record { name = labelled.name; number = number }

-- the labels, where an event with this one was given this number: the label comes after the others, or goes on to this event
abbrev pub labels_with : List ℕ → ℕ → List Labelled → List Labelled
labels_with label number [] = record { name = label; number = number } ∷ []
labels_with label number (labelled ∷ labels) =
    if bytes_eq labelled.name label then relabelled labelled number ∷ labels else labelled ∷ labels_with label number labels

-- the same, where the event has a label
abbrev pub with_label : Option (List ℕ) → ℕ → List Labelled → List Labelled
with_label None number labels = labels
with_label (Some label) number labels = labels_with label number labels
