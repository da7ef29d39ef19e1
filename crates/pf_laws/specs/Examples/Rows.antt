-- Worked examples of rows.
use Rattle.std.specs.Prelude.{◌≡◌, ℕ, Option, None, Some, List, [], ◌∷◌}
use Rattle.pf_order.specs.declared.pick.Pick.{Pick}
use Rattle.pf_place.specs.Occupancy.{row_of, idle_row}
use Rattle.pf_place.specs.RunRows.{rows_of}

-- subtask i of the task
abbrev pub pick : ℕ → ℕ → Pick
pick task i = record { task = task; sub = i }

-- its place, and one where nobody sits
abbrev pub sits : ℕ → ℕ → Option Pick
sits task i = Some (pick task i)

abbrev pub idle : Option Pick
idle = None

-- two processors of which tasks 1 and 2 had one each
abbrev pub both : List (Option Pick)
both = sits 1 1 ∷ sits 2 1 ∷ []

pub record WorkedRows : Type 0 where
  -- task 7 stays where it sat; 9 and 2 take the free places, in their order, as 5 isn't picked
  pub three : row_of 3 3 (sits 5 1 ∷ sits 7 1 ∷ idle ∷ []) (pick 9 1 ∷ pick 7 2 ∷ pick 2 1 ∷ [])
      ≡ sits 9 1 ∷ sits 7 2 ∷ sits 2 1 ∷ []
  -- task 2 stays on its processor where task 1 isn't picked
  pub passed_over : row_of 2 2 both (pick 2 2 ∷ []) ≡ idle ∷ sits 2 2 ∷ []
  -- both stay, whichever is picked first
  pub both_stay : row_of 2 2 both (pick 2 2 ∷ pick 1 2 ∷ []) ≡ sits 1 2 ∷ sits 2 2 ∷ []
  -- task 2 moves where its processor is out of use
  pub out_of_use : row_of 2 1 both (pick 2 2 ∷ []) ≡ sits 2 2 ∷ idle ∷ []
  -- two idle processors
  pub idle_two : idle_row 2 ≡ idle ∷ idle ∷ []
  -- the rows of three tasks of 2/3 on two processors: task 1 sits on processor 0 in slots 0 and 1
  pub in_a_run : rows_of 2 ((2, pick 1 1 ∷ pick 2 1 ∷ []) ∷ (2, pick 3 1 ∷ pick 1 2 ∷ []) ∷ (2, pick 2 2 ∷ pick 3 2 ∷ []) ∷ [])
      ≡ (sits 1 1 ∷ sits 2 1 ∷ []) ∷ (sits 1 2 ∷ sits 3 1 ∷ []) ∷ (sits 2 2 ∷ sits 3 2 ∷ []) ∷ []
