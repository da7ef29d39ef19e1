-- The ranking of a slot as a table in columns.
use Rattle.std.specs.Prelude.{◌≡◌, ℕ, ◌+◌, ◌-◌, ◌^◌, ◌<◌, Option, None, Some, IfSome, List, [], ◌∷◌, ◌++◌, codes, length}
use Rattle.std.specs.Fmt.{decimal}
use Rattle.std.specs.List.{slice_get}
use Rattle.std.specs.Option.{option_map}
use Rattle.pf_order.specs.declared.pick.Pick.{Pick}
use Rattle.pf_place.specs.Lent.{lent_row}
use Rattle.pf_text.specs.Columns.Columns.{columns_text}
use Rattle.pf_vocabulary.specs.declared.names.named.Named.{Named}
use Rattle.pf_why.specs.declared.subtask.Subtask.{Subtask}
use Rattle.pf_why.specs.declared.seat.Seat.{Seat}
use Rattle.pf_why.specs.Rule.{rule_of, rule_word}
use Rattle.pf_why.specs.Seat.{seat_of}
use Rattle.pf_why_text.specs.declared.seating.Seating.{Seating}
use Rattle.pf_why_text.specs.Answer.{answer_text, subtask_text}

-- who sits where in a slot and in the slot before, if there is one, and how many processors are in use in it
pub record Seats : Type 0 where
  pub slot : ℕ
  pub count : ℕ
  pub row : List (Option Pick)
  pub before : Option (List (Option Pick))

abbrev pub seating_of : Seating → Seats
seating_of s = record { slot = s.slot; count = s.count; row = lent_row s.row; before = option_map lent_row s.before }

-- both rows have as many places as there are processors, and the slot can be counted up
pub record IsSeating (s : Seating) : Type 0 where
  pub row : s.processors ≡ length (lent_row s.row)
  pub before : IfSome s.before (λ b. s.processors ≡ length (lent_row b))
  pub slot : s.slot < 2 ^ 63

-- the word of the rule that puts x after the one before it
abbrev pub by_text : Option Subtask → Subtask → List ℕ
by_text None x = codes "-"
by_text (Some y) x = rule_word (rule_of y x)

abbrev pub window_text : Subtask → List ℕ
window_text x = decimal x.release ++ (codes ".." ++ decimal x.deadline)

abbrev pub seat_in_slot : Seats → Subtask → Option Seat
seat_in_slot seating x = seat_of seating.row seating.before seating.count x.task

abbrev pub start_cells : List Named → ℕ → Subtask → List (List ℕ)
start_cells names rank x = decimal rank ∷ subtask_text names x.task x.sub ∷ window_text x ∷ []

abbrev pub number_cells : Subtask → List (List ℕ)
number_cells x = decimal x.deadline ∷ decimal x.bit ∷ decimal x.group ∷ []

-- the cells of a rank: `last` is the last that runs, y the one before
abbrev pub rank_cells : List Named → Seats → Option Subtask → ℕ → Option Subtask → Subtask → List (List ℕ)
rank_cells names seating last rank y x =
    start_cells names rank x ++ number_cells x ++ by_text y x ∷ [] ++ answer_text names seating.slot last (seat_in_slot seating x) x ∷ []

-- those of the ranks from this one on
abbrev pub ranks_cells : List Named → Seats → Option Subtask → ℕ → Option Subtask → List Subtask → List (List (List ℕ))
ranks_cells names seating last rank y [] = []
ranks_cells names seating last rank y (x ∷ xs) =
    rank_cells names seating last rank y x ∷ ranks_cells names seating last (rank + 1) (Some x) xs

abbrev pub ranks_heading : List (List ℕ)
ranks_heading =
    codes "rank" ∷ codes "task/sub" ∷ codes "window" ∷ codes "deadline" ∷ codes "bit" ∷ codes "group" ∷ codes "by" ∷ codes "answer" ∷ []

-- the last of a ranking that runs, where there are that many
abbrev pub last_that_runs : Seats → List Subtask → Option Subtask
last_that_runs seating ranking = slice_get ranking (seating.count - 1)

-- the table; nothing of no subtask
abbrev pub ranks_text : List Named → Seats → List Subtask → List ℕ
ranks_text names seating [] = []
ranks_text names seating (x ∷ xs) =
    columns_text (ranks_heading ∷ ranks_cells names seating (last_that_runs seating (x ∷ xs)) 1 None (x ∷ xs))
