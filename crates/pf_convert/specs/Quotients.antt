-- Which quanta are tried where none is given: quotients of the shortest time.
use Rattle.std.specs.Prelude.{ℕ, zero, suc, ◌-◌, ◌/◌, ◌%◌, ◌==◌, ◌&&◌, ◌||◌, Bool, true, false, nat_lt, if◌then◌else◌, List, [], ◌∷◌, ◌++◌}

-- the quotient by this number is above the switch, and is whole where only whole ones are tried, or else no quotient by a
-- lower number
abbrev pub is_tried : Bool → ℕ → ℕ → ℕ → Bool
is_tried whole switch time parts =
    nat_lt switch (time / parts) && (if whole then time % parts == 0 else (parts == 1 || nat_lt (time / parts) (time / (parts - 1))))

-- the quotients of a time by 1 to a number, the longest first, each once
unfoldable pub quotients_to : Bool → ℕ → ℕ → ℕ → List ℕ
quotients_to whole switch time zero = []
quotients_to whole switch time (suc n) =
    quotients_to whole switch time n ++ (if is_tried whole switch time (suc n) then time / suc n ∷ [] else [])

-- those by 1 to 64 that leave no rest
abbrev pub whole_quotients : ℕ → ℕ → List ℕ
whole_quotients switch time = quotients_to true switch time 64

-- those by 1 to 64
abbrev pub all_quotients : ℕ → ℕ → List ℕ
all_quotients switch time = quotients_to false switch time 64
