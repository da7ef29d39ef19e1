-- Which processor runs which pick of a slot. A row has a place for each processor, and each place a pick or none.
use Rattle.std.specs.Prelude.{◌≢◌, ℕ, ◌==◌, Bool, false, not, nat_lt, if◌then◌else◌, Option, None, List, map, filter, find, take, count_by, replicate, AllPairs}
use Rattle.std.specs.List.{slice_get, slice_index_or, list_any, filter_map, range_with_len}
use Rattle.std.specs.Option.{is_none, option_and_then, option_map_or, option_or}
use Rattle.pf_order.specs.declared.pick.Pick.{Pick}

-- who sits on place q
abbrev pub sitter : List (Option Pick) → ℕ → Option Pick
sitter row q = slice_index_or row q None

-- all who sit, by place
abbrev pub sitters : List (Option Pick) → List Pick
sitters row = filter_map (λ place. place) row

-- the task sits on one of these places
abbrev pub is_seated : List (Option Pick) → ℕ → Bool
is_seated places task = list_any (λ place. option_map_or (λ p. p.task == task) place false) places

-- no two of these picks are of one task
abbrev pub NoTaskTwice : List Pick → Type 0
NoTaskTwice picks = AllPairs (λ p q. p.task ≢ q.task) picks

-- the pick of the task
abbrev pub pick_of : List Pick → ℕ → Option Pick
pick_of picks task = find (λ p. p.task == task) picks

-- the pick of whoever sat on a place, where they run again
abbrev pub next_pick : List Pick → Option Pick → Option Pick
next_pick picks sat = option_and_then (λ p. pick_of picks p.task) sat

-- who keeps place q: whoever sat there before and runs again, where the place is in use
abbrev pub kept_at : ℕ → List (Option Pick) → List Pick → ℕ → Option Pick
kept_at count before picks q = if nat_lt q count then next_pick picks (sitter before q) else None

-- the picks whose task sat on none of these places
abbrev pub others : List (Option Pick) → List Pick → List Pick
others places picks = filter (λ p. not (is_seated places p.task)) picks

-- how many places below q nobody keeps
abbrev pub free_below : ℕ → List (Option Pick) → List Pick → ℕ → ℕ
free_below count before picks q = count_by (λ x. is_none (kept_at count before picks x)) (range_with_len 0 q)

-- who takes place q where nobody keeps it and it is in use: the other pick before which as many others stand as free
-- places below q
abbrev pub taker_at : ℕ → List (Option Pick) → List Pick → ℕ → Option Pick
taker_at count before picks q =
    if nat_lt q count then slice_get (others (take count before) picks) (free_below count before picks q) else None

-- who sits on place q after the slot: its keeper, else its taker, else nobody
abbrev pub seat : ℕ → List (Option Pick) → List Pick → ℕ → Option Pick
seat count before picks q = option_or (kept_at count before picks q) (taker_at count before picks q)

-- the row of m places after a slot in which these picks ran on the processors below count, where `before` is the
-- row of the slot before
unfoldable pub row_of : ℕ → ℕ → List (Option Pick) → List Pick → List (Option Pick)
row_of m count before picks = map (seat count before picks) (range_with_len 0 m)

-- the row of m idle places
abbrev pub idle_row : ℕ → List (Option Pick)
idle_row m = replicate m None
