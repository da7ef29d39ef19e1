-- The characters of a chart.
use Rattle.std.specs.Prelude.{ℕ, zero, suc, ◌/◌, ℤ, pos, negsuc, List, ◌++◌, codes, slice_index_or}
use Rattle.std.specs.List.{slice_get}
use Rattle.std.specs.Option.{unwrap_or}

-- the ranks have the digits, the small and the great letters, from 0 on
abbrev pub letters : List ℕ
letters = codes "0123456789abcdefghijklmnopqrstuvwxyzABCDEFGHIJKLMNOPQRSTUVWXYZ"

abbrev pub blank : ℕ
blank = slice_index_or (codes " ") 0 0

-- a task that is not shown
abbrev pub left_out : ℕ
left_out = slice_index_or (codes ".") 0 0

abbrev pub star : ℕ
star = slice_index_or (codes "*") 0 0

-- a task by its rank, from 1: a star from 62 on
abbrev pub rank_symbol : ℕ → ℕ
rank_symbol rank = unwrap_or (slice_get letters rank) star

-- a processor: `+` and `/` are 62 and 63
abbrev pub processor_symbol : ℕ → ℕ
processor_symbol p = unwrap_or (slice_get (letters ++ codes "+/") p) star

-- a task to which so many whole quanta are owed, and something
abbrev pub owed_symbol : ℕ → ℕ
owed_symbol q = unwrap_or (slice_get (codes "+123456789") q) star

-- a task that is ahead by so many whole quanta, and something
abbrev pub ahead_symbol : ℕ → ℕ
ahead_symbol q = unwrap_or (slice_get (codes "-abcdefghijklmnopqrstuvwxyz") q) (slice_index_or (codes "~") 0 0)

-- a scaled lag of a task of this period
abbrev pub lag_symbol : ℕ → ℤ → ℕ
lag_symbol period (pos zero) = slice_index_or (codes "=") 0 0
lag_symbol period (pos (suc v)) = owed_symbol (suc v / period)
lag_symbol period (negsuc v) = ahead_symbol (suc v / period)
