-- The processors and the ranking of a slot as JSON.
use Rattle.std.specs.Prelude.{ℕ, ◌+◌, Option, None, Some, List, [], ◌∷◌, ◌++◌, codes, map}
use Rattle.std.specs.Fmt.{decimal}
use Rattle.std.specs.List.{range_with_len}
use Rattle.std.specs.Option.{option_map}
use Rattle.pf_order.specs.declared.pick.Pick.{Pick}
use Rattle.pf_place.specs.Occupancy.{sitter}
use Rattle.pf_vocabulary.specs.declared.names.named.Named.{Named}
use Rattle.pf_why.specs.declared.seat.Choice.{Choice}
use Rattle.pf_why.specs.declared.seat.Choice.TheVariants.{Kept, LowestFree, OutOfUse}
use Rattle.pf_why.specs.declared.seat.Seat.{Seat}
use Rattle.pf_why.specs.declared.subtask.Subtask.{Subtask}
use Rattle.pf_why.specs.Rule.{rule_of, rule_word}
use Rattle.pf_why_text.specs.Answer.{answer_text}
use Rattle.pf_why_text.specs.Ranks.{Seats, seat_in_slot}
use Rattle.pf_why_json.specs.Members.{key_or_null, quoted, quoted_or_null}

-- `[task,sub]`, null where the processor is idle
unfoldable pub sitter_json : Option Pick → List ℕ
sitter_json None = codes "null"
sitter_json (Some pick) = codes "[" ++ decimal pick.task ++ codes "," ++ decimal pick.sub ++ codes "]"

-- those of m processors
abbrev pub places_json : ℕ → List (Option Pick) → List (List ℕ)
places_json m row = map (λ p. sitter_json (sitter row p)) (range_with_len 0 m)

-- the word of the rule that puts x after the one before it
abbrev pub by_json : Option Subtask → Subtask → Option (List ℕ)
by_json before x = option_map (λ y. rule_word (rule_of y x)) before

-- the keys up to `group`
unfoldable pub order_json : Option Subtask → Subtask → List ℕ
order_json before x =
    codes "{\"bit\":" ++ decimal x.bit ++ quoted_or_null (codes ",\"by\":") (by_json before x) ++ codes ",\"deadline\":" ++ decimal x.deadline
    ++ codes ",\"group\":" ++ decimal x.group

-- after them those up to `processor`
abbrev pub kept_word : Choice → List ℕ
kept_word Kept = codes "true"
kept_word LowestFree = codes "false"
kept_word (OutOfUse processor) = codes "false"

unfoldable pub seat_json : Option Seat → List ℕ
seat_json None = codes ",\"kept\":null,\"processor\":null"
seat_json (Some seat) = codes ",\"kept\":" ++ kept_word seat.choice ++ codes ",\"processor\":" ++ decimal seat.processor

-- and those up to `task`
unfoldable pub subtask_json : ℕ → Subtask → List ℕ
subtask_json rank x =
    codes ",\"rank\":" ++ decimal rank ++ codes ",\"release\":" ++ decimal x.release ++ codes ",\"sub\":" ++ decimal x.sub
    ++ codes ",\"task\":" ++ decimal x.task

-- a rank: `last` is the last that runs, `before` the one before
abbrev pub rank_json : List Named → Seats → Option Subtask → ℕ → Option Subtask → Subtask → List ℕ
rank_json names seats last rank before x =
    order_json before x ++ (seat_json (seat_in_slot seats x) ++ (subtask_json rank x
    ++ (quoted (codes ",\"text\":") (answer_text names seats.slot last (seat_in_slot seats x) x) ++ codes "}")))

-- those of the ranks from this one on
abbrev pub ranks_json : List Named → Seats → Option Subtask → ℕ → Option Subtask → List Subtask → List (List ℕ)
ranks_json names seats last rank before [] = []
ranks_json names seats last rank before (x ∷ xs) =
    rank_json names seats last rank before x ∷ ranks_json names seats last (rank + 1) (Some x) xs
