-- The lines that tell a slot and its processors.
use Rattle.std.specs.Prelude.{ℕ, nat_le, if◌then◌else◌, Option, None, Some, List, ◌++◌, codes}
use Rattle.std.specs.Fmt.{decimal}
use Rattle.std.specs.List.{flat_map, range_with_len}
use Rattle.pf_order.specs.declared.pick.Pick.{Pick}
use Rattle.pf_place.specs.Occupancy.{sitter}
use Rattle.pf_vocabulary.specs.declared.names.named.Named.{Named}
use Rattle.pf_why.specs.declared.point.Point.{Point}
use Rattle.pf_why_text.specs.Answer.{subtask_text}

-- the slot and the processors in use
abbrev pub slot_text : Point → List ℕ
slot_text p =
    codes "slot " ++ (decimal p.slot ++ (codes " of " ++ (decimal p.now
    ++ (codes ": processors in use " ++ (decimal p.count ++ (codes " of " ++ decimal p.processors))))))

-- load and room, and how many subtasks may run
abbrev pub load_text : Point → ℕ → List ℕ
load_text p many =
    codes ", base " ++ (decimal p.base ++ (codes ", load " ++ (decimal p.load ++ (codes ", room " ++ (decimal p.room
    ++ (codes ", subtasks that may run " ++ (decimal many ++ codes "\n")))))))

abbrev pub head_text : Point → ℕ → List ℕ
head_text p many = slot_text p ++ load_text p many

-- who sits on a processor that is in use
abbrev pub sitter_text : List Named → Option Pick → List ℕ
sitter_text names None = codes "idle"
sitter_text names (Some pick) = subtask_text names pick.task pick.sub

-- the line of processor p, where those below count are in use
abbrev pub place_text : List Named → ℕ → ℕ → Option Pick → List ℕ
place_text names count p sitter =
    codes "p" ++ (decimal p ++ (codes ": " ++ ((if nat_le count p then codes "out of use" else sitter_text names sitter) ++ codes "\n")))

-- the lines of m processors
abbrev pub places_text : List Named → ℕ → ℕ → List (Option Pick) → List ℕ
places_text names count m row = flat_map (λ p. place_text names count p (sitter row p)) (range_with_len 0 m)
