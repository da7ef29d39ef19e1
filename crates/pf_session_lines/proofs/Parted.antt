-- Lines whose fields blanks part.
use Rattle.std.proofs.Common.{◌≡◌, ◌∙◌, ◌≤◌, ℕ, List, ◌++◌, Bool, drop, length, ap, sym, append-nil}
use Rattle.std.proofs.lemmas.List.{at_drop_all}
use Rattle.pf_session_lines.specs.Lines.{parted}

-- Use: no byte is left.
pub all_written : (quoted is_behind : Bool) (text line : List ℕ) (i : ℕ) (all : List ℕ) → length line ≤ i
    → text ++ parted quoted is_behind (drop i line) ≡ all → text ≡ all
unfolding parted
all_written quoted is_behind text line i all done so_far =
    sym (append-nil text) ∙ ap (λ t. text ++ t) (sym (at_drop_all (parted quoted is_behind) line i done)) ∙ so_far
