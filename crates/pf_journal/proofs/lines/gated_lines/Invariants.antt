use Rattle.std.proofs.Common.{◌≡◌, ℕ, List, [], ◌++◌, false, not, length}
use Rattle.std.specs.List.{list_any}
use Rattle.pf_journal.specs.Batches.{has_room}
use Rattle.pf_journal.specs.Lines.{lines_of}
use Rattle.pf_journal.specs.Texts.{whole_lines}
use Rattle.pf_journal.proofs.lines.gated_lines.Given as goal

abbrev pub invariant-loop-line : goal.invariant-loop-line
invariant-loop-line l = (done : List (List ℕ)) × (l.bytes.items ≡ lines_of done) × (whole_lines l.fn.text ≡ done ++ whole_lines l.rest)
    × (list_any (λ line. not (has_room [] line)) done ≡ false)

abbrev pub decreases-loop-line : goal.decreases-loop-line
decreases-loop-line l = length l.rest
