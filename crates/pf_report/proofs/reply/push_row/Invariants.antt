use Rattle.std.proofs.Common.{◌≡◌, ◌*◌, ◌++◌, length, take}
use Rattle.std.specs.Prelude.{min}
use Rattle.std.specs.List.{flat_map}
use Rattle.pf_place.specs.Lent.{lent_row}
use Rattle.pf_report.specs.Replies.{place_text}
use Rattle.pf_report.proofs.reply.push_row.Given as goal

-- the text has the places so far
abbrev pub invariant-loop-eight : goal.invariant-loop-eight
invariant-loop-eight l = l.text.items ≡ l.fn.text.items ++ flat_map place_text (take (min (l.eight * 8) (length (lent_row l.row))) (lent_row l.row))
