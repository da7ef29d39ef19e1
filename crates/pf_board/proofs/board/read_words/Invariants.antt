use Rattle.std.specs.Prelude.{◌≡◌, ◌+◌, ◌++◌, ◌≤◌, drop, vec_len}
use Rattle.std.specs.Vec.{vec_capacity}
use Rattle.std.specs.Mem.Slots.{slots_items}
use Rattle.pf_board.specs.Words.{on_words}
use Rattle.pf_board.proofs.board.read_words.Given as goal

abbrev pub invariant-loop-processor : goal.invariant-loop-processor
invariant-loop-processor l = record {
  read : l.left.items ++ on_words l.processor (drop (l.processor + 1) (slots_items l.fn.closed.words)) ≡ l.fn.left.items ++ on_words 0 (drop 1 (slots_items l.fn.closed.words));
  room : vec_len l.left ≤ vec_len l.fn.left + l.processor;
  capacity : vec_capacity l.left ≡ vec_capacity l.fn.left;
}
