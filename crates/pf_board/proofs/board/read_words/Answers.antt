use Rattle.std.proofs.Common.{◌++◌, drop, ◌∙◌, arith}
use Rattle.std.specs.Mem.Slots.{slots_items}
use Rattle.pf_board.specs.Words.{on_words}
use Rattle.pf_board.proofs.Reading.{read_some, read_none}
use Rattle.pf_board.proofs.board.read_words.Goals.{in-Some, in_default}
use Rattle.pf_board.proofs.board.read_words.Goals as goal

pub loop-processor-preserved : goal.loop-processor-preserved
loop-processor-preserved c =
    let i = c.loop-processor.invariant in
    let p = c.loop-processor.processor in
    let words = slots_items c.args.closed.now.words in
    let sum = c.args.left.now.items ++ on_words 0 (drop 1 words) in
    let n = c.word.result in
    elim c.match-decode.branch [
      | in-Some w ↦ rw w.left-is (record {
        read = read_some words p n w.in-Some.quantum c.loop-processor.left.items w.push_reserved.new.self.items sum c.word.ensures w.in-Some.ensures.0 w.in-Some.ensures.1 w.push_reserved.ensures.items i.read;
        room = omega (arith, i.room, w.push_reserved.ensures.len);
        capacity = w.push_reserved.ensures.capacity ∙ i.capacity;
      })
      | in_default w ↦ rw w.left-is (record {
        read = read_none words p n c.loop-processor.left.items sum c.word.ensures w.in_default.ensures i.read;
        room = omega (arith, i.room);
        capacity = i.capacity;
      })
    ]
