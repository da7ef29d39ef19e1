use Rattle.std.proofs.Common.{◌<◌, ◌+◌, sym, arith}
use Rattle.pf_trace.proofs.Chapters.{at_start, left_at, passed_to}
use Rattle.pf_trace.proofs.book.BookPiecesPieces.next_piece.Goals as goal

pub fill-requires-clause-among : goal.fill-requires-clause-among
fill-requires-clause-among g c = omega (arith, c.loop-next-test.true, c.loop-next.invariant.count)

pub fill-requires-clause-within : goal.fill-requires-clause-within
fill-requires-clause-within g c = c.loop-next.invariant.within.place (omega (arith, c.loop-next-test.true, c.loop-next.invariant.count))

pub places-requires : goal.places-requires
places-requires g c = omega (arith, c.loop-next-test.true, c.loop-next.invariant.count)

pub returns-then-to-places-clause-text : goal.returns-then-to-places-clause-text
returns-then-to-places-clause-text g c =
    let book = c.loop-next.self-inside.book in
    let next = c.loop-next.next in
    let filled = c.in_ok-to.ensures in (
      sym (left_at (g.B.Book.chapters book) (g.B.Book.places book) (g.B.Book.place book) next c.loop-next.from c.in_ok-to.to c.loop-next.text.items _ _
          (omega (arith, c.loop-next-test.true, c.loop-next.invariant.count)) filled c.loop-next.invariant.text),
      filled.some (omega (arith, c.if-to-places.true, c.places.ensures)),
    )

pub loop-next-preserved : goal.loop-next-preserved
loop-next-preserved g c =
    let book = c.loop-next.self-inside.book in
    let next = c.loop-next.next in
    let filled = c.in_ok-to.ensures in
    let within : next < g.B.Book.chapters book = omega (arith, c.loop-next-test.true, c.loop-next.invariant.count) in
    record {
      text = passed_to (g.B.Book.chapters book) (g.B.Book.places book) (g.B.Book.place book) next c.loop-next.from c.in_ok-to.to c.loop-next.text.items _ _
          within filled c.loop-next.invariant.text (omega (arith, c.if-to-places.false, c.places.ensures));
      count = c.loop-next.invariant.count;
      kept = c.loop-next.invariant.kept;
      within = at_start (g.B.Book.chapters book) (g.B.Book.places book) (g.B.Book.place book) (next + 1) (omega (arith, within));
    }
