use Rattle.std.proofs.Common.{◌≡◌, ◌++◌}
use Rattle.pf_trace.specs.Books.{IsWithinChapter, text_behind}
use Rattle.pf_trace.proofs.book.BookPiecesPieces.next_piece.Given as goal

-- what the text has and the places left are what there was
abbrev pub invariant-loop-next : goal.invariant-loop-next
invariant-loop-next g l = record {
  text : l.text.items
      ++ text_behind (g.B.Book.chapters l.self-inside.book) (g.B.Book.places l.self-inside.book) (g.B.Book.place l.self-inside.book) l.next l.from
      ≡ l.fn.self;
  count : l.count ≡ g.B.Book.chapters l.self-inside.book;
  kept : IsWithinChapter (g.B.Book.chapters l.self-inside.book) (g.B.Book.places l.self-inside.book) l.self-inside.next l.self-inside.at;
  within : IsWithinChapter (g.B.Book.chapters l.self-inside.book) (g.B.Book.places l.self-inside.book) l.next l.from;
}
