use Rattle.std.proofs.Common.{◌≡◌, ◌≤◌, ◌++◌}
use Rattle.pf_trace.specs.Books.{chapter_text}
use Rattle.pf_trace.proofs.book.fill.Given as goal

-- what the text has and the places left are what there was
abbrev pub invariant-loop-at : goal.invariant-loop-at
invariant-loop-at g l = record {
  text : l.text.items ++ chapter_text (g.B.Book.places l.book l.chapter) (g.B.Book.place l.book l.chapter) l.at
      ≡ l.fn.text.items ++ chapter_text (g.B.Book.places l.book l.chapter) (g.B.Book.place l.book l.chapter) l.from;
  within : l.at ≤ g.B.Book.places l.book l.chapter;
}
