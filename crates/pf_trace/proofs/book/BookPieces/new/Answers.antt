use Rattle.std.proofs.Common.{sym}
use Rattle.pf_trace.proofs.Chapters.{from_chapter}
use Rattle.pf_trace.proofs.book.BookPieces.new.Goals as goal

pub returns : goal.returns
returns g c = sym (from_chapter (g.B.Book.chapters c.args.book) (g.B.Book.places c.args.book) (g.B.Book.place c.args.book) 0)
