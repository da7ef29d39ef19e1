-- The text that pieces of a report have left.
use Rattle.std.specs.Prelude.{ℕ, List}
use Rattle.pf_formats.specs.declared.document_pieces.DocumentPieces.{DocumentPieces}
use Rattle.pf_formats.specs.declared.document_pieces.DocumentPieces.TheVariants.{Json, Full, Trace, Code}
use Rattle.pf_formats.specs.declared.drawing_pieces.DrawingPieces.{DrawingPieces}
use Rattle.pf_formats.specs.declared.drawing_pieces.DrawingPieces.TheVariants.{Chart, Picture}
use Rattle.pf_formats.specs.declared.report_pieces.ReportPieces.{ReportPieces}
use Rattle.pf_formats.specs.declared.report_pieces.ReportPieces.TheVariants.{Whole, Table, Drawing, Document}
use Rattle.pf_formats.specs.declared.table_pieces.TablePieces.{TablePieces}
use Rattle.pf_formats.specs.declared.table_pieces.TablePieces.TheVariants.{Schedule, Four, Misses, Quanta, Load, Windows, Jobs}

abbrev pub table_left : TablePieces → List ℕ
table_left (Schedule pieces) = pieces
table_left (Four pieces) = pieces
table_left (Misses pieces) = pieces
table_left (Quanta pieces) = pieces
table_left (Load pieces) = pieces
table_left (Windows pieces) = pieces
table_left (Jobs pieces) = pieces

abbrev pub drawing_left : DrawingPieces → List ℕ
drawing_left (Chart pieces) = pieces
drawing_left (Picture pieces) = pieces

abbrev pub document_left : DocumentPieces → List ℕ
document_left (Json pieces) = pieces
document_left (Full pieces) = pieces
document_left (Trace pieces) = pieces
document_left (Code pieces) = pieces

abbrev pub text_left : ReportPieces → List ℕ
text_left (Whole pieces) = pieces
text_left (Table pieces) = table_left pieces
text_left (Drawing pieces) = drawing_left pieces
text_left (Document pieces) = document_left pieces
