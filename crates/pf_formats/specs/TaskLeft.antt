-- The text that pieces of some tasks have left.
use Rattle.std.specs.Prelude.{ℕ, List}
use Rattle.pf_formats.specs.Left.{text_left}
use Rattle.pf_formats.specs.declared.task_pieces.TaskPieces.{TaskPieces}
use Rattle.pf_formats.specs.declared.task_pieces.TaskPieces.TheVariants.{Made, Listed}

abbrev pub task_text_left : TaskPieces → List ℕ
task_text_left (Made pieces) = text_left pieces
task_text_left (Listed pieces) = pieces
