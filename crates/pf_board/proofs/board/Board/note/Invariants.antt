use Rattle.std.specs.Prelude.{[], ◌∷◌}
use Rattle.pf_board.proofs.board.Board.note.Given as goal

-- the entry that is noted
abbrev pub ghosts-note_as : goal.ghosts-note_as
ghosts-note_as g a = record { entry = a.entry.now ∷ [] }
