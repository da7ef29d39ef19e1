use Rattle.shared_first.proofs.main.Given as goal

-- the desk that was just opened
abbrev pub ghosts-run : goal.ghosts-run
ghosts-run g a = record { board = a.blank.board; book = a.blank.book }
