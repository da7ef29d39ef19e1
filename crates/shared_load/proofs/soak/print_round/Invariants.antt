use Rattle.shared_load.proofs.soak.print_round.Given as goal

-- the desk that was just opened
abbrev pub ghosts-check_round : goal.ghosts-check_round
ghosts-check_round g a = record { board = a.blank.board; book = a.blank.book }
