use Rattle.thread_tests.proofs.planners.two_planners.Given as goal

-- the desk that was just opened
abbrev pub ghosts-use_desk : goal.ghosts-use_desk
ghosts-use_desk g a = record { board = a.blank.board; book = a.blank.book }
