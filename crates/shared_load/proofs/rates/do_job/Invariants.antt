use Rattle.shared_load.proofs.rates.do_job.Given as goal

-- the desk that was just opened
abbrev pub ghosts-use_shared : goal.ghosts-use_shared
ghosts-use_shared g a = record { board = a.blank.board; book = a.blank.book }
