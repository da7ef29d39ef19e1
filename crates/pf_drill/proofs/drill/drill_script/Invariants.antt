use Rattle.pf_drill.proofs.drill.drill_script.Given as goal

-- the desk that was just opened
abbrev pub ghosts-drill_lines : goal.ghosts-drill_lines
ghosts-drill_lines g a = record { board = a.blank.board; book = a.blank.book }
