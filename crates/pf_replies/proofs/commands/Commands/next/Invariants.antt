use Rattle.std.proofs.Common.{◌≡◌, ℕ, ◌++◌, length, replicate, suc, Option, None, Some}
use Rattle.pf_desk.specs.declared.command.Command.TheVariants.{Step}
use Rattle.pf_script.specs.Told.{LinesTold}
use Rattle.pf_replies.specs.CommandsRead.{line_commands, line_fault}
use Rattle.pf_replies.proofs.commands.Commands.next.Given as goal

-- what is left is what was left, and the lines are fewer
abbrev pub invariant-lines : goal.invariant-lines
invariant-lines l = record {
  commands : replicate l.self-inside.steps Step ++ line_commands l.self-inside.end l.self-inside.lines ≡ l.fn.self.commands;
  fault : line_fault l.self-inside.end l.self-inside.lines ≡ l.fn.self.fault;
}

-- the lines left, and one more where their end was not read
abbrev pub lines_to_read : Option (Option ℕ) → LinesTold → ℕ
lines_to_read None told = suc (length told.lines)
lines_to_read (Some end) told = 0

abbrev pub decreases-lines : goal.decreases-lines
decreases-lines l = lines_to_read l.self-inside.end l.self-inside.lines
