-- What a pass's command makes of the one history.
use Rattle.std.specs.Prelude.{ℕ, ◌≡◌, ◌≢◌, ◌+◌, List, [], ◌∷◌, ◌++◌, length}
use mathlib.Core.List.{IsPrefix}
use Rattle.pf_scenario.specs.System.{System}
use Rattle.pf_desk.specs.declared.command.Command.{Command}
use Rattle.pf_desk.specs.declared.entry.Entry.{Entry}
use Rattle.pf_desk.specs.Desk.{entry_of}
use Rattle.pf_desk.specs.History.{last_state}
use Rattle.pf_desk.specs.Machine.{reply_to}
use Rattle.pf_board.specs.Passes.{Passing, empty_loads}
use Rattle.pf_desk_board.specs.declared.done.Done.{Done}
use Rattle.pf_desk_board.specs.Histories.{IsHistory, entries_of}

-- the command of the pass was answered as the desk machine does after the history `before`, which begins with all that
-- the pass had seen, and its entry follows that history: the pass has seen it, and has it as its own
pub record Enters (settings : System) (command : Command) (v : Passing Entry System) (done : Done) (w : Passing Entry System) : Type 0 where
  pub before : List (ℕ × Entry)
  pub begins : IsPrefix v.seen before
  pub answer : done.reply ≡ reply_to (last_state settings (entries_of before)) command
  pub pass : w ≡ record v {
    seen = before ++ (v.me, entry_of v.me command done.reply) ∷ [];
    mine = v.mine ++ entry_of v.me command done.reply ∷ [];
  }
  pub is_legal : IsHistory settings w.seen
  pub front : done.front ≡ length w.seen

-- the pass, once the words of the processors below n were found empty for it
abbrev pub found_empty : ℕ → Passing Entry System → Passing Entry System
found_empty n v = record v { loads = v.loads ++ empty_loads n }

-- and then a quantum on processor n's: the pass lists the word
pub record FindsQuantum (n : ℕ) (v w : Passing Entry System) : Type 0 where
  pub word : ℕ
  pub some_word : word ≢ 0
  pub pass : w ≡ record v { loads = v.loads ++ (empty_loads n ++ (1 + n, word) ∷ []) }
