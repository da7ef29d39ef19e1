-- Legal histories: each reply is that of the desk machine at its point.
use Rattle.std.specs.Prelude.{◌≡◌, ⊤, List, [], ◌∷◌}
use Rattle.pf_scenario.specs.System.{System}
use Rattle.pf_desk.specs.declared.entry.Entry.{Entry}
use Rattle.pf_desk.specs.Machine.{State, opening_state, reply_to, state_after}

-- the replies are those of the machine from this state
abbrev pub IsLegalFrom : State → List Entry → Type 0
IsLegalFrom st [] = ⊤
IsLegalFrom st (e ∷ es) = (e.reply ≡ reply_to st e.command) × IsLegalFrom (state_after st e.command e.reply) es

-- the state after these entries
abbrev pub state_behind : State → List Entry → State
state_behind st [] = st
state_behind st (e ∷ es) = state_behind (state_after st e.command e.reply) es

-- the history is legal: from the opening state on each reply is the machine's
abbrev pub IsLegal : System → List Entry → Type 0
IsLegal settings history = IsLegalFrom (opening_state settings) history

-- its last state
abbrev pub last_state : System → List Entry → State
last_state settings history = state_behind (opening_state settings) history
