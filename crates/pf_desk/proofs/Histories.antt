-- Histories with more entries.
use Rattle.std.proofs.Common.{◌≡◌, List, [], ◌∷◌, ◌++◌, refl, ◌∙◌}
use Rattle.pf_scenario.specs.Scenario.{Plan, plan_after}
use Rattle.pf_scenario.specs.declared.change.Change.{Change}
use Rattle.pf_scenario.specs.declared.change.Change.TheVariants.{Insert, Alter, Strike}
use Rattle.pf_desk.specs.declared.command.Command.{Command}
use Rattle.pf_desk.specs.declared.command.Command.TheVariants.{Edit, Step}
use Rattle.pf_desk.specs.declared.reply.Reply.{Reply}
use Rattle.pf_desk.specs.declared.reply.Reply.TheVariants.{Edited, Stepped, Refused}
use Rattle.pf_desk.specs.declared.entry.Entry.{Entry}
use Rattle.pf_desk.specs.Machine.{State, state_after}
use Rattle.pf_desk.specs.History.{IsLegalFrom, state_behind}

-- a legal history and more legal entries from its last state on are a legal history
pub legal_append : (st : State) (es fs : List Entry) → IsLegalFrom st es → IsLegalFrom (state_behind st es) fs → IsLegalFrom st (es ++ fs)
legal_append st [] fs legal more = more
legal_append st (e ∷ es) fs legal more = (legal.0, legal_append (state_after st e.command e.reply) es fs legal.1 more)

pub behind_append : (st : State) (es fs : List Entry) → state_behind st (es ++ fs) ≡ state_behind (state_behind st es) fs
behind_append st [] fs = refl
behind_append st (e ∷ es) fs = behind_append (state_after st e.command e.reply) es fs

-- no command changes the settings
pub settings_changed : (s : Plan) (c : Change) → (plan_after s c).settings ≡ s.settings
settings_changed s (Insert event) = refl
settings_changed s (Alter id event) = refl
settings_changed s (Strike id) = refl

pub settings_after : (st : State) (c : Command) (r : Reply) → (state_after st c r).plan.settings ≡ st.plan.settings
settings_after st c (Refused fault) = refl
settings_after st Step (Edited id) = refl
settings_after st Step (Stepped slot row) = refl
settings_after st (Edit change strict) (Edited id) = settings_changed st.plan change
settings_after st (Edit change strict) (Stepped slot row) = settings_changed st.plan change

pub settings_behind : (st : State) (es : List Entry) → (state_behind st es).plan.settings ≡ st.plan.settings
settings_behind st [] = refl
settings_behind st (e ∷ es) = settings_behind (state_after st e.command e.reply) es ∙ settings_after st e.command e.reply
