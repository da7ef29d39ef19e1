-- A desk that is opened again by its script.
use Rattle.std.proofs.Common.{◌≡◌, ℕ, zero, suc, ◌+◌, ◌<◌, ◌≤◌, ◌==◌, false, List, [], ◌∷◌, ◌++◌, map, All, None, refl, sym, ap, ap₂, subst, ◌∙◌, arith}
use Rattle.std.specs.Prelude.{⊤, replicate, Option}
use Rattle.std.proofs.lemmas.Bool.Decides.{nat_tests}
use Rattle.std.proofs.lemmas.List.Elements.{All-nil, All-cons}
use Rattle.pf_scenario.specs.Scenario.{Plan, plan_after, opening_plan}
use Rattle.pf_scenario.specs.Edit.{IsScenario, edit_fault}
use Rattle.pf_scenario.specs.declared.fault.EditFault.{EditFault}
use Rattle.pf_scenario.specs.declared.event.Numbered.{Numbered}
use Rattle.pf_scenario.specs.declared.change.Change.{Change}
use Rattle.pf_scenario.specs.declared.change.Change.TheVariants.{Insert}
use Rattle.pf_run.specs.RunRows.{rows_in, denials_in}
use Rattle.pf_run.specs.Computed.{run_of}
use Rattle.pf_tally.specs.Lags.{lags_of}
use Rattle.pf_tally.specs.Misses.{misses_of}
use Rattle.pf_desk.specs.declared.entry.Entry.{Entry}
use Rattle.pf_desk.specs.declared.command.Command.{Command}
use Rattle.pf_desk.specs.declared.command.Command.TheVariants.{Edit, Step}
use Rattle.pf_desk.specs.declared.reply.Reply.{Reply}
use Rattle.pf_desk.specs.declared.reply.Reply.TheVariants.{Edited, Stepped, Refused}
use Rattle.pf_desk.specs.Machine.{State, opening_state, reply_to, edit_reply, step_reply, next_state, state_after}
use Rattle.pf_desk.specs.History.{IsLegalFrom, IsLegal, state_behind, last_state}
use Rattle.pf_desk.specs.Desk.{Shown, IsDesk, entry_of}
use Rattle.pf_script_laws.specs.Reopening.Taken.{inserted, AreTaken, events_held, renumbered}
use Rattle.pf_script_laws.specs.Reopening.Renumbered.{denied_under, new_number}
use Rattle.pf_script_laws.specs.Reopening.Whole.{script_commands, IsTaken, CommandsReopenDesks, DesksCanBeReopened}
use Rattle.pf_script_laws.proofs.ReopeningLemmas.Taken.{events_are_taken_again}
use Rattle.pf_script_laws.proofs.ReopeningLemmas.Anew.{numbers_change_no_run, events_are_numbered_anew}

-- the machine takes each of these commands, one after another
abbrev pub TakesAll : State → List Command → Type 0
TakesAll st [] = ⊤
TakesAll st (c ∷ cs) = IsTaken (reply_to st c) × TakesAll (next_state st c) cs

-- and is then in this state
abbrev pub behind_all : State → List Command → State
behind_all st [] = st
behind_all st (c ∷ cs) = behind_all (next_state st c) cs

pub taken_next : (st : State) (c : Command) (reply : Reply) → IsTaken reply → state_after st c reply ≡ next_state st c
taken_next st c (Edited id) taken = refl
taken_next st c (Stepped slot row) taken = refl
taken_next st c (Refused fault) taken = absurd taken

-- of a legal history of such commands none was refused
pub record TookAll (st : State) (cs : List Command) (es : List Entry) : Type 0 where
  pub taken : All (λ e. IsTaken e.reply) es
  pub last : state_behind st es ≡ behind_all st cs

took_all : (es : List Entry) (st : State) (cs : List Command) → map (λ e. e.command) es ≡ cs → IsLegalFrom st es → TakesAll st cs → TookAll st cs es
took_all [] st [] is legal takes = record { taken = All-nil (λ (e : Entry). IsTaken e.reply); last = refl }
took_all [] st (c ∷ cs) is legal takes = absurd (cc)
took_all (e ∷ es) st [] is legal takes = absurd (cc)
took_all (e ∷ es) st (c ∷ cs) is legal takes =
    let first : e.command ≡ c = cc in
    let rest : map (λ e. e.command) es ≡ cs = cc in
    let reply : e.reply ≡ reply_to st c = legal.0 ∙ ap (reply_to st) first in
    let taken : IsTaken e.reply = subst IsTaken (sym reply) takes.0 in
    let next : state_after st e.command e.reply ≡ next_state st c = taken_next st e.command e.reply taken ∙ ap (next_state st) first in
    let more = took_all es (next_state st c) cs rest (subst (λ at. IsLegalFrom at es) next legal.1) takes.1 in
    record {
      taken = All-cons (λ (e : Entry). IsTaken e.reply) e es taken more.taken;
      last = ap (λ at. state_behind at es) next ∙ more.last;
    }

-- the inserts are taken, and then the steps
abbrev at : Plan → ℕ → State
at plan now = record { plan = plan; now = now }

edit_taken : (st : State) (change : Change) (fault : Option EditFault) → fault ≡ None → IsTaken (edit_reply st change false fault)
edit_taken st change fault none = subst (λ f. IsTaken (edit_reply st change false f)) (sym none) tt

step_taken : (plan : Plan) (now : ℕ) → now < plan.settings.horizon → IsTaken (step_reply (at plan now))
step_taken plan now below =
    let test : (now == plan.settings.horizon) ≡ false = grind (arith, nat_tests, below) in
    rw test tt

inserts_taken : (xs : List Numbered) (plan : Plan) (now : ℕ) (cs : List Command) → AreTaken plan (events_held xs)
    → TakesAll (at (inserted plan (events_held xs)) now) cs → TakesAll (at plan now) (map (λ x. Edit (Insert x.event) false) xs ++ cs)
inserts_taken [] plan now cs taken more = more
inserts_taken (x ∷ xs) plan now cs taken more = (
  edit_taken (at plan now) (Insert x.event) (edit_fault plan (Insert x.event)) taken.0,
  inserts_taken xs (plan_after plan (Insert x.event)) now cs taken.1 more,
)

inserts_behind : (xs : List Numbered) (plan : Plan) (now : ℕ) (cs : List Command)
    → behind_all (at plan now) (map (λ x. Edit (Insert x.event) false) xs ++ cs) ≡ behind_all (at (inserted plan (events_held xs)) now) cs
inserts_behind [] plan now cs = refl
inserts_behind (x ∷ xs) plan now cs = inserts_behind xs (plan_after plan (Insert x.event)) now cs

steps_taken : (n : ℕ) (plan : Plan) (now : ℕ) → now + n ≤ plan.settings.horizon → TakesAll (at plan now) (replicate n Step)
steps_taken zero plan now within = tt
steps_taken (suc n) plan now within = (
  step_taken plan now (omega arith),
  steps_taken n plan (now + 1) (omega arith),
)

steps_behind : (n : ℕ) (plan : Plan) (now : ℕ) → behind_all (at plan now) (replicate n Step) ≡ at plan (now + n)
steps_behind zero plan now = ap (at plan) (let none : now ≡ now + 0 = omega arith in none)
steps_behind (suc n) plan now =
    steps_behind n plan (now + 1) ∙ ap (at plan) (let same : now + 1 + n ≡ now + suc n = omega arith in same)

-- Use: the machine takes all that a script asks for, and then has the events numbered anew.
module _ (s : Plan) (n : ℕ) (scenario : IsScenario s) where
  abbrev all_inserted : Plan
  all_inserted = inserted (opening_plan s.settings) (events_held s.events)

  pub script_taken : n ≤ s.settings.horizon → TakesAll (opening_state s.settings) (script_commands (at s n))
  script_taken within =
      let again = events_are_taken_again s scenario in
      inserts_taken s.events (opening_plan s.settings) 0 (replicate n Step) again.0
      (steps_taken n all_inserted 0 (subst (λ (plan : Plan). 0 + n ≤ plan.settings.horizon) (sym again.1) (omega (arith, within))))

  pub script_behind : behind_all (opening_state s.settings) (script_commands (at s n)) ≡ at (renumbered s) n
  script_behind =
      inserts_behind s.events (opening_plan s.settings) 0 (replicate n Step)
      ∙ steps_behind n all_inserted 0
      ∙ ap₂ at (events_are_taken_again s scenario).1 (let none : 0 + n ≡ n = omega arith in none)

-- a history of the commands of a desk's script: none was refused, and the last state is the desk's, with its events
-- numbered anew
pub record Reopens (d : Shown) (es : List Entry) : Type 0 where
  pub taken : All (λ e. IsTaken e.reply) es
  pub last : last_state d.state.plan.settings es ≡ at (renumbered d.state.plan) d.state.now

reopened : (d : Shown) (es : List Entry) → IsDesk d → IsLegal d.state.plan.settings es → map (λ e. e.command) es ≡ script_commands d.state
    → Reopens d es
reopened d es of_d legal commands =
    let s = d.state.plan in
    let n = d.state.now in
    let took = took_all es (opening_state s.settings) (script_commands d.state) commands legal
    (script_taken s n of_d.of_run.scenario of_d.of_run.within) in
    record { taken = took.taken; last = took.last ∙ script_behind s n of_d.of_run.scenario }

-- Use: the desk that answered them shows the same but for the numbers.
pub commands_reopen_desks : CommandsReopenDesks
commands_reopen_desks d q of_d of_q settings commands =
    let s = d.state.plan in
    let n = d.state.now in
    let scenario = of_d.of_run.scenario in
    let anew = events_are_numbered_anew s scenario in
    let same = numbers_change_no_run (new_number s.events) n s (renumbered s) scenario anew.scenario anew.events in
    let legal = subst (λ settings. IsLegal settings q.history) settings of_q.legal in
    let again = reopened d q.history of_d legal commands in
    let state : q.state ≡ at (renumbered s) n = sym of_q.last ∙ ap (λ at. last_state at q.history) settings ∙ again.last in
    record {
      taken = again.taken;
      state = state;
      rows = of_q.of_run.are_rows ∙ ap (λ at. rows_in at.plan at.now) state ∙ same.rows ∙ sym of_d.of_run.are_rows;
      denials = of_q.of_run.are_denials ∙ ap (λ at. denials_in at.plan at.now) state ∙ same.denials
          ∙ ap (map (denied_under (new_number s.events))) (sym of_d.of_run.are_denials);
      lags = ap (λ at. lags_of at.plan (run_of at.plan at.now)) state ∙ same.lags;
      misses = ap (λ at. misses_of at.plan (run_of at.plan at.now)) state ∙ same.misses;
    }

-- what the machine enters as it answers these commands
abbrev entries_of : State → List Command → List Entry
entries_of st [] = []
entries_of st (c ∷ cs) = entry_of 0 c (reply_to st c) ∷ entries_of (state_after st c (reply_to st c)) cs

entries_legal : (st : State) (cs : List Command) → IsLegalFrom st (entries_of st cs)
entries_legal st [] = tt
entries_legal st (c ∷ cs) = (refl, entries_legal (state_after st c (reply_to st c)) cs)

entries_commands : (st : State) (cs : List Command) → map (λ e. e.command) (entries_of st cs) ≡ cs
entries_commands st [] = refl
entries_commands st (c ∷ cs) = ap (λ ds. c ∷ ds) (entries_commands (state_after st c (reply_to st c)) cs)

pub desks_can_be_reopened : DesksCanBeReopened
desks_can_be_reopened d of_d =
    let s = d.state.plan in
    let n = d.state.now in
    let q = renumbered s in
    let history = entries_of (opening_state s.settings) (script_commands d.state) in
    let legal = entries_legal (opening_state s.settings) (script_commands d.state) in
    let commands = entries_commands (opening_state s.settings) (script_commands d.state) in
    record {
      desk = record { state = at q n; rows = rows_in q n; denials = denials_in q n; history = history; every = d.every; spare = 0 };
      is_desk = record {
        legal = legal;
        last = (reopened d history of_d legal commands).last;
        of_run = record {
          scenario = (events_are_numbered_anew s of_d.of_run.scenario).scenario;
          within = of_d.of_run.within;
          are_rows = refl;
          are_denials = refl;
        };
      };
      settings = refl;
      commands = commands;
    }
