-- What a desk keeps, from its opening on and through one entry more.
use Rattle.std.proofs.Common.{◌≡◌, ℕ, List, [], ◌∷◌, ◌++◌, inl, refl, sym, ap, ◌∙◌, subst, le_refl}
use Rattle.std.proofs.lemmas.List.{nil_from_length}
use Rattle.pf_scenario.specs.System.{System}
use Rattle.pf_scenario.specs.Scenario.{Plan, opening_plan}
use Rattle.pf_run.specs.RunRows.{rows_in, denials_in}
use Rattle.pf_timeline.specs.Timeline.{KeptRun, StandsFor}
use Rattle.pf_timeline.proofs.Grown.{no_denials, row_each}
use Rattle.pf_timeline.proofs.Past.{stands_now}
use Rattle.pf_desk.specs.declared.command.Command.{Command}
use Rattle.pf_desk.specs.declared.reply.Reply.{Reply}
use Rattle.pf_desk.specs.declared.reply.Reply.TheVariants.{Edited, Stepped, Refused}
use Rattle.pf_desk.specs.declared.entry.Entry.{Entry}
use Rattle.pf_desk.specs.declared.scenario_run.ScenarioRun.{ScenarioRun}
use Rattle.pf_desk.specs.Machine.{State, opening_state, reply_to, state_after}
use Rattle.pf_desk.specs.History.{IsLegal, IsLegalFrom, state_behind, last_state}
use Rattle.pf_desk.specs.Desk.{IsDesk, IsAsBefore, AnswersCaller, LeavesRest}
use Rattle.pf_desk.specs.Recorded.{Recorded, entered_in, HasNoLessRoom}
use Rattle.pf_desk.specs.Kept.{shown_by, IsKeptDesk, ArePartsOfDesk}
use Rattle.pf_desk.specs.Applied.{Stands, IsApplied, state_in}
use Rattle.pf_desk.proofs.Histories.{legal_append, behind_append, settings_after}

-- at the opening
pub opening_kept : (settings : System) (kept : KeptRun) → StandsFor (opening_plan settings) 0 kept → kept.near ≡ 0 →
    IsKeptDesk (opening_plan settings) kept []
opening_kept settings kept stands near = record {
  stands = stands_now (opening_plan settings) 0 kept stands;
  near = inl near;
  legal = tt;
  last = ap (λ n. record { plan = opening_plan settings; now = n }) (sym stands.slots);
}

pub opening_shown : (settings : System) (kept : KeptRun) (every spare : ℕ) → kept.every ≡ every → StandsFor (opening_plan settings) 0 kept →
    shown_by (opening_plan settings) kept [] spare ≡
    record { state = opening_state settings; rows = []; denials = []; history = []; every = every; spare = spare }
opening_shown settings kept every spare same stands =
    let rows = nil_from_length kept.rows (row_each (opening_plan settings) 0 kept.rows kept.denials stands.of_run) in
    let denials = stands.of_run.are_denials ∙ no_denials (opening_plan settings) in
    λ i. record {
      state = record { plan = opening_plan settings; now = stands.slots i };
      rows = rows i;
      denials = denials i;
      history = [];
      every = same i;
      spare = spare;
    }

-- Use: what a desk keeps stands.
pub run_stands : (r : ScenarioRun) (es : List Entry) → IsKeptDesk r.scenario r.timeline es → Stands r
run_stands r es is = record { run = is.stands; near = is.near }

-- what is kept makes a desk
pub is_desk : (plan : Plan) (kept : KeptRun) (es : List Entry) (spare : ℕ) → IsKeptDesk plan kept es → IsDesk (shown_by plan kept es spare)
is_desk plan kept es spare is = record { legal = is.legal; last = is.last; of_run = is.stands.of_run }

-- Use: with no less room the parts stay.
pub parts_roomier : (plan : Plan) (kept : KeptRun) (h h' : Recorded) → ArePartsOfDesk plan kept h → HasNoLessRoom h h' →
    ArePartsOfDesk plan kept h'
parts_roomier plan kept h h' is more =
    subst (ArePartsOfDesk plan kept) (sym more.rest) (record { keeps = is.keeps; processors = is.processors })

pub as_before : (plan : Plan) (kept : KeptRun) (h h' : Recorded) → HasNoLessRoom h h' →
    IsAsBefore (shown_by plan kept h.entries h.spare) (shown_by plan kept h'.entries h'.spare)
as_before plan kept h h' more =
    record { rest = ap (λ (k : Recorded). shown_by plan kept k.entries h'.spare) more.rest; room = more.room }

-- no command changes the settings
settings_applied : (r r' : ScenarioRun) (command : Command) (reply : Reply) → IsApplied command r reply r' →
    r'.scenario.settings ≡ r.scenario.settings
settings_applied r r' command reply applied =
    ap (λ st. st.plan.settings) applied.state ∙ settings_after (state_in r) command reply

-- what is kept once a command was applied and entered
pub kept_entered : (r r' : ScenarioRun) (es : List Entry) (e : Entry) → IsKeptDesk r.scenario r.timeline es →
    IsApplied e.command r e.reply r' → IsKeptDesk r'.scenario r'.timeline (es ++ e ∷ [])
kept_entered r r' es e is applied =
    let settings : r'.scenario.settings ≡ r.scenario.settings = settings_applied r r' e.command e.reply applied in
    let opened = opening_state r.scenario.settings in
    record {
      stands = applied.stands.run;
      near = applied.stands.near;
      legal = subst (λ system. IsLegal system (es ++ e ∷ [])) (sym settings)
          (legal_append opened es (e ∷ []) is.legal (applied.answer ∙ ap (λ st. reply_to st e.command) (sym is.last), tt));
      last = ap (λ system. last_state system (es ++ e ∷ [])) settings
          ∙ behind_append opened es (e ∷ [])
          ∙ ap (λ st. state_after st e.command e.reply) is.last
          ∙ sym applied.state;
    }

-- the last reply of a legal history is the machine's
legal_last : (st : State) (es : List Entry) (e : Entry) → IsLegalFrom st (es ++ e ∷ []) → e.reply ≡ reply_to (state_behind st es) e.command
legal_last st [] e legal = legal.0
legal_last st (x ∷ es) e legal = legal_last (state_after st x.command x.reply) es e legal.1

-- the parts of a desk before and after one entry more
pub record Commits (r r' : ScenarioRun) (es : List Entry) (e : Entry) : Type 0 where
  pub is : IsKeptDesk r.scenario r.timeline es
  pub after : IsKeptDesk r'.scenario r'.timeline (es ++ e ∷ [])
  pub settings : r'.scenario.settings ≡ r.scenario.settings
  pub every : r'.timeline.every ≡ r.timeline.every

-- Use: those of a command that was applied.
pub applied_commits : (r r' : ScenarioRun) (es : List Entry) (e : Entry) → IsKeptDesk r.scenario r.timeline es →
    IsApplied e.command r e.reply r' → Commits r r' es e
applied_commits r r' es e is applied = record {
  is = is;
  after = kept_entered r r' es e is applied;
  settings = settings_applied r r' e.command e.reply applied;
  every = applied.every;
}

module _ (r r' : ScenarioRun) (es : List Entry) (e : Entry) (commits : Commits r r' es e) where
  state_then : state_behind (opening_state r'.scenario.settings) es ≡ state_in r
  state_then = ap (λ system. last_state system es) commits.settings ∙ commits.is.last

  -- Use: the machine's reply.
  pub commit_reply : e.reply ≡ reply_to (state_in r) e.command
  commit_reply =
      legal_last (opening_state r'.scenario.settings) es e commits.after.legal ∙ ap (λ st. reply_to st e.command) state_then

  commit_state : state_in r' ≡ state_after (state_in r) e.command e.reply
  commit_state =
      sym commits.after.last
      ∙ behind_append (opening_state r'.scenario.settings) es (e ∷ [])
      ∙ ap (λ st. state_after st e.command e.reply) state_then

  -- Use: the machine answers so.
  pub commit_answers : (spare spare' : ℕ) →
      AnswersCaller e.caller e.command (shown_by r.scenario r.timeline es spare) e.reply (shown_by r'.scenario r'.timeline (es ++ e ∷ []) spare')
  commit_answers spare spare' = record { answer = commit_reply; entered = refl; state = commit_state; every = commits.every }

  -- Use: a refusal leaves the rest.
  pub commit_rest : (spare spare' : ℕ) (reply : Reply) → reply ≡ e.reply →
      LeavesRest reply (shown_by r.scenario r.timeline es spare) (shown_by r'.scenario r'.timeline (es ++ e ∷ []) spare')
  commit_rest spare spare' (Edited id) same = tt
  commit_rest spare spare' (Stepped slot row) same = tt
  commit_rest spare spare' (Refused fault) same =
      let state : state_in r' ≡ state_in r = commit_state ∙ ap (state_after (state_in r) e.command) (sym same) in
      let rows : r'.timeline.rows ≡ r.timeline.rows =
      commits.after.stands.of_run.are_rows ∙ ap (λ st. rows_in st.plan st.now) state ∙ sym commits.is.stands.of_run.are_rows in
      let denials : r'.timeline.denials ≡ r.timeline.denials =
      commits.after.stands.of_run.are_denials ∙ ap (λ st. denials_in st.plan st.now) state ∙ sym commits.is.stands.of_run.are_denials in
      λ i. record {
        state = state i;
        rows = rows i;
        denials = denials i;
        history = es ++ e ∷ [];
        every = commits.every i;
        spare = spare';
      }

-- Use: one entry more, for which there was room.
pub entries_then : (h h' h'' : Recorded) (e : Entry) → HasNoLessRoom h h' → h'' ≡ entered_in h' e → h''.entries ≡ h.entries ++ e ∷ []
entries_then h h' h'' e more entered =
    ap (λ (k : Recorded). k.entries) entered ∙ ap (λ (k : Recorded). k.entries ++ e ∷ []) more.rest

-- Use: the parts with that entry.
pub commit_parts : (r r' : ScenarioRun) (h h' h'' : Recorded) (e : Entry) → Commits r r' h.entries e →
    h.processors ≡ r.scenario.settings.processors → HasNoLessRoom h h' → h'' ≡ entered_in h' e → ArePartsOfDesk r'.scenario r'.timeline h''
commit_parts r r' h h' h'' e commits processors more entered = record {
  keeps = subst (IsKeptDesk r'.scenario r'.timeline) (sym (entries_then h h' h'' e more entered)) commits.after;
  processors = ap (λ (k : Recorded). k.processors) entered
      ∙ ap (λ (k : Recorded). k.processors) more.rest
      ∙ processors
      ∙ sym (ap (λ system. system.processors) commits.settings);
}

-- Use: where no room was made.
pub same_room : (h : Recorded) → HasNoLessRoom h h
same_room h = record { rest = refl; room = le_refl h.spare }
