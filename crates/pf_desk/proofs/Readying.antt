-- A command made ready, and what a desk shows.
use Rattle.std.proofs.Common.{◌≡◌, ℕ, List, ◌∷◌, [], ◌++◌, refl, ap, ◌∙◌, subst}
use Rattle.pf_scenario.specs.Scenario.{Plan}
use Rattle.pf_timeline.specs.Timeline.{KeptRun}
use Rattle.pf_desk.specs.declared.command.Command.{Command}
use Rattle.pf_desk.specs.declared.reply.Reply.{Reply}
use Rattle.pf_desk.specs.declared.entry.Entry.{Entry}
use Rattle.pf_desk.specs.declared.scenario_run.ScenarioRun.{ScenarioRun}
use Rattle.pf_desk.specs.Machine.{state_after}
use Rattle.pf_desk.specs.Desk.{Shown, Ready, StandsForHistory, IsAsBefore, MakesReady, entry_of, seen_of}
use Rattle.pf_desk.specs.Kept.{shown_by, IsKeptDesk, ready_by}
use Rattle.pf_desk.specs.Applied.{state_in, IsApplied}
use Rattle.pf_desk.proofs.Entering.{applied_commits}

-- Use: a desk's snapshot stands for its history.
pub snapshot_stands : (plan : Plan) (kept : KeptRun) (es : List Entry) (spare : ℕ) → IsKeptDesk plan kept es →
    StandsForHistory es (seen_of (shown_by plan kept es spare))
snapshot_stands plan kept es spare is = record { legal = is.legal; last = is.last; version = refl; of_run = is.stands.of_run }

-- Use: a command that was applied to the desk's scenario with its run, made ready.
pub makes_ready : (r r' : ScenarioRun) (es : List Entry) (spare caller : ℕ) (command : Command) (reply : Reply) → IsKeptDesk r.scenario r.timeline es →
    IsApplied command r reply r' →
    MakesReady caller command (shown_by r.scenario r.timeline es spare)
    (ready_by r'.scenario r'.timeline es (entry_of caller command reply) (seen_of (shown_by r'.scenario r'.timeline (es ++ entry_of caller command reply ∷ []) 0)))
makes_ready r r' es spare caller command reply is applied =
    let commits = applied_commits r r' es (entry_of caller command reply) is applied in
    record {
      desk = record { settings = commits.settings; every = applied.every; history = refl };
      entry = ap (entry_of caller command) applied.answer;
      state = applied.state ∙ ap (state_after (state_in r) command) applied.answer;
      seen = snapshot_stands r'.scenario r'.timeline (es ++ entry_of caller command reply ∷ []) 0 commits.after;
    }

-- Use: the snapshot of a history shows the desk with an equal one.
pub seen_alike : (plan : Plan) (kept : KeptRun) (es es' : List Entry) (spare spare' : ℕ) → es ≡ es' →
    seen_of (shown_by plan kept es spare) ≡ seen_of (shown_by plan kept es' spare')
seen_alike plan kept es es' spare spare' same = ap (λ (es : List Entry). seen_of (shown_by plan kept es 0)) same

-- Use: what was made ready for a desk was so for the same one before it had room.
pub ready_before : (caller : ℕ) (command : Command) (d d' : Shown) (ready : Ready) → IsAsBefore d d' → MakesReady caller command d' ready →
    MakesReady caller command d ready
ready_before caller command d d' ready same made =
    let there : MakesReady caller command (record d { spare = d'.spare }) ready = subst (λ x. MakesReady caller command x ready) same.rest made in
    record {
      desk = record { settings = there.desk.settings; every = there.desk.every; history = there.desk.history };
      entry = there.entry;
      state = there.state;
      seen = there.seen;
    }
