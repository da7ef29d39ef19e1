-- Why a slot of a run went as it did, in words.
use Rattle.std.specs.Prelude.{ℕ, zero, suc, Option, None, Some, List, [], ◌++◌, length, slice_index_or}
use Rattle.pf_order.specs.declared.pick.Pick.{Pick}
use Rattle.pf_scenario.specs.Scenario.{events_of}
use Rattle.pf_run.specs.Computed.{run_of}
use Rattle.pf_desk.specs.Desk.{Seen}
use Rattle.pf_vocabulary.specs.declared.names.named.Named.{Named}
use Rattle.pf_why.specs.declared.subtask.Subtask.{Subtask}
use Rattle.pf_why.specs.Point.{point_of}
use Rattle.pf_why.specs.declared.point.Point.{Point}
use Rattle.pf_why.specs.Ranking.{ranking_in}
use Rattle.pf_why_text.specs.Events.{events_text}
use Rattle.pf_why_text.specs.Head.{head_text, places_text}
use Rattle.pf_why_text.specs.Ranks.{Seats, ranks_text}
use Rattle.pf_why_text.specs.Whereabouts.{asked_text}

-- who sits where in slot t, and in the slot before
abbrev pub row_in : Seen → ℕ → List (Option Pick)
row_in seen t = slice_index_or seen.rows t []

abbrev pub row_before : Seen → ℕ → Option (List (Option Pick))
row_before seen zero = None
row_before seen (suc t) = Some (row_in seen t)

abbrev pub seats_in : Seen → ℕ → ℕ → Seats
seats_in seen count t = record { slot = t; count = count; row = row_in seen t; before = row_before seen t }

-- the slot that was seen at its choice, and its ranking
abbrev pub point_seen : Seen → ℕ → Point
point_seen seen t = point_of seen.state.plan seen.state.now t

abbrev pub ranking_seen : Seen → ℕ → List Subtask
ranking_seen seen t = ranking_in seen.state.plan (run_of seen.state.plan seen.state.now) t

-- the line of the slot; those of its events, in run order; those of its processors; its ranking; and the line of the task that is
-- asked for, if one is
unfoldable pub why_text : List Named → Seen → ℕ → Option ℕ → List ℕ
why_text names seen t asked =
    head_text (point_seen seen t) (length (ranking_seen seen t))
    ++ (events_text names seen.state.plan (run_of seen.state.plan seen.state.now) seen.denials (events_of seen.state.plan t)
    ++ (places_text names (point_seen seen t).count seen.state.plan.settings.processors (row_in seen t)
    ++ (ranks_text names (seats_in seen (point_seen seen t).count t) (ranking_seen seen t)
    ++ asked_text names seen (seats_in seen (point_seen seen t).count t) (ranking_seen seen t) asked)))
