-- Why a slot of a run went as it did, as one JSON object: compact, its keys in byte order.
use Rattle.std.specs.Prelude.{ℕ, Option, None, Some, List, [], ◌++◌, codes}
use Rattle.std.specs.Option.{option_and_then}
use Rattle.std.specs.Fmt.{decimal}
use Rattle.pf_scenario.specs.Scenario.{events_of}
use Rattle.pf_run.specs.Computed.{run_of}
use Rattle.pf_desk.specs.Desk.{Seen}
use Rattle.pf_vocabulary.specs.declared.names.named.Named.{Named}
use Rattle.pf_why.specs.declared.point.Point.{Point}
use Rattle.pf_why.specs.declared.subtask.Subtask.{Subtask}
use Rattle.pf_why_text.specs.declared.whereabouts.Whereabouts.{Whereabouts}
use Rattle.pf_why_text.specs.declared.whereabouts.Whereabouts.TheVariants.{Ranked}
use Rattle.pf_why_text.specs.Ranks.{Seats, last_that_runs}
use Rattle.pf_why_text.specs.Slot.{point_seen, ranking_seen, row_in, seats_in}
use Rattle.pf_why_text.specs.Whereabouts.{told_of, whereabouts_in}
use Rattle.pf_why_json.specs.Events.{events_json}
use Rattle.pf_why_json.specs.Members.{key_or_null, list_of, quoted}
use Rattle.pf_why_json.specs.Ranks.{places_json, ranks_json}

-- the rank of a task that is in the ranking
abbrev pub rank_in : Whereabouts → Option ℕ
rank_in (Ranked rank x) = Some rank
rank_in place = None

-- where a task is, that is asked for
unfoldable pub place_json : List Named → Seats → List Subtask → ℕ → Option Whereabouts → List ℕ
place_json names seats ranking task place =
    key_or_null (codes "{\"rank\":") (option_and_then rank_in place) ++ codes ",\"task\":" ++ decimal task
    ++ quoted (codes ",\"text\":") (told_of names seats ranking task place) ++ codes "}"

-- the task that is asked for, or null
abbrev pub asked_json : List Named → Seen → Seats → List Subtask → Option ℕ → List ℕ
asked_json names seen seats ranking None = codes "null"
asked_json names seen seats ranking (Some task) =
    place_json names seats ranking task (whereabouts_in seen ranking seats.slot task)

-- the parts of the object
unfoldable pub front_json : List ℕ → Point → List ℕ
front_json asked p =
    codes "{\"asked\":" ++ asked ++ codes ",\"base\":" ++ decimal p.base ++ codes ",\"count\":" ++ decimal p.count

unfoldable pub middle_json : Point → List ℕ
middle_json p = codes ",\"load\":" ++ decimal p.load ++ codes ",\"now\":" ++ decimal p.now

unfoldable pub end_json : Point → List ℕ
end_json p = codes ",\"room\":" ++ decimal p.room ++ codes ",\"slot\":" ++ decimal p.slot ++ codes "}\n"

-- of what is seen, by the slot's point, its ranking and who sits where
abbrev pub slot_json : List Named → Seen → Point → List Subtask → Seats → Option ℕ → List ℕ
slot_json names seen p ranking seats asked =
    front_json (asked_json names seen seats ranking asked) p
    ++ (list_of (codes ",\"events\":")
    (events_json names seen.state.plan (run_of seen.state.plan seen.state.now) seen.denials (events_of seen.state.plan seats.slot))
    ++ (middle_json p
    ++ (list_of (codes ",\"processors\":") (places_json seen.state.plan.settings.processors seats.row)
    ++ (list_of (codes ",\"ranking\":") (ranks_json names seats (last_that_runs seats ranking) 1 None ranking) ++ end_json p))))

-- the object, as a line
unfoldable pub why_json : List Named → Seen → ℕ → Option ℕ → List ℕ
why_json names seen t asked =
    slot_json names seen (point_seen seen t) (ranking_seen seen t) (seats_in seen (point_seen seen t).count t) asked
