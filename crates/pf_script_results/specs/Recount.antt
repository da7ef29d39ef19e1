-- What the records of a script came to: which record made each event as it stands, and what was refused.
use Rattle.std.specs.Prelude.{ℕ, ◌==◌, Bool, if◌then◌else◌, Option, None, Some, List, [], ◌∷◌, ◌++◌, replicate}
use Rattle.std.specs.Option.{option_and_then, option_map}
use Rattle.pf_vocabulary.specs.Names.Names.{name_of}
use Rattle.pf_vocabulary.specs.declared.names.named.Named.{Named}
use Rattle.pf_scenario.specs.Event.{task_of}
use Rattle.pf_scenario.specs.Scenario.{Plan}
use Rattle.pf_scenario.specs.declared.change.Change.{Change}
use Rattle.pf_scenario.specs.declared.change.Change.TheVariants.{Insert, Alter, Strike}
use Rattle.pf_desk.specs.Machine.{State, opening_state, reply_to}
use Rattle.pf_desk.specs.declared.command.Command.TheVariants as command
use Rattle.pf_desk.specs.declared.reply.Fault.{Fault}
use Rattle.pf_desk.specs.declared.reply.Fault.TheVariants.{AtHorizon}
use Rattle.pf_run_notes.specs.Refusal.{named_by}
use Rattle.pf_plain_script.specs.Carried.{state_behind_line}
use Rattle.pf_plain_script.specs.declared.origin.Origin.{Origin}
use Rattle.pf_run_notes.specs.Made.{made_after}
use Rattle.pf_run_notes.specs.Refusals.{Kept, change_line, kept_after, steps_line}
use Rattle.pf_run_notes.specs.declared.place.Place.{Place}
use Rattle.pf_script.specs.Told.{Told, told}
use Rattle.pf_script.specs.declared.line.Line.{Line}
use Rattle.pf_script.specs.declared.line.Line.TheVariants.{Edit, Steps}
use Rattle.pf_script.specs.declared.record.LineTold.{LineTold}
use Rattle.pf_script_results.specs.Places.{place_of}
use Rattle.pf_script_results.specs.Replies.{outcome_of, refused_in}
use Rattle.pf_script_results.specs.declared.outcome.Outcome.{Outcome}
use Rattle.pf_script_results.specs.declared.outcome.Outcome.TheVariants.{Done, Refused}
use Rattle.pf_script_results.specs.declared.refused_record.RefusedRecord.{RefusedRecord}

-- after some records: by the number of each event the place of the record that made it as it stands, what is kept of refused
-- commands, and the refused records, where they are kept
pub record Recounted : Type 0 where
  pub made : List Place
  pub refusals : Kept
  pub refused : List RefusedRecord

-- before any record, where the lines of so many are to be kept
abbrev pub none_yet : ℕ → Recounted
none_yet most = record { made = []; refusals = record { most = most; lines = []; records = 0; commands = 0 }; refused = [] }

-- the task of the event that a change brings, and its name
abbrev pub task_of_change : Change → Option ℕ
task_of_change (Insert event) = task_of event
task_of_change (Alter id event) = task_of event
task_of_change (Strike id) = None

abbrev pub name_of_change : List Named → Change → Option (List ℕ)
name_of_change names change = option_and_then (name_of names) (task_of_change change)

-- the records and one more, where all are kept
abbrev pub with_record : Bool → List RefusedRecord → RefusedRecord → List RefusedRecord
with_record whole records one = if whole then records ++ one ∷ [] else records

-- a record whose change this scenario refused, and one of which so many steps were refused
abbrev pub refused_change : Plan → Place → Change → Fault → RefusedRecord
refused_change s place change fault = record { place = place; fault = fault; event = named_by s change fault; steps = None }

abbrev pub refused_steps : Place → ℕ → RefusedRecord
refused_steps place refused = record { place = place; fault = AtHorizon; event = None; steps = Some refused }

-- after a record whose change was made, or refused by this scenario
abbrev pub behind_making : Place → Change → Recounted → Recounted
behind_making place change c = record c { made = made_after c.made place change }

abbrev pub behind_refusal : List ℕ → Bool → List Named → Bool → Plan → Place → Change → Fault → Recounted → Recounted
behind_refusal file hints names whole s place change fault c = record c {
  refusals = kept_after c.refusals (change_line file hints place (name_of_change names change) s change fault) 1;
  refused = with_record whole c.refused (refused_change s place change fault);
}

-- after a record with this change, which came to this in a scenario
abbrev pub behind_change : List ℕ → Bool → List Named → Bool → Plan → Place → Change → Outcome → Recounted → Recounted
behind_change file hints names whole s place change Done c = behind_making place change c
behind_change file hints names whole s place change (Refused fault) c = behind_refusal file hints names whole s place change fault c

-- after a record with so many steps, of which so many were refused at the horizon
abbrev pub behind_steps : List ℕ → Bool → Place → ℕ → ℕ → ℕ → Recounted → Recounted
behind_steps file whole place horizon steps refused c =
    record c {
      refusals = kept_after c.refusals (steps_line file place horizon refused steps) refused;
      refused = with_record whole c.refused (refused_steps place refused);
    }

abbrev pub behind_steps_if : List ℕ → Bool → Place → ℕ → ℕ → ℕ → Recounted → Recounted
behind_steps_if file whole place horizon steps refused c =
    if refused == 0 then c else behind_steps file whole place horizon steps refused c

-- after a record that asks for this in a state
abbrev pub behind_line : List ℕ → Bool → List Named → Bool → State → Place → Line → Recounted → Recounted
behind_line file hints names whole st place (Edit change strict) c =
    behind_change file hints names whole st.plan place change (outcome_of (reply_to st (command.Edit change strict))) c
behind_line file hints names whole st place (Steps count) c =
    behind_steps_if file whole place st.plan.settings.horizon count (refused_in st (replicate count command.Step)) c

-- after these records, whose places are those of their numbers, from a state on
abbrev pub behind_lines : List ℕ → Bool → List Named → Bool → (ℕ → Place) → State → List LineTold → Recounted → Recounted
behind_lines file hints names whole place_at st [] c = c
behind_lines file hints names whole place_at st (line ∷ lines) c =
    behind_lines file hints names whole place_at (state_behind_line st line.asks) lines
    (behind_line file hints names whole st (place_at line.number) line.asks c)

-- what the records of a script came to that tells this; nothing where it has no settings
abbrev pub recounted_told : List ℕ → Bool → List Named → Bool → (ℕ → Place) → ℕ → Told → Option Recounted
recounted_told file hints names whole place_at most t =
    option_map (λ s. behind_lines file hints names whole place_at (opening_state s.settings) t.rest.lines (none_yet most)) t.opening

-- the same of a script of these bytes, up to its first bad record: with the lines of the first `most` refused records of this file, with
-- hints, where they are asked for, and with all refused records where they are kept; origins where it belongs to a plan
unfoldable pub recounted : List ℕ → Bool → List Named → Option (List Origin) → ℕ → Bool → List ℕ → Option Recounted
recounted file hints names origins most whole script =
    recounted_told file hints names whole (place_of origins script) most (told script)
