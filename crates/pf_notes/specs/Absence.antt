-- Why a task is not inside at a point.
use Rattle.std.specs.Prelude.{ℕ, ◌==◌, not, if◌then◌else◌, Option, None, Some, List, ◌++◌, codes, find}
use Rattle.std.specs.Option.{option_map}
use Rattle.std.specs.Fmt.{decimal}
use Rattle.pf_scenario.specs.Event.{slot_of, is_join_of, is_leave_of}
use Rattle.pf_scenario.specs.Scenario.{is_held}
use Rattle.pf_scenario.specs.declared.event.Numbered.{Numbered}
use Rattle.pf_run.specs.declared.denied.Denied.{Denied}
use Rattle.pf_run.specs.Record.{is_denied, in_force}
use Rattle.pf_notes.specs.Subject.{task_text}
use Rattle.pf_notes.specs.declared.absence.Absence.{Absence}
use Rattle.pf_notes.specs.declared.absence.Absence.TheVariants.{NoJoin, JoinsThere, JoinsLater, JoinDenied, Left}

-- the first of these events that joins the task, and the first that is its leave
abbrev pub join_among : ℕ → List Numbered → Option Numbered
join_among task xs = find (λ x. is_join_of task x.event) xs

abbrev pub leave_among : ℕ → List Numbered → Option Numbered
leave_among task xs = find (λ x. is_leave_of task x.event) xs

-- the task left by this event
abbrev pub left_by : Numbered → Absence
left_by x = Left (slot_of x.event) x.id

-- the task joined by this event, which does not come before a point of this slot
abbrev pub joined_behind : ℕ → Numbered → Absence
joined_behind slot x = if slot_of x.event == slot then JoinsThere x.id else JoinsLater (slot_of x.event) x.id

-- why the task is not inside at a point of this slot, after the events `before`, of which those are denied, where this is its join
abbrev pub absent_by : List Denied → List Numbered → ℕ → ℕ → Option Numbered → Option Absence
absent_by denials before slot task None = Some NoJoin
absent_by denials before slot task (Some x) =
    if not (is_held before x.id) then Some (joined_behind slot x)
    else if is_denied denials x then Some (JoinDenied (slot_of x.event) x.id)
    else option_map left_by (leave_among task (in_force denials before))

-- the same, where these events are held; none where no leave of the task was taken
abbrev pub absence_of : List Numbered → List Denied → List Numbered → ℕ → ℕ → Option Absence
absence_of held denials before slot task = absent_by denials before slot task (join_among task held)

-- ` in slot S (event ID)`
abbrev pub place_text : ℕ → ℕ → List ℕ
place_text slot id = codes " in slot " ++ decimal slot ++ codes " (event " ++ decimal id ++ codes ")"

-- ` joins in that slot, and leaves come before joins (event ID)`
unfoldable pub there_text : ℕ → List ℕ
there_text id = codes " joins in that slot, and leaves come before joins (event " ++ decimal id ++ codes ")"

-- its sentence, of a task with this name
abbrev pub absence_text : Option (List ℕ) → ℕ → Absence → List ℕ
absence_text name task NoJoin = codes "no join of " ++ task_text name task ++ codes " is held"
absence_text name task (JoinsThere id) = task_text name task ++ there_text id
absence_text name task (JoinsLater slot id) = task_text name task ++ codes " joins later," ++ place_text slot id
absence_text name task (JoinDenied slot id) =
    codes "the join of " ++ task_text name task ++ place_text slot id ++ codes " is denied"
absence_text name task (Left slot id) = task_text name task ++ codes " left" ++ place_text slot id
