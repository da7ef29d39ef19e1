-- A run as trace events.
use Rattle.std.specs.Prelude.{◌≡◌, ℕ, ◌+◌, ◌==◌, ◌&&◌, nat_le, nat_lt, not, if◌then◌else◌, Option, None, Some, List, [], ◌∷◌, ◌++◌, codes, length, map, filter_map, find, All, Bool}
use Rattle.std.specs.List.{flat_map, range_with_len}
use Rattle.std.specs.Option.{option_map}
use Rattle.pf_weight.specs.declared.task.TheConstants.{LARGEST_TASK}
use Rattle.pf_admit.specs.declared.denial.Denial.{Denial}
use Rattle.pf_tally.specs.Levels.{levels_of}
use Rattle.pf_vocabulary.specs.declared.names.titles.Titles.{Titles}
use Rattle.pf_order.specs.declared.pick.Pick.{Pick}
use Rattle.pf_run.specs.Computed.{run_of}
use Rattle.pf_run.specs.Inside.{Joined, join_of}
use Rattle.pf_run.specs.Record.{Slot}
use Rattle.pf_run.specs.Run.{events_in_force}
use Rattle.pf_run.specs.declared.denied.Denied.{Denied}
use Rattle.pf_scenario.specs.Scenario.{Plan, past}
use Rattle.pf_scenario.specs.declared.event.Numbered.{Numbered}
use Rattle.pf_tally.specs.Figures.{processors_in}
use Rattle.pf_tally.specs.Lags.{by_task}
use Rattle.pf_collections.specs.Table.Lists.{noted_of}
use Rattle.pf_tally.specs.Held.{CanTally}
use Rattle.pf_tally.specs.Ledger.{IsLedger}
use Rattle.pf_tally.specs.Own.{events_of_task}
use Rattle.pf_tally.specs.declared.ledger.Ledger.{Ledger}
use Rattle.pf_tally.specs.Quanta.{slots_of}
use Rattle.pf_desk.specs.Desk.{Seen}
use Rattle.pf_trace.specs.Courses.{Course, course_by}
use Rattle.pf_trace.specs.Forms.{filled}
use Rattle.pf_trace.specs.Runs.{Run, run_text}
use Rattle.pf_trace.specs.Tasks.{TaskTrace}
use Rattle.pf_trace.specs.Titles.{Called, title_of}
use Rattle.pf_trace.specs.declared.moment.Moment.{Moment}
use Rattle.pf_trace.specs.declared.run_ledger.RunLedger.{RunLedger}

-- why the event of this number is denied, if it is
abbrev pub denial_of : List Denied → ℕ → Option Denial
denial_of denials id = option_map (λ d. d.denial) (find (λ d. d.id == id) denials)

abbrev pub moments_of : List Denied → List Numbered → List Moment
moments_of denials xs = map (λ x. record { numbered = x; denial = denial_of denials x.id }) xs

-- the events of a task held with a slot below n, in run order
abbrev pub own_events : Plan → ℕ → ℕ → List Numbered
own_events s n task = events_of_task task (past s n)

-- the task of this number that was admitted, if there is one, after the record r of the scenario
abbrev pub admitted_in : Plan → List Slot → ℕ → Option Joined
admitted_in s r task = find (λ j. j.task == task) (by_task (filter_map (join_of s.settings.base) (events_in_force s r (length r))))

-- its course: by the slots in which it ran, and its own events in force
abbrev pub course_in : Plan → List Slot → List (List (Option Pick)) → Joined → Course
course_in s r rows j =
    course_by j (slots_of r j.task) (processors_in rows j.task) (events_of_task j.task (events_in_force s r (length r))) (length r)

-- what is told of a task
abbrev pub trace_of : Titles → Seen → ℕ → TaskTrace
trace_of titles seen task = record {
  title = title_of titles task;
  task = task;
  course = option_map (course_in seen.state.plan (run_of seen.state.plan seen.state.now) seen.rows)
      (admitted_in seen.state.plan (run_of seen.state.plan seen.state.now) task);
  moments = moments_of seen.denials (own_events seen.state.plan seen.state.now task);
  slot_count = seen.state.now;
}

-- a task is listed of which an event is held below now; here those of the numbers below k
abbrev pub is_listed_below : Seen → ℕ → ℕ → Bool
is_listed_below seen k task = nat_le 1 task && nat_lt task k && not (length (own_events seen.state.plan seen.state.now task) == 0)

abbrev pub is_listed : Seen → ℕ → Bool
is_listed seen task = is_listed_below seen (LARGEST_TASK + 1) task

abbrev pub told_of : Titles → Seen → ℕ → Option TaskTrace
told_of titles seen task = if is_listed seen task then Some (trace_of titles seen task) else None

-- what is told of the run
abbrev pub run_told : Titles → Seen → Run
run_told titles seen = record {
  rows = seen.rows;
  processors = seen.state.plan.settings.processors;
  title = title_of titles 0;
  told = told_of titles seen;
  levels = levels_of seen.state.plan (run_of seen.state.plan seen.state.now) 0 seen.state.now;
}

abbrev pub processor_name : Called → ℕ → List ℕ
processor_name title p =
    filled title (codes ",\n{\"args\":{\"name\":\"p#\"},\"name\":\"thread_name\",\"ph\":\"M\",\"pid\":1,\"tid\":#},\n{\"args\":{\"sort_index\":#},\"name\":\"thread_sort_index\",\"ph\":\"M\",\"pid\":1,\"tid\":#}")
    (p ∷ (p + 1) ∷ (p + 1) ∷ (p + 1) ∷ [])

abbrev pub processor_names : Called → ℕ → List ℕ
processor_names title m = flat_map (processor_name title) (range_with_len 0 m)

-- the names of the two processes and of m processors
abbrev pub head_text : Called → ℕ → List ℕ
head_text title m =
    codes "{\"displayTimeUnit\":\"ms\",\"traceEvents\":[\n{\"args\":{\"name\":\"processors\"},\"name\":\"process_name\",\"ph\":\"M\",\"pid\":1},\n{\"args\":{\"sort_index\":1},\"name\":\"process_sort_index\",\"ph\":\"M\",\"pid\":1}"
    ++ processor_names title m
    ++ codes ",\n{\"args\":{\"name\":\"tasks\"},\"name\":\"process_name\",\"ph\":\"M\",\"pid\":2},\n{\"args\":{\"sort_index\":2},\"name\":\"process_sort_index\",\"ph\":\"M\",\"pid\":2}"

-- the events of what was seen, as these titles tell them
unfoldable pub trace_text : Titles → Seen → List ℕ
trace_text titles seen =
    head_text (title_of titles 0) seen.state.plan.settings.processors ++ (run_text (run_told titles seen) ++ codes "\n]}\n")

-- what a ledger of the run tells of the task of this number, among the tasks admitted
abbrev pub course_found : Ledger → List Joined → List (List ℕ) → ℕ → Option Course
course_found ledger admitted processors task =
    option_map (λ j. course_by j (noted_of ledger.quanta j.task) (noted_of processors j.task) (noted_of ledger.diaries j.task) ledger.now)
    (find (λ j. j.task == task) admitted)

-- each of the admitted tasks can be tallied
abbrev pub CanTrace : Ledger → List Joined → Type 0
CanTrace ledger admitted = All (λ j. CanTally j (noted_of ledger.quanta j.task) (noted_of ledger.diaries j.task) ledger.now) admitted

-- a ledger of the run that was seen, the tasks admitted, by number, and of each number the processors on which the task ran
pub record IsRunLedger (seen : Seen) (run : RunLedger) : Type 0 where
  pub ledger : IsLedger seen.state.plan seen.state.now run.ledger
  pub admitted : run.admitted.items ≡ by_task (filter_map (join_of run.ledger.settings.base) run.ledger.events.items)
  pub processors : (task : ℕ) → noted_of run.processors task ≡ processors_in seen.rows task

-- what is told of a task by such a ledger, where these are its events: nothing where there is none
abbrev pub traces_by : Called → RunLedger → List Denied → List Numbered → ℕ → ℕ → List TaskTrace
traces_by title run denials events n task =
    if length events == 0 then []
    else record {
      title = title;
      task = task;
      course = course_found run.ledger run.admitted.items run.processors task;
      moments = moments_of denials events;
      slot_count = n;
    } ∷ []
