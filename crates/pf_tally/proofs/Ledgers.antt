-- The ledger of a run, and what it says of a task.
use Rattle.std.proofs.Common.{◌≡◌, ℕ, ◌&&◌, nat_le, Option, List, ◌++◌, length, filter_map, All, Contains, refl, sym, ap, ◌∙◌, subst, subst₂, arith}
use Rattle.pf_order.specs.declared.pick.Pick.{Pick}
use Rattle.pf_scenario.specs.Scenario.{Plan, past}
use Rattle.pf_scenario.specs.Edit.{IsScenario}
use Rattle.pf_scenario.specs.System.{System}
use Rattle.pf_scenario.specs.declared.event.Numbered.{Numbered}
use Rattle.pf_run.specs.declared.denied.Denied.{Denied}
use Rattle.pf_run.specs.Record.{in_force}
use Rattle.pf_run.specs.Inside.{Joined, join_of}
use Rattle.pf_run.specs.Run.{events_in_force}
use Rattle.pf_run.specs.Computed.{run_of}
use Rattle.pf_run.specs.RunRows.{AreOfRun, rows_in, denials_in}
use Rattle.pf_run.proofs.Runs.{computed_length}
use Rattle.pf_tally.specs.Held.{CanTally, next_in, held_from}
use Rattle.pf_tally.specs.Late.{late_misses, CanMiss}
use Rattle.pf_tally.specs.Misses.{leaves_after, misses_of_task}
use Rattle.pf_tally.specs.declared.held.Held.{Held}
use Rattle.pf_tally.specs.declared.miss.Miss.{Miss}
use Rattle.pf_tally.specs.Ledger.{IsLedger}
use Rattle.pf_tally.specs.Log.{IsLog}
use Rattle.pf_collections.specs.Table.Lists.{noted_of}
use Rattle.pf_tally.specs.Noted.{IsRow, IsTableOf}
use Rattle.pf_tally.specs.Own.{events_of_task, AreDiaries}
use Rattle.pf_tally.specs.Quanta.{slots_of, slots_in}
use Rattle.pf_tally.specs.declared.ledger.Ledger.{Ledger}
use Rattle.pf_tally.specs.declared.journal.Journal.{Journal}
use Rattle.pf_tally.specs.Journal.{IsJournal}
use Rattle.pf_tally.proofs.InForce.{standing_is_log}
use Rattle.pf_tally.proofs.Joined.{can_tally}
use Rattle.pf_tally.proofs.Delays.{chain_from, held_chain, next_in_rises}
use Rattle.pf_tally.proofs.Holding.{next_is}
use Rattle.pf_tally.proofs.Own.{can_own}
use Rattle.pf_tally.proofs.Missing.{misses_same}
use Rattle.pf_tally.proofs.Tallies.{all_small}
use Rattle.pf_tally.proofs.Turns.{rows_of_run, slots_seated}

pub rows_known : (s : Plan) (m : ℕ) (rows : List (List (Option Pick))) (denials : List Denied) → AreOfRun s (length rows) rows denials → m ≡ s.settings.processors → All (IsRow m) rows
rows_known s m rows denials are is =
    let P : List (List (Option Pick)) → Type 0 = All (IsRow m) in
    let Q : ℕ → Type 0 = λ m. All (IsRow m) (rows_in s (length rows)) in
    subst P (sym are.are_rows) (subst Q (sym is) (rows_of_run s (length rows) are.scenario))

known_denials : (s : Plan) (n : ℕ) (denials : List Denied) → denials ≡ denials_in s n → in_force denials (past s n) ≡ events_in_force s (run_of s n) n
unfolding denials_in
known_denials s n denials is = ap (λ ds. in_force ds (past s n)) is

pub journal_made : (s : Plan) (rows : List (List (Option Pick))) (denials : List Denied) (journal : Journal) → AreOfRun s (length rows) rows denials →
    journal.settings ≡ s.settings → journal.now ≡ length rows → journal.events.items ≡ in_force denials (past s (length rows)) → AreDiaries journal.events.items journal.diaries →
    IsJournal s (length rows) journal
journal_made s rows denials journal are settings now events diaries =
    let n = length rows in
    let P : List Numbered → Type 0 = IsLog s.settings n in
    record {
      scenario = are.scenario;
      settings = settings;
      now = now;
      slots = computed_length s n are.scenario;
      events = events ∙ known_denials s n denials are.are_denials;
      log = subst P (sym events) (standing_is_log s n denials are.scenario are.within);
      diaries = diaries;
    }

-- the slots in which a task runs, by the rows
pub ran_of_run : (s : Plan) (rows : List (List (Option Pick))) (denials : List Denied) (task : ℕ) → AreOfRun s (length rows) rows denials →
    slots_in rows task ≡ slots_of (run_of s (length rows)) task
ran_of_run s rows denials task are = ap (λ rows. slots_in rows task) are.are_rows ∙ slots_seated s (length rows) task are.scenario

pub ledger_made : (s : Plan) (rows : List (List (Option Pick))) (denials : List Denied) (journal : Journal) (quanta : List (List ℕ)) → AreOfRun s (length rows) rows denials →
    IsJournal s (length rows) journal → IsTableOf rows quanta →
    IsLedger s (length rows) (record { settings = journal.settings; now = journal.now; events = journal.events; diaries = journal.diaries; quanta = quanta })
ledger_made s rows denials journal quanta are known table = record {
  scenario = known.scenario;
  settings = known.settings;
  now = known.now;
  slots = known.slots;
  events = known.events;
  log = known.log;
  diaries = known.diaries;
  quanta = λ task. table.each task ∙ ran_of_run s rows denials task are;
}

-- what is known of a task of the ledger: its quanta, its own events, and that it can be tallied by these
module _ (s : Plan) (n : ℕ) (ledger : Ledger) (known : IsLedger s n ledger) (j : Joined) (at : Contains (filter_map (join_of ledger.settings.base) ledger.events.items) j) where
  task_known : CanTally j (slots_of (run_of s n) j.task) ledger.events.items ledger.now
  task_known =
      let P : ℕ → Type 0 = CanTally j (slots_of (run_of s n) j.task) ledger.events.items in
      let Q : System → Type 0 = λ system. Contains (filter_map (join_of system.base) ledger.events.items) j in
      subst P (sym known.now) (can_tally s.settings n ledger.events.items j (run_of s n) (slots_of (run_of s n) j.task) known.log (subst Q known.settings at) known.slots refl)

  pub task_ran : (ran : List ℕ) → ran ≡ noted_of ledger.quanta j.task → ran ≡ slots_of (run_of s n) j.task
  task_ran ran of_ran = of_ran ∙ known.quanta j.task

  pub task_diary : (diary : List Numbered) → diary ≡ noted_of ledger.diaries j.task → diary ≡ events_of_task j.task ledger.events.items
  task_diary diary of_diary = of_diary ∙ known.diaries.each j.task

  pub task_can : (ran : List ℕ) (diary : List Numbered) → ran ≡ noted_of ledger.quanta j.task → diary ≡ noted_of ledger.diaries j.task → CanTally j ran diary ledger.now
  task_can ran diary of_ran of_diary =
      let P : List ℕ → List Numbered → Type 0 = λ ran xs. CanTally j ran xs ledger.now in
      subst₂ P (sym (task_ran ran of_ran)) (sym (task_diary diary of_diary)) (can_own j (slots_of (run_of s n) j.task) ledger.events.items ledger.now task_known)

-- The misses.
pub can_miss : (j : Joined) (ran : List ℕ) (xs : List Numbered) (n : ℕ) (held : List Held) → CanTally j ran xs n → held ≡ held_from (next_in ran) j j.slot xs → CanMiss j held n
can_miss j ran xs n held can is =
    let P : List Held → Type 0 = λ held. CanMiss j held n in
    subst P (sym is) (record {
      number = can.number;
      share = can.share;
      joined = can.delays.joined;
      within = can.within;
      chain = chain_from 0 (next_in ran 0) j.slot (held_from (next_in ran) j j.slot xs) (omega arith) (held_chain (next_in ran) (next_in_rises ran) j 0 j.slot xs can.rise);
      small = all_small j ran xs n can;
    })

pub task_noted : (j : Joined) (ran : List ℕ) (xs : List Numbered) (n last : ℕ) (held : List Held) (old new : List Miss) → held ≡ held_from (next_in ran) j j.slot xs →
    ((t : ℕ) → nat_le t last ≡ (nat_le t n && leaves_after xs j t)) → new ≡ old ++ late_misses j ran held last n →
    (s : Plan) → IsScenario s → length (run_of s n) ≡ n → ran ≡ slots_of (run_of s n) j.task → new ≡ old ++ misses_of_task (run_of s n) xs j
task_noted j ran xs n last held old new of_held of_last is s scenario long of_ran =
    let of_next = of_held ∙ ap (λ next. held_from next j j.slot xs) (next_is (run_of s n) j ran (sym of_ran)) in
    is ∙ ap (λ ms. old ++ ms) (sym (misses_same s n scenario long xs j ran held last of_ran of_next of_last))
