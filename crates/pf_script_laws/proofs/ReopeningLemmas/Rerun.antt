-- A desk's script, run by the program.
use Rattle.std.proofs.Common.{◌≡◌, ◌∙◌, ◌+◌, nat_lt, ℕ, false, Bool, true, None, List, [], ◌∷◌, ◌++◌, append-nil, append_assoc, codes, map, length, refl, sym, subst, ap, ap₂, arith}
use Rattle.std.specs.Prelude.{◌||◌, if◌then◌else◌}
use Rattle.std.specs.Option.{option_map_or}
use Rattle.std.proofs.Math.Bool.{or-false}
use Rattle.std.proofs.lemmas.Bool.Decides.{nat_tests}
use Rattle.pf_scenario.specs.System.{System}
use Rattle.pf_scenario.specs.declared.event.Numbered.{Numbered}
use Rattle.pf_desk.specs.declared.command.Command.{Command}
use Rattle.pf_desk.specs.declared.reply.Reply.{Reply}
use Rattle.pf_desk.specs.declared.reply.Reply.TheVariants.{Edited, Stepped, Refused}
use Rattle.pf_desk.specs.Machine.{opening_state, reply_to, next_state, state_after}
use Rattle.pf_desk.specs.Desk.{Seen}
use Rattle.pf_stream.specs.Reading.{longest_script}
use Rattle.pf_report.specs.Replies.{is_refusal}
use Rattle.pf_vocabulary.specs.Names.Titled.{untitled}
use Rattle.pf_vocabulary.specs.declared.names.titles.Titles.{Titles}
use Rattle.pf_report.specs.Script.{heading_records, settings_record, insert_record, insert_records, step_records, script_text_of, title_records}
use Rattle.pf_report.specs.Part.{schedule_part_text}
use Rattle.pf_report.specs.Tables.{lags_heading, miss_record, named_lag_record, lags_text, misses_text}
use Rattle.pf_vocabulary.specs.declared.options.format.Format.{Format}
use Rattle.pf_vocabulary.specs.declared.options.format.Format.TheVariants.{Schedule, Lags, Misses, Script}
use Rattle.pf_vocabulary.specs.Options.Formats.{range_fault, tells_refusals}
use Rattle.pf_script_results.specs.Places.{place_of}
use Rattle.pf_script_results.specs.Recount.{none_yet, recounted, recounted_told}
use Rattle.pf_text.specs.Page.{table_text}
use Rattle.pf_formats.specs.Report.{report_text}
use Rattle.pf_replies.specs.Course.{ScriptCourse, course_behind, opening_course, ready_line, reply_lines, seen_at, text_if_replies}
use Rattle.pf_commands.specs.Meaning.{Meaning, report_meaning, script_meaning, text_and_then, text_unless, told_meaning}
use Rattle.pf_commands.specs.Refusals.{refusal_of, refused_in, refusals_for}
use Rattle.pf_script_laws.specs.Reopening.Reopen.{first_number, insert_lines, lines_told, step_lines}
use Rattle.pf_script_laws.specs.Reopening.Rerun.{CanBeRerun, ScheduleIsWrittenAgain, ScriptsRunAgain, replies_again, report_of, seen_again}
use Rattle.pf_script_laws.specs.Reopening.Taken.{renumbered, events_held, numbered_from}
use Rattle.pf_script_laws.specs.Reopening.Renumbered.{HasSameRun, denied_under, new_number}
use Rattle.pf_script_laws.specs.Reopening.Whole.{IsTaken, script_commands}
use Rattle.pf_script_laws.proofs.ReopeningLemmas.Again.{told_again}
use Rattle.pf_script_laws.proofs.ReopeningLemmas.Anew.{numbers_change_no_run, events_are_numbered_anew}
use Rattle.pf_script_laws.proofs.ReopeningLemmas.Asked.{of_lines}
use Rattle.pf_script_laws.proofs.ReopeningLemmas.Lengths.{short_script}
use Rattle.pf_script_laws.proofs.ReopeningLemmas.Unrefused.{none_refused}
use Rattle.pf_script_laws.proofs.ReopeningLemmas.Whole.{TakesAll, behind_all, taken_next, script_taken, script_behind}

-- a command that the machine takes is none that it refused
taken_reply : (refused : Bool) (reply : Reply) → IsTaken reply → (refused || is_refusal reply) ≡ refused
taken_reply refused (Edited id) taken = or-false refused
taken_reply refused (Stepped slot row) taken = or-false refused
taken_reply refused (Refused fault) taken = absurd taken

-- where the machine takes all commands, the course is where it is
course_is : (c : ScriptCourse) (cs : List Command) → TakesAll c.state cs
    → course_behind c cs ≡ record { state = behind_all c.state cs; asked = c.asked ++ cs; refused = c.refused; every = c.every }
course_is c [] takes =
    λ k. record { state = c.state; asked = sym (append-nil c.asked) k; refused = c.refused; every = c.every }
course_is c (command ∷ cs) takes =
    let next : state_after c.state command (reply_to c.state command) ≡ next_state c.state command = taken_next c.state command (reply_to c.state command) takes.0 in
    let asked = append_assoc c.asked (command ∷ []) cs in
    let none = taken_reply c.refused (reply_to c.state command) takes.0 in
    (λ k. course_behind (record { state = next k; asked = c.asked ++ command ∷ []; refused = none k; every = c.every }) cs)
    ∙ course_is (record { state = next_state c.state command; asked = c.asked ++ command ∷ []; refused = c.refused; every = c.every }) cs takes.1
    ∙ (λ k. record { state = behind_all (next_state c.state command) cs; asked = asked k; refused = c.refused; every = c.every })

-- the records of inserts are the same under any numbers
same_inserts : (n : ℕ) (events : List Numbered) → insert_records (numbered_from n (events_held events)) ≡ insert_records events
same_inserts n [] = refl
same_inserts n (x ∷ xs) = ap (λ records. insert_record x.event ∷ records) (same_inserts (n + 1) xs)

module _ (every : ℕ) (seen : Seen) (can : CanBeRerun every seen) (titles : Titles) where
  abbrev s : System
  s = seen.state.plan.settings

  -- what the desk shows then
  same : HasSameRun (new_number seen.state.plan.events) seen.state.now seen.state.plan (renumbered seen.state.plan)
  same =
      let anew = events_are_numbered_anew seen.state.plan can.of_run.scenario in
      numbers_change_no_run (new_number seen.state.plan.events) seen.state.now seen.state.plan (renumbered seen.state.plan)
      can.of_run.scenario anew.scenario anew.events

  abbrev there : ScriptCourse
  there = record {
    state = record { plan = renumbered seen.state.plan; now = seen.state.now };
    asked = script_commands seen.state;
    refused = false;
    every = every;
  }

  taken : TakesAll (opening_state s) (script_commands seen.state)
  taken = script_taken seen.state.plan seen.state.now can.of_run.scenario can.of_run.within

  course : course_behind (opening_course every s) (script_commands seen.state) ≡ there
  course =
      course_is (opening_course every s) (script_commands seen.state) taken
      ∙ (λ k. record { state = script_behind seen.state.plan seen.state.now can.of_run.scenario k; asked = script_commands seen.state; refused = false; every = every })

  shown : seen_at there ≡ seen_again seen
  shown =
      let anew_rows = same.rows ∙ sym can.of_run.are_rows in
      let anew_denials = same.denials ∙ ap (map (denied_under (new_number seen.state.plan.events))) (sym can.of_run.are_denials) in
      λ k. record {
        version = length (script_commands seen.state);
        state = record { plan = renumbered seen.state.plan; now = seen.state.now };
        rows = anew_rows k;
        denials = anew_denials k;
      }

  -- what these commands come to
  abbrev whole : Format → List Command → Meaning
  whole format commands =
      text_and_then (text_if_replies format (ready_line ++ reply_lines (opening_course every s) commands)) (report_meaning format titles [] (course_behind (opening_course every s) commands))

  -- no record of the script is refused
  none_in : refused_in None (script_text_of every seen untitled) ≡ []
  unfolding recounted
  none_in =
      let lines = lines_told (first_number s) (insert_lines seen.state.plan.events ++ step_lines seen.state.now) in
      let takes = subst (TakesAll (opening_state s)) (sym (of_lines (first_number s) seen.state.plan.events seen.state.now)) taken in
      let places = place_of None (script_text_of every seen untitled) in
      ap (λ t. option_map_or (λ r. map refusal_of r.refused) (recounted_told [] false [] true places 0 t) []) (told_again every seen can.written)
      ∙ ap (map refusal_of) (none_refused places (opening_state s) lines (none_yet 0) takes)

  none_told : (format : Format) → refusals_for format None (script_text_of every seen untitled) ≡ []
  none_told format = by (tells_refusals format)
    where
      by : (tells : Bool) → (if tells then refused_in None (script_text_of every seen untitled) else []) ≡ []
      by true = none_in
      by false = refl

  pub run_again : (format : Format)
      → script_meaning format titles None (script_text_of every seen untitled)
      ≡ text_and_then (replies_again format every seen) (report_of format titles every (seen_again seen))
  unfolding script_meaning
  run_again format =
      let short : nat_lt longest_script (length (script_text_of every seen untitled)) ≡ false = grind (arith, nat_tests, short_script every seen can.written) in
      rw short (ap₂ (told_meaning format titles) (none_told format) (told_again every seen can.written)
      ∙ ap (whole format) (of_lines (first_number s) seen.state.plan.events seen.state.now)
      ∙ ap (text_and_then (replies_again format every seen)) (ap (report_meaning format titles []) course ∙ ap (report_of format titles every) shown))

  lags_again : lags_text (seen_again seen) titles ≡ lags_text seen titles
  unfolding lags_text
  lags_again = ap (λ lags. table_text (lags_heading titles ∷ map (named_lag_record titles) lags)) same.lags

  misses_again : misses_text (seen_again seen) ≡ misses_text seen
  unfolding misses_text
  misses_again = ap (λ misses. table_text ((codes "task" ∷ codes "sub" ∷ codes "deadline" ∷ codes "ran" ∷ []) ∷ map miss_record misses)) same.misses

  script_again : script_text_of every (seen_again seen) titles ≡ script_text_of every seen titles
  unfolding script_text_of
  script_again =
      ap (λ inserts. table_text (heading_records s titles ++ settings_record s every ∷ (title_records titles ++ (inserts ++ step_records seen.state.now))))
      (same_inserts 1 seen.state.plan.events)

pub scripts_run_again : ScriptsRunAgain
scripts_run_again every seen can titles format = run_again every seen can titles format

pub schedule_is_written_again : ScheduleIsWrittenAgain
unfolding report_text schedule_part_text
schedule_is_written_again every seen can titles = record {
  schedule = λ range. run_again every seen can titles (Schedule range);
  lags = run_again every seen can titles Lags ∙ ap (text_unless (range_fault Lags seen.state.now)) (lags_again every seen can titles);
  misses = run_again every seen can titles Misses ∙ ap (text_unless (range_fault Misses seen.state.now)) (misses_again every seen can titles);
  script = run_again every seen can titles Script ∙ ap (text_unless (range_fault Script seen.state.now)) (script_again every seen can titles);
}
