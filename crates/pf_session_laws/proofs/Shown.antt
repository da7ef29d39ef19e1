-- What a session shows of its own desk is what its script shows.
use Rattle.std.proofs.Common.{◌≡◌, ◌∙◌, ◌+◌, ◌≤◌, ℕ, Bool, true, false, List, [], ◌∷◌, ◌++◌, length, map, Option, None, Some, Result, Ok, Err, codes, refl, sym, ap, subst, arith}
use Rattle.std.proofs.Common.{inl, inr, rules, tests}
use Rattle.std.specs.Option.{option_map_or}
use Rattle.std.specs.Prelude.{⊤, ◌⊎◌, ◌&&◌, if◌then◌else◌, max, min, nat_lt, not}
use Rattle.std.proofs.lemmas.Int.{clamps}
use Rattle.pf_commands.specs.Answers.{Answers as Means}
use Rattle.pf_commands.specs.Meaning.{Meaning, ended_meaning, report_meaning, script_meaning, text_and_then}
use Rattle.pf_commands.specs.Refusals.{refusals_for, refused_in}
use Rattle.pf_plain_script.specs.Plain.{Course, Plain, course_behind, first_column, plain, plain_behind, plain_from, plain_of, start, titles_of, with_heading}
use Rattle.pf_plain_script.specs.declared.origin.Origin.{Origin}
use Rattle.pf_replies.specs.Course.{ScriptCourse, course_behind as after_commands, fault_number, outcome_of, outcome_told, replies_told, text_if_replies}
use Rattle.pf_replies.proofs.Courses.{course_behind-append}
use Rattle.pf_script.specs.Plan.Heading.{heading_fault, is_plan_heading}
use Rattle.pf_script.specs.Plan.Parsing.{said_at}
use Rattle.pf_script.specs.Fields.{is_word}
use Rattle.pf_script.specs.Told.{FaultTold, told}
use Rattle.pf_script.specs.declared.plan.fault.BadRecord.{BadRecord}
use Rattle.pf_script.specs.declared.plan.said.Said.{Said}
use Rattle.pf_script.specs.declared.plan.said.Said.TheVariants.{Settings, Slot, Name, Asks}
use Rattle.pf_script.specs.declared.record.ScriptSettings.{ScriptSettings}
use Rattle.pf_script_desk.specs.Asked.{commands_in, commands_of}
use Rattle.pf_session.specs.Held.{course_opened, held_behind}
use Rattle.pf_session.specs.Session.{SessionState}
use Rattle.pf_session_laws.proofs.Files.{no_desk}
use Rattle.pf_session_laws.proofs.Opened.{heading_fields, script_rows}
use Rattle.pf_session_laws.proofs.Reading.{lines_text}
use Rattle.pf_session_laws.proofs.Scripted.{IsScripted, Runs, held_saids, saids_in, session_scripted}
use Rattle.pf_session_laws.proofs.Sound.{IsSound, opened_behind, sound_behind, sound_start}
use Rattle.pf_session_laws.specs.Shown.{HasShortPlain, SessionsShowTheirScripts}
use Rattle.pf_session_lines.specs.declared.showing.Showing.{Showing}
use Rattle.pf_session_lines.specs.declared.showing.Showing.TheVariants.{Text, Bad}
use Rattle.pf_session_lines.specs.declared.wanted.Wanted.{Wanted}
use Rattle.pf_session_lines.specs.declared.wanted.Wanted.TheVariants.{Report, Why, Fit}
use Rattle.pf_session_views.specs.Answered.{Answers}
use Rattle.pf_session_views.specs.Held.{DeskShows, HeldShows, ReportShows, ShowsMeaning, is_of_desk}
use Rattle.pf_session_views.specs.Shown.{IsShown, Shows, ShowsOf, ShowsShort}
use Rattle.pf_stream.specs.Reading.{longest_script}
use Rattle.pf_text.specs.Page.{table_text}
use Rattle.pf_text.specs.Rows.Rows.{Row, rows}
use Rattle.pf_version_laws.proofs.Saying.{AreSettings, CanBeWritten, said_written}
use Rattle.pf_version_laws.specs.Retold.{IsSameFault, ScriptsAreRetold, lines_said, saids_behind, saids_from, saids_of, settings_said}
use Rattle.pf_vocabulary.specs.Options.Formats.{has_replies, tells_refusals}
use Rattle.pf_vocabulary.specs.declared.fault.answer.Answer.{Answer}
use Rattle.pf_vocabulary.specs.declared.fault.ending.Ending.{Ending}
use Rattle.pf_vocabulary.specs.declared.fault.fault.Fault.{Fault}
use Rattle.pf_vocabulary.specs.declared.fault.fault.Fault.TheVariants as why
use Rattle.pf_vocabulary.specs.declared.fault.status.Status.TheVariants as status
use Rattle.pf_vocabulary.specs.declared.names.named.Named.{Named}
use Rattle.pf_vocabulary.specs.declared.names.titles.Titles.{Titles}
use Rattle.pf_vocabulary.specs.declared.options.format.Format.{Format}

-- the plan that these rows are, and what they say
record IsPlanOf (c : Course) (p : Plain) (said saids : List Said) : Type 0 where
  pub titles : p.titles ≡ titles_of c.progress
  pub good : p.bad ≡ None
  pub saids_are : said ≡ saids

plan_runs : (column : ℕ → ℕ) (found : List Row) (rs : List (List (List ℕ))) (c : Course) (n end : ℕ) (d : Course) → map (λ row. row.fields) found ≡ rs → (runs : Runs c rs d)
    → d.progress.opened ≡ true → IsPlanOf d (plain_from column c n end found) (saids_from c found) (saids_in c rs d runs)
plan_runs column [] [] c n end d is runs came =
    let opened : c.progress.opened ≡ true = sym (ap (λ (q : Course). q.progress.opened) runs) ∙ came in
    record { titles = rw opened (ap (λ (q : Course). titles_of q.progress) (sym runs)); good = rw opened refl; saids_are = refl }
plan_runs column [] (r ∷ rs) c n end d is runs came = cc
plan_runs column (row ∷ found) [] c n end d is runs came = cc
plan_runs column (row ∷ found) (r ∷ rs) c n end d is runs came =
    let same : row.fields ≡ r = cc in
    let rest : map (λ row. row.fields) found ≡ rs = cc in
    let e : said_at c.progress row.fields ≡ Ok runs.0 = ap (λ (f : List (List ℕ)). said_at c.progress f) same ∙ runs.1 in
    let more = plan_runs column found rs (course_behind c runs.0) (n + 1) end d rest runs.2 came in
    record { titles = rw e more.titles; good = rw e more.good; saids_are = rw e (ap (λ (t : List Said). runs.0 ∷ t) more.saids_are) }

-- a script of rows under its heading
plan_found : (column : ℕ → ℕ) (end : ℕ) (found : List Row) (rs : List (List (List ℕ))) (d : Course) → map (λ row. row.fields) found ≡ heading_fields ∷ rs → (runs : Runs start rs d)
    → d.progress.opened ≡ true → (p : Plain) × (plain_of column end found ≡ Some p) × IsPlanOf d p (saids_of found) (saids_in start rs d runs)
unfolding is_plan_heading heading_fault is_word
plan_found column end [] rs d is runs came = cc
plan_found column end (row ∷ found) rs d is runs came =
    let same : row.fields ≡ heading_fields = cc in
    let rest : map (λ row. row.fields) found ≡ rs = cc in
    let is_of = plan_runs column found rs start 2 end d rest runs came in
    let p = with_heading column row.line (plain_from column start 2 end found) in (
      p,
      subst
          (λ (f : List (List ℕ)). (if is_plan_heading f then Some (with_heading column row.line (plain_behind column (heading_fault f) row.line end found)) else None) ≡ Some p)
          (sym same) refl,
      record {
        titles = is_of.titles;
        good = is_of.good;
        saids_are = ap (λ (f : List (List ℕ)). saids_behind (heading_fault f) found) same ∙ is_of.saids_are;
      },
    )

script_plan : (s : SessionState) (is : IsScripted s) → s.course.progress.opened ≡ true
    → (p : Plain) × (plain s.script ≡ Some p) × IsPlanOf s.course p (saids_of (rows s.script).rows) (saids_in start is.rows s.course is.runs)
script_plan s is came =
    subst
    (λ (t : List ℕ). (p : Plain) × (plain t ≡ Some p) × IsPlanOf s.course p (saids_of (rows t).rows) (saids_in start is.rows s.course is.runs))
    (sym is.script_is)
    (let text = lines_text false (heading_fields ∷ is.rows) in plan_found (first_column text) (rows text).end (rows text).rows is.rows s.course (script_rows s is) is.runs came)

-- the settings are told first, and then the others
abbrev AreAfter : List Said → Type 0
AreAfter [] = ⊤
AreAfter (Settings s ∷ saids) = ⊥
AreAfter (Slot length ∷ saids) = AreAfter saids
AreAfter (Name task name ∷ saids) = AreAfter saids
AreAfter (Asks line label ∷ saids) = AreAfter saids

one_after : (said : Said) (saids : List Said) (opened : Bool) (names : List Named) → opened ≡ true → CanBeWritten opened names said → AreAfter saids → AreAfter (said ∷ saids)
one_after (Settings s) saids opened names came can rest = let never : false ≡ true = sym can.0 ∙ came in cc
one_after (Slot length) saids opened names came can rest = rest
one_after (Name task name) saids opened names came can rest = rest
one_after (Asks line label) saids opened names came can rest = rest

all_after : (rs : List (List (List ℕ))) (c d : Course) (runs : Runs c rs d) → IsSound c → c.progress.opened ≡ true → AreAfter (saids_in c rs d runs)
all_after [] c d runs sound came = tt
all_after (r ∷ rs) c d runs sound came =
    one_after runs.0 (saids_in (course_behind c runs.0) rs d runs.2) c.progress.opened c.progress.names came
    (said_written c.progress r runs.0 sound.good.progress runs.1)
    (all_after rs (course_behind c runs.0) d runs.2 (sound_behind c r runs.0 sound runs.1) (opened_behind c r runs.0 sound runs.1))

-- how far a desk is after the settings
held_after : (saids : List Said) (n : ℕ) (h : ScriptCourse) → AreAfter saids → held_saids (Some h) saids ≡ Some (after_commands h (commands_in (lines_said n saids)))
held_after [] n h after = refl
held_after (Settings s ∷ saids) n h after = absurd after
held_after (Slot length ∷ saids) n h after = held_after saids n h after
held_after (Name task name ∷ saids) n h after = held_after saids n h after
held_after (Asks line label ∷ saids) n h after =
    held_after saids (n + 1) (after_commands h (commands_of line)) after
    ∙ ap (λ (c : ScriptCourse). Some c) (sym (course_behind-append h (commands_of line) (commands_in (lines_said (n + 1) saids))))

settings_within : (s : ScriptSettings) → AreSettings s → course_opened s ≡ record (course_opened s) { every = s.every }
settings_within s are = let within : max 1 (min s.every 4096) ≡ s.every = omega (arith, clamps, are.every.0, are.every.1) in
    ap (λ (n : ℕ). record (course_opened s) { every = n }) within

-- so far is a script that says this
first_said : (said : Said) (saids : List Said) (names : List Named) (c : ScriptCourse) → CanBeWritten false names said → AreAfter saids
    → held_saids None (said ∷ saids) ≡ Some c → outcome_of (settings_said (said ∷ saids)) (commands_in (lines_said 2 (said ∷ saids))) None ≡ Ok c
first_said (Settings s) saids names c can after held =
    let there : Some (after_commands (course_opened s) (commands_in (lines_said 3 saids))) ≡ Some c = sym (held_after saids 3 (course_opened s) after) ∙ held in
    let same : after_commands (course_opened s) (commands_in (lines_said 3 saids)) ≡ c = cc in
    ap (λ (q : ScriptCourse). Ok (after_commands q (commands_in (lines_said 3 saids)))) (sym (settings_within s can.1)) ∙ ap (λ (q : ScriptCourse). Ok q) same
first_said (Slot length) saids names c can after held = let never : false ≡ true = can.0 in cc
first_said (Name task name) saids names c can after held = let never : false ≡ true = can.0 in cc
first_said (Asks line label) saids names c can after held = let never : false ≡ true = can.0 in cc

outcome_run : (rs : List (List (List ℕ))) (d : Course) (runs : Runs start rs d) (c : ScriptCourse) → held_saids None (saids_in start rs d runs) ≡ Some c
    → outcome_of (settings_said (saids_in start rs d runs)) (commands_in (lines_said 2 (saids_in start rs d runs))) None ≡ Ok c
outcome_run [] d runs c held = let never : None ≡ Some c = held in cc
outcome_run (r ∷ rs) d runs c held =
    first_said runs.0 (saids_in (course_behind start runs.0) rs d runs.2) start.progress.names c (said_written start.progress r runs.0 sound_start.good.progress runs.1)
    (all_after rs (course_behind start runs.0) d runs.2 (sound_behind start r runs.0 sound_start runs.1) (opened_behind start r runs.0 sound_start runs.1)) held

-- where no record is bad, no fault is told
no_fault : (number : ℕ) (origins : List Origin) (bad : Option BadRecord) (told : Option FaultTold) → bad ≡ None → IsSameFault number origins bad told → told ≡ None
no_fault number origins None None none is = refl
no_fault number origins None (Some told) none is = absurd is
no_fault number origins (Some bad) told none is = let never : Some bad ≡ None = none in cc

-- the script of version 2 comes to where the session's desk is
script_outcome : (retold : ScriptsAreRetold) (s : SessionState) (is : IsScripted s) (c : ScriptCourse) → s.held ≡ Some c → (p : Plain) → plain s.script ≡ Some p
    → IsPlanOf s.course p (saids_of (rows s.script).rows) (saids_in start is.rows s.course is.runs) → outcome_told (told (table_text p.records)) ≡ Ok c
script_outcome retold s is c held p plan is_of =
    let t = told (table_text p.records) in
    let again = retold s.script p plan in
    let saids = saids_in start is.rows s.course is.runs in
    let none : t.rest.fault ≡ None = no_fault 1 p.origins p.bad t.rest.fault is_of.good again.fault in
    let opening : t.opening ≡ settings_said saids = again.opening ∙ ap settings_said is_of.saids_are in
    let lines : t.rest.lines ≡ lines_said 2 saids = again.lines ∙ ap (lines_said 2) is_of.saids_are in
    (λ i. outcome_of (opening i) (commands_in (lines i)) (fault_number (none i)))
    ∙ outcome_run is.rows s.course is.runs c (sym is.held ∙ held)

-- what the script means in a format of the desk
both_false : (a b : Bool) → (not a && not b) ≡ true → (a ≡ false) × (b ≡ false)
both_false true b is = let never : false ≡ true = is in cc
both_false false true is = let never : false ≡ true = is in cc
both_false false false is = (refl, refl)

meaning_is : (format : Format) (titles : Titles) (origins : Option (List Origin)) (script : List ℕ) (c : ScriptCourse) → length script ≤ longest_script
    → is_of_desk format ≡ true → outcome_told (told script) ≡ Ok c → script_meaning format titles origins script ≡ report_meaning format titles [] c
unfolding script_meaning
meaning_is format titles origins script c short of_desk there =
    let fits : nat_lt longest_script (length script) ≡ false = search (rules, tests) in
    let none = both_false (has_replies format) (tells_refusals format) of_desk in
    let replies = replies_told (told script) in
    rw fits
    (ap (λ (o : Result ScriptCourse ℕ). text_and_then (text_if_replies format replies) (ended_meaning format titles (refusals_for format origins script) o)) there
    ∙ ap (λ (b : Bool). text_and_then (if b then replies else []) (report_meaning format titles (refusals_for format origins script) c)) none.0
    ∙ ap (λ (b : Bool). report_meaning format titles (if b then refused_in origins script else []) c) none.1)

-- it is shown so
module _ (format : Format) (titles : Titles) (origins : Option (List Origin)) (script : List ℕ) (bad : Option BadRecord) (m : Meaning)
    (means : script_meaning format titles origins script ≡ m) where
  report_shown : (n : ℕ) (showing : Showing) → ShowsMeaning format n m showing
      → (made : Result Answer Fault) × Answers (Report format) titles origins script made × IsShown (Report format) n bad made showing
  report_shown n (Text text) is =
      let ending : Ending = record { status = status.Done; notes = record text { len = 0; items = []; ok = (refl, omega arith) } } in (
        Ok (record { text = text; ending = ending }),
        (
          subst (λ (q : Meaning). Means q (Ok ending) (Some []) (Some text.items)) (sym means) (is.0, is.1),
          record { ends = refl; notes = refl },
        ),
        refl,
      )
  report_shown n (Bad words) is = (
    Err (why.BadRange is.0),
    (m.text, subst (λ (q : Meaning). Means {A = Ending} q (Err (why.BadRange is.0)) (Some []) (Some m.text)) (sym means) (is.1, refl)),
    is.2,
  )

module _ (s : SessionState) (c : ScriptCourse) (p : Plain) (plan : plain s.script ≡ Some p) (titles : p.titles ≡ titles_of s.course.progress)
    (short : length (table_text p.records) ≤ longest_script) (there : outcome_told (told (table_text p.records)) ≡ Ok c) where
  by_plan : (w : Wanted) (showing : Showing)
      → (made : Result Answer Fault) × Answers w (titles_of s.course.progress) (Some p.origins) (table_text p.records) made × IsShown w c.state.now p.bad made showing
      → Shows c.state.now w s.script showing
  by_plan w showing made =
      subst (λ (q : Option Plain). ShowsOf c.state.now q w s.script showing) (sym plan)
      (subst (λ (t : Titles). ShowsShort c.state.now p.bad t (Some p.origins) w (table_text p.records) showing) (sym titles)
      (record { short = λ h. made; long = λ h. absurd (omega (arith, short, h)) }))

  report_by : (b : Bool) (format : Format) (showing : Showing) → is_of_desk format ≡ b → ReportShows b c (titles_of s.course.progress) format s.script showing
      → Shows c.state.now (Report format) s.script showing
  report_by true format showing of_desk shown =
      by_plan (Report format) showing
      (report_shown format (titles_of s.course.progress) (Some p.origins) (table_text p.records) p.bad (report_meaning format (titles_of s.course.progress) [] c)
      (meaning_is format (titles_of s.course.progress) (Some p.origins) (table_text p.records) c short of_desk there) c.state.now showing shown)
  report_by false format showing of_desk shown = shown

  desk_by : (w : Wanted) (showing : Showing) → DeskShows c (titles_of s.course.progress) w s.script showing → Shows c.state.now w s.script showing
  desk_by (Report format) showing shown = report_by (is_of_desk format) format showing refl shown
  desk_by (Why question) showing shown = by_plan (Why question) showing (Ok shown.0, (c, there, shown.1), shown.2)
  desk_by Fit showing shown = shown

-- Use: the law.
pub sessions_show : ScriptsAreRetold → SessionsShowTheirScripts
sessions_show retold w s showing session short shown = by s.held refl shown
  where
    is : IsScripted s
    is = session_scripted s session

    with_desk : (c : ScriptCourse) → s.held ≡ Some c → s.course.progress.opened ≡ true → DeskShows c (titles_of s.course.progress) w s.script showing → Shows c.state.now w s.script showing
    with_desk c held came shows =
        let found = script_plan s is came in
        desk_by s c found.0 found.1 found.2.titles (short found.0 found.1) (script_outcome retold s is c held found.0 found.1 found.2) w showing shows

    opened : (c : ScriptCourse) → s.held ≡ Some c → s.course.progress.opened ≡ true
    opened c held = some is.came
      where
        some : (is.rows ≡ []) ⊎ (s.course.progress.opened ≡ true) → s.course.progress.opened ≡ true
        some (inr came) = came
        some (inl none) = let never : None ≡ Some c = sym (no_desk is.rows s.course is.runs none) ∙ sym is.held ∙ held in cc

    by : (h : Option ScriptCourse) → s.held ≡ h → HeldShows h (titles_of s.course.progress) w s.script showing
        → Shows (option_map_or (λ c. c.state.now) h 0) w s.script showing
    by None held shows = shows
    by (Some c) held shows = with_desk c held (opened c held) shows
