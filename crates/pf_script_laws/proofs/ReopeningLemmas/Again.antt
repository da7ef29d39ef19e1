-- A script, read again.
use Rattle.std.proofs.Common.{◌≡◌, ◌∙◌, ◌^◌, ◌+◌, ◌<◌, ◌≤◌, ◌==◌, ℕ, zero, suc, Bool, true, false, List, [], ◌∷◌, ◌++◌, None, Some, All, codes, map, length, length-append, get_or, ⊎_elim, refl, sym, ap, ap₂, arith}
use Rattle.std.specs.Fmt.{decimal}
use Rattle.std.proofs.lemmas.Bool.Decides.{nat_tests}
use Rattle.std.proofs.lemmas.List.{map-append}
use Rattle.std.proofs.lemmas.List.Elements.{All-head, All-tail}
use Rattle.std.specs.Prelude.{if◌then◌else◌, Result, Ok}
use Rattle.csv.specs.Machine.{next_record}
use Rattle.csv.specs.Reading.{records, records_from, default_config, strip_bom}
use Rattle.csv.specs.Writing.{row_body, row_text, end_text, default_writer, read_back, escaped, fields_text, is_blank}
use Rattle.csv.specs.declared.parser.State.TheVariants as st
use Rattle.csv.proofs.RoundTrip.{read-write}
use Rattle.pf_scenario.specs.System.{System, IsInLimits, near_horizon}
use Rattle.pf_scenario.specs.declared.event.Event.{Event}
use Rattle.pf_scenario.specs.declared.event.Event.TheVariants.{Join, Leave, Delay, Limit}
use Rattle.pf_scenario.specs.declared.event.Numbered.{Numbered}
use Rattle.pf_scenario.specs.declared.change.Change.TheVariants.{Insert}
use Rattle.pf_desk.specs.Desk.{Seen}
use Rattle.pf_script.specs.Fields.{is_word}
use Rattle.pf_script.specs.Grammar.{horizon_of}
use Rattle.pf_script.specs.Parsing.{heading_at, line_at, record_at}
use Rattle.pf_script.specs.Places.{record_lines, lines_behind}
use Rattle.pf_script.specs.Script.{script_records}
use Rattle.pf_script.specs.Told.{LinesTold, Good, readings_from, rest_in, told, told_in}
use Rattle.pf_script.specs.declared.fault.RecordFault.{RecordFault}
use Rattle.pf_script.specs.declared.record.Record.TheVariants.{Settings}
use Rattle.pf_script.specs.declared.stage.Stage.TheVariants.{Beginning, Opened}
use Rattle.pf_script.specs.declared.version.Version.{Version}
use Rattle.pf_script.specs.declared.version.Version.TheVariants.{First, Second}
use Rattle.pf_script.specs.declared.line.Line.{Line}
use Rattle.pf_script.specs.declared.line.Line.TheVariants.{Edit, Steps}
use Rattle.pf_text.specs.Page.{table_text}
use Rattle.pf_vocabulary.specs.Names.Titled.{untitled}
use Rattle.pf_report.specs.Script.{settings_record, insert_record, insert_records, step_records, script_rows, script_text_of}
use Rattle.pf_script_laws.specs.Reopening.Reopen.{CanBeWritten, insert_lines, lines_told, step_lines, told_of, ScriptsAreReadAgain}
use Rattle.pf_script_laws.proofs.ReopeningLemmas.Lines.{AreShort, IsAllowed, short_from, insert_again, steps_again, settings_again}

-- a record has a byte at least: the end of its line
row_some : (fields : List (List ℕ)) → 1 ≤ length (row_text default_writer fields)
row_some fields =
    let quotes = if is_blank default_writer fields then default_writer.quote ∷ default_writer.quote ∷ [] else [] in
    let end = end_text default_writer.terminator in
    omega (arith, length-append (row_body default_writer fields) (quotes ++ end), length-append quotes end)

-- the records of a table are read as they were written
pub table_again : (n : ℕ) (rows : List (List (List ℕ))) → length (table_text rows) < n
    → records_from default_config n st.StartRecord (table_text rows) ≡ map read_back rows
unfolding records_from next_record
table_again zero rows long = absurd (omega arith)
table_again (suc n) [] long = refl
table_again (suc n) (row ∷ rows) long =
    let some = row_some row in
    rw (read-write row (table_text rows))
    (ap (λ (t : List (List (List ℕ))). read_back row ∷ t)
    (table_again n rows (omega (arith, some, length-append (row_text default_writer row) (table_text rows)))))

insert_kept : (event : Event) → read_back (insert_record event) ≡ insert_record event
insert_kept (Join slot task cost period early) = refl
insert_kept (Leave slot task) = refl
insert_kept (Delay slot task by) = refl
insert_kept (Limit slot count) = refl

steps_kept : (b : Bool) (fields : List (List ℕ)) → read_back fields ≡ fields → map read_back (if b then [] else fields ∷ []) ≡ (if b then [] else fields ∷ [])
steps_kept true fields e = refl
steps_kept false fields e = ap (λ f. f ∷ []) e

kept : (xs : List Numbered) (b : Bool) (fields : List (List ℕ)) → read_back fields ≡ fields
    → map read_back (insert_records xs ++ (if b then [] else fields ∷ [])) ≡ insert_records xs ++ (if b then [] else fields ∷ [])
kept [] b fields e = steps_kept b fields e
kept (x ∷ xs) b fields e = rw (insert_kept x.event) (ap (λ (t : List (List (List ℕ))). insert_record x.event ∷ t) (kept xs b fields e))

-- all records of a script are kept
script_kept : (b : Bool) (s : System) (every : ℕ) (xs : List Numbered) (n : ℕ)
    → map read_back ((if b then [] else (codes "pfair" ∷ codes "2" ∷ []) ∷ []) ++ settings_record s every ∷ (insert_records xs ++ step_records n))
    ≡ (if b then [] else (codes "pfair" ∷ codes "2" ∷ []) ∷ []) ++ settings_record s every ∷ (insert_records xs ++ step_records n)
script_kept true s every xs n =
    ap (λ (t : List (List (List ℕ))). settings_record s every ∷ t) (kept xs (n == 0) (codes "step" ∷ decimal n ∷ []) refl)
script_kept false s every xs n =
    ap (λ (t : List (List (List ℕ))). (codes "pfair" ∷ codes "2" ∷ []) ∷ settings_record s every ∷ t)
    (kept xs (n == 0) (codes "step" ∷ decimal n ∷ []) refl)

-- no script begins with a byte order mark
unmarked : (b : Bool) (s : System) (every : ℕ) (rows : List (List (List ℕ)))
    → strip_bom (table_text ((if b then [] else (codes "pfair" ∷ codes "2" ∷ []) ∷ []) ++ settings_record s every ∷ rows))
    ≡ table_text ((if b then [] else (codes "pfair" ∷ codes "2" ∷ []) ∷ []) ++ settings_record s every ∷ rows)
unfolding strip_bom escaped fields_text is_blank
unmarked true s every rows = refl
unmarked false s every rows = refl

-- the records of a script are read as they were written
pub records_again : (every : ℕ) (seen : Seen) → script_records (script_text_of every seen untitled) ≡ script_rows every seen untitled
unfolding script_text_of
records_again every seen =
    let s = seen.state.plan.settings in
    let b = s.horizon == near_horizon in
    let text = table_text (script_rows every seen untitled) in
    ap (records default_config) (unmarked b s every (insert_records seen.state.plan.events ++ step_records seen.state.now))
    ∙ table_again (length text + 1) (script_rows every seen untitled) (omega arith)
    ∙ script_kept b s every seen.state.plan.events seen.state.now

-- the inserts are read as such
inserts_again : (version : Version) (xs : List Numbered) → All (λ x. AreShort x.event) xs → All (λ x. IsAllowed version x.event) xs
    → map (line_at version) (insert_records xs) ≡ map (λ line. Ok line) (insert_lines xs)
inserts_again version [] short allowed = refl
inserts_again version (x ∷ xs) short allowed =
    rw (insert_again version x.event (All-head (λ x. AreShort x.event) x xs short) (All-head (λ x. IsAllowed version x.event) x xs allowed))
    (ap (λ (t : List (Result Line RecordFault)). Ok (Edit (Insert x.event) false) ∷ t)
    (inserts_again version xs (All-tail (λ x. AreShort x.event) x xs short) (All-tail (λ x. IsAllowed version x.event) x xs allowed)))

-- and the steps
step_lines_by : (version : Version) (n : ℕ) (b : Bool) → (n == 0) ≡ b → n ≤ horizon_of version → n < 10 ^ 15
    → map (line_at version) (if b then [] else (codes "step" ∷ decimal n ∷ []) ∷ []) ≡ map (λ line. Ok line) (if b then [] else Steps n ∷ [])
step_lines_by version n true none within short = refl
step_lines_by version n false some within short =
    ap (λ line. line ∷ []) (steps_again version n (grind (arith, nat_tests, some)) within short)

step_lines_again : (version : Version) (n : ℕ) → n ≤ horizon_of version → n < 10 ^ 15
    → map (line_at version) (step_records n) ≡ map (λ line. Ok line) (step_lines n)
step_lines_again version n within short = step_lines_by version n (n == 0) refl within short

-- records that are lines are told as these, on whatever lines of the text they stand
lines_read : (version : Version) (number : ℕ) (places : List ℕ) (rows : List (List (List ℕ))) (lines : List Line)
    → map (line_at version) rows ≡ map (λ line. Ok line) lines
    → rest_in (readings_from (Opened version) number places rows) ≡ record { lines = lines_told number lines; fault = None }
unfolding readings_from record_at
lines_read version number places [] [] are = refl
lines_read version number places [] (line ∷ lines) are = absurd (cc)
lines_read version number places (fields ∷ rows) [] are = absurd (cc)
lines_read version number places (fields ∷ rows) (line ∷ lines) are =
    let first : line_at version fields ≡ Ok line = cc in
    let rest : map (line_at version) rows ≡ map (λ line. Ok line) lines = cc in
    rw first (ap (λ (told : LinesTold). record { lines = record { number = number; asks = line } ∷ told.lines; fault = told.fault })
    (lines_read version (number + 1) (lines_behind places) rows lines rest))

-- and the settings before them
opening_read : (version : Version) (s : System) (every number : ℕ) (places : List ℕ) (rows : List (List (List ℕ))) (lines : List Line)
    → map (line_at version) rows ≡ map (λ line. Ok line) lines
    → told_in (Good (record { number = number; says = Settings (record { version = version; settings = s; every = every }) }) ∷ readings_from (Opened version) (number + 1) places rows)
    ≡ record {
      opening = Some (record { version = version; settings = s; every = every });
      rest = record { lines = lines_told (number + 1) lines; fault = None };
    }
opening_read version s every number places rows lines are =
    ap (λ (rest : LinesTold). record { opening = Some (record { version = version; settings = s; every = every }); rest = rest })
    (lines_read version (number + 1) places rows lines are)

module _ (every : ℕ) (seen : Seen) (can : CanBeWritten every seen) where
  abbrev settings : System
  settings = seen.state.plan.settings

  abbrev rows : List (List (List ℕ))
  rows = insert_records seen.state.plan.events ++ step_records seen.state.now

  abbrev lines : List Line
  lines = insert_lines seen.state.plan.events ++ step_lines seen.state.now

  limits : IsInLimits settings.processors settings.base settings.cap
  limits = can.scenario.settings.limits

  -- the horizon is that of the version
  of_version : (b : Bool) → (settings.horizon == near_horizon) ≡ b → horizon_of (if b then First else Second) ≡ settings.horizon
  of_version true is = sym (grind (arith, nat_tests, is))
  of_version false is = ⊎_elim (λ near. absurd (grind (arith, nat_tests, is, near))) (λ wide. sym wide) can.scenario.settings.horizon

  pub least_horizon : settings.horizon ≤ 2 ^ 22
  least_horizon = ⊎_elim (λ near. omega (arith, near)) (λ wide. omega (arith, wide)) can.scenario.settings.horizon

  pub short : All (λ x. AreShort x.event) seen.state.plan.events
  short = λ k d within. short_from settings (get_or seen.state.plan.events k d).event limits least_horizon (can.scenario.limits k d within)

  allowed_in : (b : Bool) → (settings.horizon == near_horizon) ≡ b → All (λ x. IsAllowed (if b then First else Second) x.event) seen.state.plan.events
  allowed_in true is = can.limits (grind (arith, nat_tests, is))
  allowed_in false is = λ k d within. tt

  lines_again : (b : Bool) → (settings.horizon == near_horizon) ≡ b → map (line_at (if b then First else Second)) rows ≡ map (λ line. Ok line) lines
  lines_again b is =
      let version = if b then First else Second in
      let stepped : seen.state.now ≤ horizon_of version = rw (of_version b is) can.stepped in
      let few : seen.state.now < 10 ^ 15 = omega (arith, can.stepped, least_horizon) in
      map-append (line_at version) (insert_records seen.state.plan.events) (step_records seen.state.now)
      ∙ ap₂ (λ (xs ys : List (Result Line RecordFault)). xs ++ ys)
      (inserts_again version seen.state.plan.events short (allowed_in b is))
      (step_lines_again version seen.state.now stepped few)
      ∙ sym (map-append (λ line. Ok line) (insert_lines seen.state.plan.events) (step_lines seen.state.now))

  -- with its heading, or without one
  told_from : (b : Bool) → (settings.horizon == near_horizon) ≡ b → (places : List ℕ)
      → told_in (readings_from Beginning 1 places ((if b then [] else (codes "pfair" ∷ codes "2" ∷ []) ∷ []) ++ settings_record settings every ∷ rows))
      ≡ record {
        opening = Some (record { version = if b then First else Second; settings = settings; every = every });
        rest = record { lines = lines_told (if b then 2 else 3) lines; fault = None };
      }
  unfolding readings_from record_at heading_at is_word
  told_from true is places =
      rw (settings_again First settings every limits can.distance (of_version true is))
      (opening_read First settings every 1 (lines_behind places) rows lines (lines_again true is))
  told_from false is places =
      rw (settings_again Second settings every limits can.distance (of_version false is))
      (opening_read Second settings every 2 (lines_behind (lines_behind places)) rows lines (lines_again false is))

  pub told_again : told (script_text_of every seen untitled) ≡ told_of every settings lines
  told_again =
      ap (λ records. told_in (readings_from Beginning 1 (record_lines (script_text_of every seen untitled)) records)) (records_again every seen)
      ∙ told_from (settings.horizon == near_horizon) refl (record_lines (script_text_of every seen untitled))

pub scripts_are_read_again : ScriptsAreReadAgain
scripts_are_read_again every seen can = told_again every seen can
