-- The script of a session, after a gate or without, opens as that session.
use Rattle.std.proofs.Common.{◌≡◌, ◌∙◌, ◌+◌, ℕ, Bool, true, false, List, [], ◌∷◌, ◌++◌, Ok, map, codes, append_assoc, append-nil, refl, sym, ap, subst}
use Rattle.std.specs.Prelude.{if◌then◌else◌, not}
use Rattle.std.proofs.lemmas.List.Elements.{All-cons, All-nil}
use Rattle.csv.specs.Reading.{strip_bom}
use Rattle.csv.specs.Records.{trim_end, trim_start}
use Rattle.pf_session_lines.specs.Lines.{line_of}
use Rattle.pf_plain_script.specs.Plain.{Course, start}
use Rattle.pf_text.specs.Rows.Rows.{Row, rows}
use Rattle.pf_script.specs.Fields.{is_word}
use Rattle.pf_script.specs.Told.{told}
use Rattle.pf_answers.specs.declared.manner.Manner.{Manner}
use Rattle.pf_session_turns.specs.Opening.{behind_rows, opened, opened_plain, opened_plan, opened_rows}
use Rattle.pf_session.specs.Session.{SessionState, at_start, behind_record}
use Rattle.pf_script.specs.Plan.Heading.{heading_fault, is_plan_heading}
use Rattle.pf_script.specs.Plan.Parsing.{said_at}
use Rattle.pf_session_laws.specs.Resumed.{IsAgain, ScriptsBeginAgain}
use Rattle.pf_session_laws.proofs.Reading.{IsPlain, IsRead, lines_text, rows_again}
use Rattle.pf_session_laws.proofs.Scripted.{IsScripted, Runs, held_saids, saids_in, session_scripted}

-- a session after these records, which make this course
record Follows (u : SessionState) (rs : List (List (List ℕ))) (d : Course) (runs : Runs u.course rs d) (v : SessionState) : Type 0 where
  pub manner : v.manner ≡ u.manner
  pub course : v.course ≡ d
  pub held : v.held ≡ held_saids u.held (saids_in u.course rs d runs)
  pub script : v.script ≡ u.script ++ lines_text false rs
  pub bad : v.has_bad ≡ u.has_bad
  pub first : u.is_first ≡ false → v.is_first ≡ false

-- the records are taken, one after the other
runs_on : (found : List Row) (rs : List (List (List ℕ))) (u : SessionState) (n : ℕ) (d : Course) → map (λ row. row.fields) found ≡ rs
    → (runs : Runs u.course rs d) → d.progress.opened ≡ true → (v : SessionState) × (behind_rows u n found ≡ Ok v) × Follows u rs d runs v
runs_on [] [] u n d is runs settled =
    let came : u.course.progress.opened ≡ true = sym (ap (λ (c : Course). c.progress.opened) runs) ∙ settled in (
      u,
      rw came refl,
      record { manner = refl; course = sym runs; held = refl; script = sym (append-nil u.script); bad = refl; first = λ h. h },
    )
runs_on [] (r ∷ rs) u n d is runs settled = cc
runs_on (row ∷ found) [] u n d is runs settled = cc
runs_on (row ∷ found) (r ∷ rs) u n d is runs settled =
    let same : row.fields ≡ r = cc in
    let rest : map (λ row. row.fields) found ≡ rs = cc in
    let e : said_at u.course.progress row.fields ≡ Ok runs.0 = ap (λ (f : List (List ℕ)). said_at u.course.progress f) same ∙ runs.1 in
    let more = runs_on found rs (behind_record u runs.0 (line_of row.fields)) (n + 1) d rest runs.2 settled in (
      more.0,
      rw e more.1,
      record {
        manner = more.2.manner;
        course = more.2.course;
        held = more.2.held;
        script = more.2.script ∙ append_assoc u.script (line_of row.fields) (lines_text false rs)
            ∙ ap (λ (f : List (List ℕ)). u.script ++ (line_of f ++ lines_text false rs)) same;
        bad = more.2.bad;
        first = λ h. more.2.first refl;
      },
    )

abbrev pub heading_fields : List (List ℕ)
heading_fields = codes "plan" ∷ codes "1" ∷ []

heading_read : IsRead heading_fields
unfolding trim_start trim_end
heading_read = (refl, (refl, refl), All-cons IsPlain (codes "1") [] (refl, refl) (All-nil IsPlain))

plan_opened : (manner : Manner) (bytes : List ℕ) (found : List Row) (rs : List (List (List ℕ))) (d : Course) → map (λ row. row.fields) found ≡ heading_fields ∷ rs
    → (runs : Runs start rs d) → d.progress.opened ≡ true
    → (v : SessionState) × (opened_rows (at_start manner) bytes found ≡ Ok v) × Follows (record (at_start manner) { is_first = false }) rs d runs v
unfolding is_plan_heading heading_fault is_word
plan_opened manner bytes [] rs d is runs came = cc
plan_opened manner bytes (row ∷ found) rs d is runs came =
    let same : row.fields ≡ heading_fields = cc in
    let rest : map (λ row. row.fields) found ≡ rs = cc in
    let more = runs_on found rs (record (at_start manner) { is_first = false }) 2 d rest runs came in (
      more.0,
      subst
          (λ (f : List (List ℕ)). (if is_plan_heading f then opened_plan (at_start manner) (heading_fault f) found
          else opened_plain (at_start manner) (row ∷ found) (told bytes).rest.fault) ≡ Ok more.0)
          (sym same) more.1,
      more.2,
    )

unmarked : (g : Bool) (rs : List (List (List ℕ))) → strip_bom (lines_text g (heading_fields ∷ rs)) ≡ lines_text g (heading_fields ∷ rs)
unfolding strip_bom
unmarked true rs = refl
unmarked false rs = refl

-- Use: the rows of a session's script.
pub script_rows : (s : SessionState) (is : IsScripted s) → map (λ row. row.fields) (rows (lines_text false (heading_fields ∷ is.rows))).rows ≡ heading_fields ∷ is.rows
script_rows s is = rows_again false (heading_fields ∷ is.rows) (heading_read, is.read) (unmarked false is.rows)

-- Use: the lines of its records, after the heading's.
pub text_again : (g : Bool) (manner : Manner) (s : SessionState) (is : IsScripted s) → s.course.progress.opened ≡ true
    → IsAgain manner s (opened manner (lines_text g (heading_fields ∷ is.rows)))
text_again g manner s is came =
    let text = lines_text g (heading_fields ∷ is.rows) in
    let found = rows_again g (heading_fields ∷ is.rows) (heading_read, is.read) (unmarked g is.rows) in
    let made = plan_opened manner text (rows text).rows is.rows s.course found is.runs came in
    let f = made.2 in
    let first : made.0.is_first ≡ not s.course.progress.opened = f.first refl ∙ sym (ap not came) in
    let held : made.0.held ≡ s.held = f.held ∙ sym is.held in
    let script : made.0.script ≡ s.script = f.script ∙ sym is.script_is in (
      made.0,
      made.1,
      λ k. record {
        manner = f.manner k;
        is_first = first k;
        course = f.course k;
        held = held k;
        script = script k;
        made = [];
        undone = [];
        has_bad = f.bad k;
      },
    )

-- Use: the script of a session.
pub script_again : ScriptsBeginAgain
script_again manner s session came =
    let is = session_scripted s session in
    subst (λ (t : List ℕ). IsAgain manner s (opened manner t)) (sym is.script_is) (text_again false manner s is came)
