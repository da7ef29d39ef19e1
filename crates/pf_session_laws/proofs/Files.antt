-- A journal that has the records of a session has the lines of its script, each after a gate.
use Rattle.std.proofs.Common.{◌≡◌, ◌∙◌, ◌==◌, ℕ, Bool, true, false, List, [], ◌∷◌, ◌++◌, None, Ok, All, codes, drop, map, append_assoc, refl, sym, ap, subst, inl, inr}
use Rattle.std.specs.Prelude.{◌⊎◌, if◌then◌else◌, nat_eq, not}
use Rattle.std.specs.List.{flat_map, list_any, starts_with}
use Rattle.std.proofs.lemmas.Bool.{cases_Bool, eqb-true, or_parts}
use Rattle.std.proofs.lemmas.Bool.Decides.{Decides-eqb}
use Rattle.std.proofs.lemmas.List.Elements.{All-head, All-tail}
use Rattle.std.proofs.lemmas.List.Folds.{list_any-append}
use Rattle.std.proofs.lemmas.Slice.Eq.{starts_is}
use Rattle.csv.specs.Writing.{default_writer, needs_byte}
use Rattle.pf_session_lines.specs.Lines.{line_of}
use Rattle.pf_journal.specs.Lines.{heading, is_new, line_of as gated_line, lines_of, records_of, script_of, state_from, state_of, texts_from, texts_of}
use Rattle.pf_journal.specs.Texts.{whole_behind, whole_lines}
use Rattle.pf_journal.specs.declared.state.State.TheVariants.{New, Other}
use Rattle.pf_journal_session.specs.Journaled.{behind_file, session_on}
use Rattle.pf_plain_script.specs.Plain.{Course, start}
use Rattle.pf_journal.specs.Recorder.Recording.{records_in}
use Rattle.pf_answers.specs.declared.manner.Manner.{Manner}
use Rattle.pf_session_turns.specs.Opening.{opened}
use Rattle.pf_session.specs.Session.{SessionState, at_start}
use Rattle.pf_session_laws.specs.Resumed.{HasRecords, IsAgain, JournalsBeginAgain}
use Rattle.pf_session_laws.proofs.Opened.{heading_fields, text_again}
use Rattle.pf_session_laws.proofs.Reading.{AreRead, IsPlain, IsRead, lines_text}
use Rattle.pf_session_laws.proofs.Scripted.{IsScripted, Runs, held_saids, saids_in, session_scripted}

-- the line of a record, without its end
abbrev pub body : List (List ℕ) → List ℕ
body [] = []
body (x ∷ xs) = x ++ flat_map (λ f. codes "," ++ f) xs

line_is : (r : List (List ℕ)) → line_of r ≡ body r ++ (10 ∷ [])
line_is [] = refl
line_is (x ∷ xs) = sym (append_assoc x (flat_map (λ f. codes "," ++ f) xs) (codes "\n"))

line_then : (r : List (List ℕ)) (tail : List ℕ) → line_of r ++ tail ≡ body r ++ (10 ∷ tail)
line_then r tail = ap (λ (t : List ℕ). t ++ tail) (line_is r) ∙ append_assoc (body r) (10 ∷ []) tail

-- no end stands within it
abbrev ends_none : List ℕ → Type 0
ends_none x = list_any (λ b. b == 10) x ≡ false

byte_ends_none : (b : ℕ) → needs_byte default_writer b ≡ false → (b == 10) ≡ false
byte_ends_none b plain = elim (cases_Bool (b == 10)) [
  | inl same ↦ let bad : true ≡ false = sym (ap (needs_byte default_writer) (eqb-true b 10 same)) ∙ plain in cc
  | inr other ↦ other
]

plain_ends_none : (x : List ℕ) → list_any (needs_byte default_writer) x ≡ false → ends_none x
plain_ends_none [] plain = refl
plain_ends_none (b ∷ x) plain =
    rw (byte_ends_none b (or_parts (needs_byte default_writer b) (list_any (needs_byte default_writer) x) plain).0)
    (plain_ends_none x (or_parts (needs_byte default_writer b) (list_any (needs_byte default_writer) x) plain).1)

both_end_none : (a b : List ℕ) → ends_none a → ends_none b → ends_none (a ++ b)
both_end_none a b first second = list_any-append (λ b. b == 10) a b ∙ rw (first, second) refl

more_end_none : (xs : List (List ℕ)) → All IsPlain xs → ends_none (flat_map (λ f. codes "," ++ f) xs)
more_end_none [] plain = refl
more_end_none (x ∷ xs) plain =
    both_end_none x (flat_map (λ f. codes "," ++ f) xs) (plain_ends_none x (All-head IsPlain x xs plain).0) (more_end_none xs (All-tail IsPlain x xs plain))

body_ends_none : (r : List (List ℕ)) → IsRead r → ends_none (body r)
body_ends_none [] is = absurd is
body_ends_none ([] ∷ xs) is = absurd is
body_ends_none ((c ∷ w) ∷ xs) is = both_end_none (c ∷ w) _ (plain_ends_none (c ∷ w) is.1.0) (more_end_none xs is.2)

whole_run : (front x tail : List ℕ) → ends_none x → whole_behind front (x ++ tail) ≡ whole_behind (front ++ x) tail
whole_run front [] tail none = ap (λ (t : List ℕ). whole_behind t tail) (sym (no_more front))
  where
    no_more : (t : List ℕ) → t ++ [] ≡ t
    no_more [] = refl
    no_more (b ∷ t) = ap (λ (u : List ℕ). b ∷ u) (no_more t)
whole_run front (b ∷ x) tail none =
    rw (or_parts (b == 10) (list_any (λ b. b == 10) x) none).0
    (whole_run (front ++ b ∷ []) x tail (or_parts (b == 10) (list_any (λ b. b == 10) x) none).1
    ∙ ap (λ (t : List ℕ). whole_behind t tail) (append_assoc front (b ∷ []) x))

pub whole_all : (rs : List (List (List ℕ))) → AreRead rs → whole_lines (lines_text false rs) ≡ map body rs
whole_all [] read = refl
whole_all (r ∷ rs) read =
    ap whole_lines (line_then r (lines_text false rs)) ∙ whole_run [] (body r) (10 ∷ lines_text false rs) (body_ends_none r read.0)
    ∙ ap (λ (ls : List (List ℕ)). body r ∷ ls) (whole_all rs read.1)

-- Use: the records of a session's script.
pub records_are : (s : SessionState) (is : IsScripted s) → records_in s.script ≡ map body is.rows
records_are s is = ap records_in is.script_is ∙ whole_all is.rows is.read

-- after gates
gates_text : (rs : List (List (List ℕ))) → lines_of (map body rs) ≡ lines_text true rs
gates_text [] = refl
gates_text (r ∷ rs) =
    ap (λ (t : List ℕ). 32 ∷ t) (append_assoc (body r) (10 ∷ []) (lines_of (map body rs)) ∙ ap (λ (t : List ℕ). body r ++ (10 ∷ t)) (gates_text rs)
    ∙ sym (line_then r (lines_text true rs)))

-- a file with a record
old_file : (file first : List ℕ) (rest : List (List ℕ)) → records_of file ≡ first ∷ rest → is_new file ≡ false
old_file file first rest is = elim (cases_Bool (is_new file)) [
  | inl new ↦ let bad : [] ≡ first ∷ rest = sym (ap (λ (b : Bool). if b then [] else drop 1 (texts_of file)) new) ∙ is in cc
  | inr old ↦ old
]

headed : (file : List ℕ) → is_new file ≡ false → (state_of file ≡ Other → ⊥) → starts_with nat_eq file (gated_line heading) ≡ true
headed file old known = elim (cases_Bool (starts_with nat_eq file (gated_line heading))) [
  | inl begins ↦ begins
  | inr other ↦
      absurd (known (ap (λ (b : Bool). if b then New else state_from (starts_with nat_eq file (gated_line heading)) file) old
      ∙ ap (λ (b : Bool). state_from b file) other))
]

first_text : (file : List ℕ) → starts_with nat_eq file (gated_line heading) ≡ true → texts_of file ≡ heading ∷ texts_from None (drop 8 file)
first_text file is = ap texts_of ((starts_is Decides-eqb file (gated_line heading) true (sym is)).0 refl)

script_is : (file : List ℕ) (rs : List (List (List ℕ))) → is_new file ≡ false → (state_of file ≡ Other → ⊥) → records_of file ≡ map body rs
    → script_of file ≡ lines_text true (heading_fields ∷ rs)
script_is file rs old known is =
    let texts = first_text file (headed file old known) in
    let behind : records_of file ≡ texts_from None (drop 8 file) =
    ap (λ (b : Bool). if b then [] else drop 1 (texts_of file)) old ∙ ap (λ (ts : List (List ℕ)). drop 1 ts) texts in
    ap (λ (b : Bool). if b then [] else lines_of (texts_of file)) old
    ∙ ap lines_of (texts ∙ ap (λ (ts : List (List ℕ)). heading ∷ ts) (sym behind ∙ is))
    ∙ ap (λ (t : List ℕ). gated_line heading ++ t) (gates_text rs)

-- Use: there is no desk without a record.
pub no_desk : (rs : List (List (List ℕ))) (d : Course) (runs : Runs start rs d) → rs ≡ [] → held_saids None (saids_in start rs d runs) ≡ None
no_desk [] d runs none = refl
no_desk (r ∷ rs) d runs none = cc

-- a session without a record
none_again : (manner : Manner) (s : SessionState) → IsScripted s → s.course ≡ start → s.held ≡ None → s.script ≡ codes "plan,1\n"
    → IsAgain manner s (Ok (at_start manner))
none_again manner s is at held script = (
  at_start manner,
  refl,
  λ k. record {
    manner = manner;
    is_first = not (sym at k).progress.opened;
    course = sym at k;
    held = sym held k;
    script = sym script k;
    made = [];
    undone = [];
    has_bad = false;
  },
)

file_again : (manner : Manner) (s : SessionState) (file : List ℕ) (is : IsScripted s) (rs : List (List (List ℕ))) → is.rows ≡ rs → records_of file ≡ map body rs
    → (state_of file ≡ Other → ⊥) → IsAgain manner s (behind_file manner (records_of file) (script_of file))
file_again manner s file is [] are records known =
    let course : s.course ≡ start = subst (λ (rs : List (List (List ℕ))). Runs start rs s.course) are is.runs in
    let script : s.script ≡ codes "plan,1\n" = is.script_is ∙ ap (λ (rs : List (List (List ℕ))). codes "plan,1\n" ++ lines_text false rs) are in
    let held : s.held ≡ None = is.held ∙ no_desk is.rows s.course is.runs are in
    subst (λ (ls : List (List ℕ)). IsAgain manner s (behind_file manner ls (script_of file))) (sym records) (none_again manner s is course held script)
file_again manner s file is (r ∷ rs) are records known =
    let came : s.course.progress.opened ≡ true = some is.came in
    let text : script_of file ≡ lines_text true (heading_fields ∷ is.rows) =
    script_is file (r ∷ rs) (old_file file (body r) (map body rs) records) known records
    ∙ ap (λ (ls : List (List (List ℕ))). lines_text true (heading_fields ∷ ls)) (sym are) in
    subst (λ (ls : List (List ℕ)). IsAgain manner s (behind_file manner ls (script_of file))) (sym records)
    (subst (λ (t : List ℕ). IsAgain manner s (opened manner t)) (sym text) (text_again true manner s is came))
  where
    some : (is.rows ≡ []) ⊎ (s.course.progress.opened ≡ true) → s.course.progress.opened ≡ true
    some (inl none) = let bad : r ∷ rs ≡ [] = sym are ∙ none in cc
    some (inr came) = came

-- Use: any session with a script of its own.
pub scripted_again : (manner : Manner) (s : SessionState) (file : List ℕ) → IsScripted s → HasRecords file s → (state_of file ≡ Other → ⊥)
    → IsAgain manner s (session_on manner None file)
scripted_again manner s file is records known = file_again manner s file is is.rows refl (records ∙ records_are s is) known

pub journal_again : JournalsBeginAgain
journal_again manner s file session records known = scripted_again manner s file (session_scripted s session) records known
