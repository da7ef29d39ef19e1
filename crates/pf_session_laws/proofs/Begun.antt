-- A session that begins on a file is kept in it.
use Rattle.std.proofs.Common.{◌≡◌, ◌∙◌, ℕ, Bool, IsTrue, List, [], ◌∷◌, ◌++◌, Option, None, Some, Result, Ok, append-nil, refl, sym, ap, subst, inl, inr}
use Rattle.std.specs.Prelude.{is_some}
use Rattle.pf_journal.specs.Lines.{damaged_record, records_of, state_of}
use Rattle.pf_journal.specs.declared.state.State.{State}
use Rattle.pf_journal.specs.declared.state.State.TheVariants as file
use Rattle.pf_journal_file.specs.declared.journal_fault.JournalFault.TheVariants.{Damaged, HasRecords as TooMany, NoHeading}
use Rattle.pf_journal_session.specs.Journaled.{anew, refused_at, refused_file, session_on}
use Rattle.pf_journal.specs.Recorder.Recording.{added_to, records_in}
use Rattle.pf_answers.specs.declared.manner.Manner.{Manner}
use Rattle.pf_session.specs.Session.{SessionState}
use Rattle.pf_session_laws.specs.Crashed.{BegunAreKept, IsSessionFile}
use Rattle.pf_session_laws.specs.Resumed.{HasRecords, IsAgain, IsSession}
use Rattle.pf_session_laws.proofs.Files.{scripted_again}
use Rattle.pf_session_laws.proofs.Scripted.{session_scripted}

-- a file for a session is a journal, and no script goes before records
known_at : (at : State) (line : ℕ) (has : Bool) (records : List (List ℕ)) → refused_at at line has records ≡ None → at ≡ file.Other → ⊥
known_at at line has records fits other =
    let bad : Some NoHeading ≡ None = sym (ap (λ (q : State). refused_at q line has records) other) ∙ fits in cc

no_script : (at : State) (line : ℕ) (script : Option (List ℕ)) (first : List ℕ) (rest : List (List ℕ)) → refused_at at line (is_some script) (first ∷ rest) ≡ None → script ≡ None
no_script at line None first rest fits = refl
no_script file.New line (Some script) first rest fits = let bad : Some TooMany ≡ None = fits in cc
no_script file.Journal line (Some script) first rest fits = let bad : Some TooMany ≡ None = fits in cc
no_script file.Damaged line (Some script) first rest fits = let bad : Some (Damaged line) ≡ None = fits in cc
no_script file.Other line (Some script) first rest fits = let bad : Some NoHeading ≡ None = fits in cc

-- the records of a session that begins on a file with records
same_records : (manner : Manner) (script : Option (List ℕ)) (bytes : List ℕ) (s t : SessionState) (records : List (List ℕ)) → records_of bytes ≡ records
    → refused_file (is_some script) bytes ≡ None → session_on manner script bytes ≡ Ok t → IsSession s → HasRecords bytes s
    → records ++ added_to records t.script ≡ records_in t.script
same_records manner script bytes s t [] are fits e session has = refl
same_records manner script bytes s t (first ∷ rest) are fits e session has =
    let fits_here : refused_at (state_of bytes) (damaged_record bytes) (is_some script) (first ∷ rest) ≡ None =
    sym (ap (λ (rs : List (List ℕ)). refused_at (state_of bytes) (damaged_record bytes) (is_some script) rs) are) ∙ fits in
    let none : script ≡ None = no_script (state_of bytes) (damaged_record bytes) script first rest fits_here in
    let known : state_of bytes ≡ file.Other → ⊥ = known_at (state_of bytes) (damaged_record bytes) (is_some script) (records_of bytes) fits in
    let made : IsAgain manner s (session_on manner None bytes) = scripted_again manner s bytes (session_scripted s session) has known in
    let e_none : session_on manner None bytes ≡ Ok t = sym (ap (λ (o : Option (List ℕ)). session_on manner o bytes) none) ∙ e in
    let same : made.0 ≡ t = ok made.0 t (session_on manner None bytes) made.1 e_none in
    let script_is : t.script ≡ s.script = sym (ap (λ (q : SessionState). q.script) same) ∙ ap (λ (q : SessionState). q.script) made.2 in
    append-nil (first ∷ rest) ∙ sym are ∙ has ∙ ap records_in (sym script_is)
  where
    ok : (x y : SessionState) (o : Result SessionState ℕ) → o ≡ Ok x → o ≡ Ok y → x ≡ y
    ok x y o a b = cc

pub begun_kept : {D : Type 0} (seen : D → List ℕ) (may_leave : D → List ℕ → Type 0) (is_clean : D → Bool) → BegunAreKept seen may_leave is_clean
begun_kept {D} seen may_leave is_clean manner script disk bytes recorder sizes begins clean of_session =
    let kept = begins.kept.kept in
    let begun = begins.begun.begun in
    let machine : recorder.machine ≡ anew begins.session = kept.machine_is in
    let still : IsTrue (is_clean recorder.file) = kept.calm ∙ clean in
    record {
      session = subst IsSession (sym machine) (record {
        first = anew begins.session;
        begun = record { manner = manner; script = script; bytes = bytes; session = begins.session; begun = begun; is = inr refl };
        behind = record { lines = []; text = []; answered = (refl, refl) };
      });
      records = kept.records_are clean ∙ by of_session ∙ ap (λ (s : SessionState). records_in s.script) (sym machine);
      settled = record { waiting_is = kept.waiting_is; clean = still; durable = kept.durable still; opens = kept.opens still };
    }
  where
    by : IsSessionFile bytes → records_of bytes ++ added_to (records_of bytes) begins.session.script ≡ records_in begins.session.script
    by (inl none) = ap (λ (rs : List (List ℕ)). rs ++ added_to rs begins.session.script) none
    by (inr some) =
        same_records manner script bytes some.0 begins.session (records_of bytes) refl begins.begun.fits begins.begun.begun some.1 some.2
