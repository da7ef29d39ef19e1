-- Why a session is not kept in a file.
use Rattle.std.proofs.Common.{◌≡◌, ◌∙◌, ℕ, Bool, false, List, Option, Some, None, sym, ap, inl, inr}
use Rattle.pf_answers.specs.declared.manner.Manner.{Manner}
use Rattle.pf_journal.specs.Kept.{IsUnkept}
use Rattle.pf_journal.specs.Lines.{damaged_record, records_of, state_of}
use Rattle.pf_journal.specs.Recorder.Recording.{added_to}
use Rattle.pf_journal.specs.declared.journal_error.JournalError.{JournalError}
use Rattle.pf_journal.specs.declared.state.State.{State}
use Rattle.pf_journal.specs.declared.state.State.TheVariants as file
use Rattle.pf_journal_file.specs.Faults.{fault_of_adding}
use Rattle.pf_journal_file.specs.declared.journal_fault.JournalFault.{JournalFault}
use Rattle.pf_journal_session.specs.Journaled.{DoesNotBegin, IsBegunOn, IsUnwritten, refused_at}
use Rattle.pf_journal_session.specs.declared.unopened.Unopened.{Unopened}
use Rattle.pf_journal_session.specs.declared.unopened.Unopened.TheVariants.{Journal, Record, Script}
use Rattle.pf_session.specs.Session.{SessionState}

-- Use: the file was not opened or written, ..
pub unwritten_of : {D : Type 0} (seen : D → List ℕ) (faults : D → ℕ) (is_clean : D → Bool) (bytes : List ℕ) (session : SessionState) (error : JournalError)
    (fault : JournalFault) (old new : D) → IsUnkept seen faults is_clean bytes (added_to (records_of bytes) session.script) error old new
    → fault ≡ fault_of_adding error → IsUnwritten bytes session (Journal fault)
unwritten_of seen faults is_clean bytes session error fault old new (inl memory) is = inl (is ∙ ap fault_of_adding memory)
unwritten_of seen faults is_clean bytes session error fault old new (inr (inl (inl other))) is =
    inr (inr (inr (ap (λ (s : State). refused_at s (damaged_record bytes) false (records_of bytes)) other.0 ∙ ap Some (sym (is ∙ ap fault_of_adding other.1)))))
unwritten_of seen faults is_clean bytes session error fault old new (inr (inl (inr (inl damaged)))) is =
    inr (inr (inr (ap (λ (s : State). refused_at s (damaged_record bytes) false (records_of bytes)) damaged.0 ∙ ap Some (sym (is ∙ ap fault_of_adding damaged.1)))))
unwritten_of seen faults is_clean bytes session error fault old new (inr (inl (inr (inr failed)))) is = inr (inl (is ∙ ap fault_of_adding failed.is))
unwritten_of seen faults is_clean bytes session error fault old new (inr (inr (inl long))) is = inr (inl (is ∙ ap fault_of_adding long.is))
unwritten_of seen faults is_clean bytes session error fault old new (inr (inr (inr (inl line)))) is =
    inr (inr (inl (is ∙ ap fault_of_adding line.0, line.1)))
unwritten_of seen faults is_clean bytes session error fault old new (inr (inr (inr (inr failed)))) is = inr (inl (is ∙ ap fault_of_adding failed.is))

-- a file that is one for a session with a script is one for a session without
fits_alone : (has_script : Bool) (state : State) (line : ℕ) (records : List (List ℕ)) (fault : JournalFault)
    → refused_at state line has_script records ≡ None → refused_at state line false records ≡ Some fault → ⊥
fits_alone has_script file.New line records fault fits refused = cc
fits_alone has_script file.Journal line records fault fits refused = cc
fits_alone has_script file.Damaged line records fault fits refused = cc
fits_alone has_script file.Other line records fault fits refused = cc

-- Use: .. and so no session began.
pub untaken_of : (manner : Manner) (script : Option (List ℕ)) (bytes : List ℕ) (session : SessionState) (unopened : Unopened)
    → IsBegunOn manner script bytes session → IsUnwritten bytes session unopened → DoesNotBegin manner script bytes unopened
untaken_of manner script bytes session (Journal fault) begun (inl memory) = inr (begun.fits, inl memory)
untaken_of manner script bytes session (Journal fault) begun (inr (inl unwritten)) = inr (begun.fits, inr (inl unwritten))
untaken_of manner script bytes session (Journal fault) begun (inr (inr (inl long))) = inr (begun.fits, inr (inr (long.0, session, begun, long.1)))
untaken_of manner script bytes session (Journal fault) begun (inr (inr (inr refused))) =
    absurd (fits_alone _ (state_of bytes) (damaged_record bytes) (records_of bytes) fault begun.fits refused)
untaken_of manner script bytes session (Record fault lines) begun h = absurd h
untaken_of manner script bytes session (Script fault) begun h = absurd h
