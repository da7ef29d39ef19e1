-- What the program does where words ask for a session with a journal.
use Rattle.std.specs.Prelude.{ℕ, ◌≡◌, ◌⊎◌, ◌==◌, ◌&&◌, not, Bool, if◌then◌else◌, List, [], IfOk, IfSome, Option, None, Some, is_some, Result, Err, Vec}
use Rattle.std.specs.declared.alloc.Global.{Global}
use Rattle.pf_answers.specs.declared.manner.Manner.{Manner}
use Rattle.pf_vocabulary.specs.declared.fault.ending.Ending.{Ending}
use Rattle.pf_vocabulary.specs.declared.fault.fault.Fault.{Fault}
use Rattle.pf_vocabulary.specs.declared.fault.status.Status.TheVariants.{StreamFailed}
use Rattle.pf_stream.specs.HeldAnswers.Streams.{Hears, IsDeaf, IsMute, Streams, Tells}
use Rattle.pf_journal.specs.Kept.{IsFound, found_bytes, found_disk}
use Rattle.pf_journal.specs.Lines.{script_of}
use Rattle.pf_journal.specs.declared.found.Found.{Found}
use Rattle.pf_journal.specs.declared.journal_error.JournalError.{JournalError}
use Rattle.pf_journal_file.specs.Faults.{IsOutcome, IsUnhad, fault_of_adding}
use Rattle.pf_journal_file.specs.Sizes.{sizes_line}
use Rattle.pf_journal_file.specs.declared.sizes.Sizes.{Sizes}
use Rattle.pf_journal_file.specs.declared.journal_fault.JournalFault.{JournalFault}
use Rattle.pf_journal_session.specs.Journaled.{Begins, DoesNotBegin as IsNotBegun, session_on}
use Rattle.pf_journal_session.specs.declared.unopened.Unopened.TheVariants.{Journal}
use Rattle.pf_journal.specs.Recorder.Recording.{Answers as Records, Keeps, Loses, Recording, Stops}
use Rattle.pf_script_notes.specs.Faults.{IsFaultNote}
use Rattle.pf_session_turns.specs.Opening.{IsOpened}
use Rattle.pf_session.specs.Session.{SessionState}
use Rattle.pf_session_views.specs.Held.{SessionShows}
use Rattle.pf_session_turns.specs.Sitters.{answers}
use Rattle.pf_stream.specs.Dialogue.Sits.{Talk, talk_of}
use Rattle.pf_stream.specs.declared.dialogue.answers.Going.{Going}
use Rattle.pf_stream.specs.declared.dialogue.fault.SitFault.{SitFault}
use Rattle.pf_stream.specs.declared.dialogue.fault.SitFault.TheVariants as stop
use Rattle.pf_arguments.specs.Desks.{DeskNames}
use Rattle.pf_cli.specs.Desks.{CameTo, DoesNotBegin, HasSatDown, HoldsDesk, manner_of}
use Rattle.pf_cli.specs.Noted.{IsTold, notes_in, status_ended}
use Rattle.pf_cli.specs.Status.{Tells as IsToldSo}
use Rattle.pf_cli.specs.declared.noted.Noted.{Noted}

-- lines are answered as without a journal; what their script gets is in the file before the answers are written
abbrev pub talk_kept : {D : Type 0} → (D → List ℕ) → (D → List ℕ → Type 0) → (D → Bool) → (D → Bool) → Talk (Recording SessionState D) Streams
talk_kept seen may_leave is_clean is_mixing =
    talk_of (λ r line text going t. Records (answers SessionShows) (λ s. s.script) r line text going t) (λ r t. Stops r t) (λ r t. Keeps seen may_leave is_clean r t)
    (λ r t. Loses seen may_leave is_clean is_mixing r t) Hears IsDeaf Tells IsMute

-- what a sitting came to: where what was answered could not be kept, the sentence and the status of why
abbrev pub CameToKept : List ℕ → Bool → Option JournalError → Result Going SitFault → Bool → Result Ending Fault → Type 0
CameToKept path notes lost (Err stop.Unkept) has_bad outcome = IfSome lost (λ error. IsOutcome path notes (fault_of_adding error) outcome)
CameToKept path notes lost going has_bad outcome = CameTo going has_bad outcome

abbrev pub CameToOn : {D : Type 0} → List ℕ → Bool → Result Going SitFault → Recording SessionState D → Result Ending Fault → Type 0
CameToOn path notes going r outcome = CameToKept path notes r.lost going r.machine.has_bad outcome

-- what is told of how much a journal has; to who asks for quiet only that bytes were cut, or that the script is longer than one may be
abbrev pub told_sizes : Bool → List ℕ → Sizes → List ℕ
told_sizes quiet path sizes = if quiet && (sizes.cut == 0 && not sizes.is_long) then [] else sizes_line path sizes

-- a session begins on a file as it was found, after its records, or after those of a script where one is named; of what lies in that
-- file no contract says more; and how much the journal then has is told, where the words ask for quiet only if bytes were cut or the script is longer than one may be
pub record BeginsOn {D : Type 0} (seen : D → List ℕ) (may_leave : D → List ℕ → Type 0) (is_usable is_clean : D → Bool) (manner : Manner)
    (script : Option (List ℕ)) (path : List ℕ) (begun : Recording SessionState D) (note : List ℕ) : Type 0 where
  pub found : Found D
  pub is_found : IsFound seen may_leave is_usable is_clean found
  pub lines : Option (List ℕ)
  pub named : is_some lines ≡ is_some script
  pub begins : (sizes : _) × Begins seen may_leave is_clean manner lines (found_disk found) (found_bytes found) begun sizes
      × (note ≡ told_sizes manner.quiet path sizes)

-- the file could not be had, or keeps no such session
abbrev pub IsRefused : Manner → Option (List ℕ) → JournalFault → Type 0
IsRefused manner script fault =
    IsUnhad fault ⊎ ((lines : Option (List ℕ)) × (bytes : List ℕ) × (is_some lines ≡ is_some script) × IsNotBegun manner lines bytes (Journal fault))

-- a record of the file is bad, or memory was refused for its records, which is told as of a script
abbrev pub IsBadJournal : Manner → List ℕ → Fault → Result (Vec ℕ Global) Fault → Type 0
IsBadJournal manner path fault notes = (bytes : List ℕ) × IsOpened (session_on manner None bytes) (Err fault)
    × IfOk notes (λ note. IsFaultNote path (script_of bytes) (not manner.quiet) None fault note.items)

-- why none begins, and what is told of that: of the file, of a record of it, or of the script that is named
abbrev pub DoesNotBeginOn : Manner → Option (List ℕ) → List ℕ → Noted → Type 0
DoesNotBeginOn manner script path noted =
    ((fault : JournalFault) × IsRefused manner script fault × IsOutcome path (not manner.quiet) fault noted.outcome × (notes_in noted.notes ≡ []))
    ⊎ ((fault : Fault) × (noted.outcome ≡ Err fault) × (DoesNotBegin manner script fault noted.notes ⊎ IsBadJournal manner path fault noted.notes))

-- none began, and why is told; nothing was read or written
pub record HasNotBegunOn (manner : Manner) (script : Option (List ℕ)) (path : List ℕ) (closed : Bool) (status : ℕ) (old new : Streams) : Type 0 where
  pub noted : Noted
  pub why_not : DoesNotBeginOn manner script path noted
  pub status_is : status ≡ status_ended closed StreamFailed noted.outcome
  pub told : IsTold closed noted.outcome (notes_in noted.notes) (IsToldSo old.prompted new.prompted old.failed_prompts new.failed_prompts)
  pub input : (new.input ≡ old.input) × (new.failed_reads ≡ old.failed_reads)
  pub output : (new.output ≡ old.output) × (new.failed_writes ≡ old.failed_writes)

-- how much the journal has was told, and then lines were answered, with prompts where that was told whole
pub record HasSatOn {D : Type 0} (seen : D → List ℕ) (may_leave : D → List ℕ → Type 0) (is_clean is_mixing : D → Bool) (path : List ℕ) (notes : Bool)
    (begun : Recording SessionState D) (note : List ℕ) (prompts closed : Bool) (status : ℕ) (old new : Streams) : Type 0 where
  pub behind_note : Streams
  pub note_told : IsToldSo old.prompted behind_note.prompted old.failed_prompts behind_note.failed_prompts note
  pub input : (behind_note.input ≡ old.input) × (behind_note.failed_reads ≡ old.failed_reads)
  pub output : (behind_note.output ≡ old.output) × (behind_note.failed_writes ≡ old.failed_writes)
  pub prompted : Bool
  pub prompts_are : behind_note.failed_prompts ≡ old.failed_prompts → prompted ≡ prompts
  pub sat : HasSatDown (talk_kept seen may_leave is_clean is_mixing) (CameToOn path notes) begun prompted closed old.failed_prompts status behind_note new

-- the session on this file that the words ask for was held, or did not begin
abbrev pub HoldsKept : {D : Type 0} → (D → List ℕ) → (D → List ℕ → Type 0) → (D → Bool) → (D → Bool) → (D → Bool) → DeskNames → List ℕ → Bool → Bool → ℕ → Streams → Streams
    → Type 0
HoldsKept seen may_leave is_usable is_clean is_mixing desk path prompts closed status old new =
    ((begun : Recording SessionState _) × (note : List ℕ) × BeginsOn seen may_leave is_usable is_clean (manner_of desk) desk.script path begun note
    × HasSatOn seen may_leave is_clean is_mixing path (not desk.quiet) begun note prompts closed status old new)
    ⊎ HasNotBegunOn (manner_of desk) desk.script path closed status old new

-- with the journal of this file, where one is named
abbrev pub HoldsWith : {D : Type 0} → (D → List ℕ) → (D → List ℕ → Type 0) → (D → Bool) → (D → Bool) → (D → Bool) → Option (List ℕ) → DeskNames → Bool → Bool → ℕ → Streams
    → Streams → Type 0
HoldsWith seen may_leave is_usable is_clean is_mixing None desk prompts closed status old new = HoldsDesk desk prompts closed status old new
HoldsWith seen may_leave is_usable is_clean is_mixing (Some path) desk prompts closed status old new =
    HoldsKept seen may_leave is_usable is_clean is_mixing desk path prompts closed status old new
