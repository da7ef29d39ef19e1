-- What the program does where words ask for a session at a desk.
use Rattle.std.specs.Prelude.{ℕ, ◌≡◌, ◌⊎◌, ◌||◌, not, is_some, Bool, true, if◌then◌else◌, List, [], IfOk, Option, None, Some, Result, Ok, Err, Vec}
use Rattle.std.specs.declared.alloc.Global.{Global}
use Rattle.pf_answers.specs.declared.manner.Manner.{Manner}
use Rattle.pf_vocabulary.specs.Fault.Answers.{IsQuiet}
use Rattle.pf_vocabulary.specs.declared.fault.ending.Ending.{Ending}
use Rattle.pf_vocabulary.specs.declared.fault.fault.Fault.{Fault}
use Rattle.pf_vocabulary.specs.declared.fault.fault.Fault.TheVariants as why
use Rattle.pf_vocabulary.specs.declared.fault.status.Status.TheVariants.{BadScript, Done, StreamFailed}
use Rattle.pf_stream.specs.HeldAnswers.Streams.{Hears, IsDeaf, IsMute, Streams, Tells}
use Rattle.pf_script_notes.specs.Faults.{IsFaultNote}
use Rattle.pf_session.specs.Session.{SessionState, at_start}
use Rattle.pf_session_turns.specs.Opening.{IsOpened, opened}
use Rattle.pf_session_views.specs.Held.{SessionShows}
use Rattle.pf_session_turns.specs.Sitters.{answers, keeps, loses, stops}
use Rattle.pf_stream.specs.Dialogue.Sits.{HasSat, Talk, talk_of}
use Rattle.pf_stream.specs.declared.dialogue.answers.Going.{Going}
use Rattle.pf_stream.specs.declared.dialogue.fault.SitFault.{SitFault}
use Rattle.pf_stream.specs.declared.dialogue.fault.SitFault.TheVariants as stop
use Rattle.pf_arguments.specs.Desks.{DeskNames}
use Rattle.pf_cli.specs.Noted.{IsTold, IsUnreadNote, notes_in, status_ended}
use Rattle.pf_cli.specs.Source.{IsHad}
use Rattle.pf_cli.specs.Status.{Tells as IsToldSo}

-- a program reads JSON, and a journal keeps what is answered: a line that was cut off is not to be answered there
abbrev pub manner_of : DeskNames → Manner
manner_of desk = record { json = desk.json; quiet = desk.quiet; whole = desk.json || is_some desk.journal }

-- a session begins after the records of a script, of which no contract says more where it lies in a file; or after none
abbrev pub Begins : Manner → Option (List ℕ) → SessionState → Type 0
Begins manner None s = s ≡ at_start manner
Begins manner (Some file) s = (script : List ℕ) × (opened manner script ≡ Ok s)

-- what a sitting came to, where a line was bad or none was
abbrev pub CameTo : Result Going SitFault → Bool → Result Ending Fault → Type 0
CameTo (Ok going) has_bad (Ok ending) = IsQuiet (if has_bad then BadScript else Done) ending
CameTo (Ok going) has_bad (Err fault) = ⊥
CameTo (Err stop.Deaf) has_bad outcome = outcome ≡ Err why.Read
CameTo (Err stop.Mute) has_bad outcome = outcome ≡ Err why.Write
CameTo (Err stop.NoMemory) has_bad outcome = outcome ≡ Err why.NoMemory
CameTo (Err stop.Unkept) has_bad outcome = outcome ≡ Err why.Write

-- lines came in after the beginning, and were answered, each before more was read, and the status tells what that came to; what there
-- is to tell of it was told, where as many writes had failed there as before anything was told
pub record HasSatDown {A : Type 0} (talk : Talk A Streams) (came : Result Going SitFault → A → Result Ending Fault → Type 0) (begun : A)
    (prompts closed : Bool) (failed status : ℕ) (old new : Streams) : Type 0 where
  pub going : Result Going SitFault
  pub behind : A
  pub between : Streams
  pub sat : HasSat talk begun (record old { prompts = prompts }) going behind between
  pub outcome : Result Ending Fault
  pub came_to : came going behind outcome
  pub status_is : status ≡ status_ended closed StreamFailed outcome
  pub told : between.failed_prompts ≡ failed
      → IsTold closed outcome [] (IsToldSo between.prompted new.prompted between.failed_prompts new.failed_prompts)
  pub input : (new.input ≡ between.input) × (new.failed_reads ≡ between.failed_reads)
  pub output : (new.output ≡ between.output) × (new.failed_writes ≡ between.failed_writes)

-- of one without a journal
abbrev pub talk_alone : Talk SessionState Streams
talk_alone = talk_of (answers SessionShows) stops keeps loses Hears IsDeaf Tells IsMute

abbrev pub CameToAlone : Result Going SitFault → SessionState → Result Ending Fault → Type 0
CameToAlone going behind outcome = CameTo going behind.has_bad outcome

abbrev pub SatAlone : SessionState → Bool → Bool → ℕ → Streams → Streams → Type 0
SatAlone begun prompts closed status old new = HasSatDown talk_alone CameToAlone begun prompts closed old.failed_prompts status old new

-- the script of this file could not be had, and why is told
abbrev pub IsUnread : List ℕ → Fault → Result (Vec ℕ Global) Fault → Type 0
IsUnread name fault notes = IsHad (Err fault) × IfOk notes (λ note. IsUnreadNote true name fault note.items)

-- no session begins after these bytes of this file, and why is told: a record is bad, or memory was refused
abbrev pub IsUnopened : Manner → List ℕ → List ℕ → Fault → Result (Vec ℕ Global) Fault → Type 0
IsUnopened manner name script fault notes = IsOpened (opened manner script) (Err fault) × IfOk notes (λ note. IsFaultNote name script (not manner.quiet) None fault note.items)

-- why a session does not begin, and what is told of that: after no script, only where memory was refused
abbrev pub DoesNotBegin : Manner → Option (List ℕ) → Fault → Result (Vec ℕ Global) Fault → Type 0
DoesNotBegin manner None fault notes = (fault ≡ why.NoMemory) × (notes_in notes ≡ [])
DoesNotBegin manner (Some file) fault notes =
    IsUnread file fault notes ⊎ ((script : List ℕ) × IsUnopened manner file script fault notes)

-- no session began, and why is told; nothing was read or written
pub record HasNotBegun (manner : Manner) (file : Option (List ℕ)) (closed : Bool) (status : ℕ) (old new : Streams) : Type 0 where
  pub fault : Fault
  pub notes : Result (Vec ℕ Global) Fault
  pub why_not : DoesNotBegin manner file fault notes
  pub status_is : status ≡ status_ended closed StreamFailed (Err fault)
  pub told : IsTold closed (Err fault) (notes_in notes) (IsToldSo old.prompted new.prompted old.failed_prompts new.failed_prompts)
  pub input : (new.input ≡ old.input) × (new.failed_reads ≡ old.failed_reads)
  pub output : (new.output ≡ old.output) × (new.failed_writes ≡ old.failed_writes)

-- the session that these words ask for was held, or did not begin
abbrev pub HoldsDesk : DeskNames → Bool → Bool → ℕ → Streams → Streams → Type 0
HoldsDesk desk prompts closed status old new =
    ((begun : SessionState) × Begins (manner_of desk) desk.script begun × SatAlone begun prompts closed status old new)
    ⊎ HasNotBegun (manner_of desk) desk.script closed status old new
