-- A session with a journal, as it begins and as it ends.
use Rattle.std.proofs.Common.{◌≡◌, ◌∙◌, ◌&&◌, ℕ, arith, eqb, sym, subst, inl, inr, refl, Bool, true, false, List, [], Option, Some, None, Result, Ok, Err}
use Rattle.std.proofs.lemmas.Bool.Decides.{nat_tests}
use Rattle.std.specs.Prelude.{IfOk, String, Vec, is_some, not, option_map, string_bytes, unwrap_or}
use Rattle.std.specs.Borrow.{Bor}
use Rattle.std.specs.declared.alloc.Global.{Global}
use Rattle.pf_vocabulary.specs.declared.fault.ending.Ending.{Ending}
use Rattle.pf_vocabulary.specs.declared.fault.fault.Fault.{Fault}
use Rattle.pf_vocabulary.specs.declared.fault.status.Status.TheVariants.{StreamFailed}
use Rattle.pf_stream.specs.HeldAnswers.Streams.{Streams, streams_of}
use Rattle.pf_journal_file.specs.Faults.{IsOutcome}
use Rattle.pf_journal.specs.declared.found.Found.{Found}
use Rattle.pf_journal.specs.declared.journal_error.JournalError.{JournalError}
use Rattle.pf_journal_file.specs.declared.journal_fault.JournalFault.TheVariants.{NoMemory}
use Rattle.pf_journal_session.specs.Journaled.{Begins, DoesNotBegin as IsNotBegun}
use Rattle.pf_journal_session.specs.declared.unopened.Unopened.TheVariants.{Script}
use Rattle.pf_script_notes.specs.Faults.{IsFaultNote}
use Rattle.pf_journal.specs.Kept.{IsFound, found_bytes, found_disk}
use Rattle.pf_answers.specs.declared.manner.Manner.{Manner}
use Rattle.pf_journal.specs.Recorder.Recording.{Recording}
use Rattle.pf_session.specs.Session.{SessionState}
use Rattle.pf_stream.specs.Dialogue.Sits.{HasSat}
use Rattle.pf_stream.specs.declared.dialogue.answers.Going.{Going}
use Rattle.pf_stream.specs.declared.dialogue.fault.SitFault.{SitFault}
use Rattle.pf_stream.specs.Faults.{fault_of_reading}
use Rattle.pf_stream.specs.declared.reading.ReadingFault.{ReadingFault}
use Rattle.pf_stream.specs.declared.reading.ReadingFault.TheVariants as reading
use Rattle.pf_arguments.specs.Asked.{name_of}
use Rattle.pf_arguments.specs.Desks.{DeskNames}
use Rattle.pf_cli.specs.Desks.{manner_of}
use Rattle.pf_cli.specs.Journals.{BeginsOn, CameToKept, DoesNotBeginOn, HasSatOn, HoldsKept, HoldsWith, talk_kept, told_sizes}
use Rattle.pf_cli.specs.Noted.{IsTold, IsUnreadNote, notes_in, status_ended}
use Rattle.pf_cli.specs.Source.{IsHad, told_name}
use Rattle.pf_cli.specs.Status.{Tells}
use Rattle.pf_cli.specs.declared.noted.Noted.{Noted}

-- Use: memory was refused for what is told of the journal.
pub untold_sizes : (manner : Manner) (script : Option (List ℕ)) (path : List ℕ) (noted : Noted) → IsOutcome path (not manner.quiet) NoMemory noted.outcome
    → notes_in noted.notes ≡ [] → DoesNotBeginOn manner script path noted
untold_sizes manner script path noted outcome notes = inl (NoMemory, inl tt, outcome, notes)

had_of : (reading : ReadingFault) (fault : Fault) → fault ≡ fault_of_reading reading → IsHad (Err fault)
had_of reading.Read fault is = rw is tt
had_of reading.TooLong fault is = rw is tt
had_of reading.Memory fault is = rw is tt

-- Use: it could not be read.
pub unread_script : (manner : Manner) (script : Option (List ℕ)) (path : List ℕ) (reading : ReadingFault) (fault : Fault) (noted : Noted)
    → is_some script ≡ true → fault ≡ fault_of_reading reading → noted.outcome ≡ Err fault
    → IfOk noted.notes (λ note. IsUnreadNote true (told_name script) fault note.items) → DoesNotBeginOn manner script path noted
unread_script manner None path reading fault noted some is outcome notes = let e : false ≡ true = some in cc
unread_script manner (Some name) path reading fault noted some is outcome notes = inr (fault, outcome, inl (inl (had_of reading fault is, notes)))

-- Use: the script that is named has a bad record, or memory was refused.
pub script_refused : (manner : Manner) (file : Option (List ℕ)) (script : Option (Bor (List ℕ))) (other : Bor (List ℕ)) (bytes path : List ℕ) (fault : Fault)
    (notes : Result (Vec ℕ Global) Fault) → is_some script ≡ is_some file → IsNotBegun manner (option_map (λ s. s.now) script) bytes (Script fault)
    → IfOk notes (λ note. IsFaultNote (told_name file) (unwrap_or script other).now (not manner.quiet) None fault note.items)
    → DoesNotBeginOn manner file path (record { outcome = Err fault; notes = notes })
script_refused manner None None other bytes path fault notes named begun told = let e : false ≡ true = begun.0 in cc
script_refused manner None (Some s) other bytes path fault notes named begun told = let e : true ≡ false = named in cc
script_refused manner (Some name) None other bytes path fault notes named begun told = let e : false ≡ true = named in cc
script_refused manner (Some name) (Some s) other bytes path fault notes named begun told = inr (fault, refl, inl (inr (s.now, (begun.1, told))))

-- whether there is one does not depend on what is seen of it
pub some_of : {A B : Type 0} (f : A → B) (o : Option A) → is_some (option_map f o) ≡ is_some o
some_of f None = refl
some_of f (Some x) = refl

-- Use: a session began on what was found.
pub begins_noted : {A E D S T : Type 0} (seen : D → List ℕ) (may_leave : D → List ℕ → Type 0) (is_usable is_clean : D → Bool) (manner : Manner)
    (named : Option S) (text : S → List ℕ) (given : Option T) (lines : T → List ℕ) (path : List ℕ) (found : Found D) (opened : Recording SessionState D)
    (sizes : _) (recorder : A → Recording SessionState D) (note : A → List ℕ) (made : Result A E) → IsFound seen may_leave is_usable is_clean found
    → is_some given ≡ is_some named
    → Begins seen may_leave is_clean manner (option_map lines given) (found_disk found) (found_bytes found) opened sizes
    → IfOk made (λ m. (recorder m ≡ opened) × (note m ≡ told_sizes manner.quiet path sizes))
    → IfOk made (λ m. BeginsOn seen may_leave is_usable is_clean manner (option_map text named) path (recorder m) (note m))
begins_noted seen may_leave is_usable is_clean manner named text given lines path found opened sizes recorder note (Err e) is both begins noted = tt
begins_noted seen may_leave is_usable is_clean manner named text given lines path found opened sizes recorder note (Ok m) is both begins noted =
    rw noted.0 (record {
      found = found;
      is_found = is;
      lines = option_map lines given;
      named = some_of lines given ∙ (both ∙ sym (some_of text named));
      begins = (sizes, begins, noted.1);
    })

-- Use: prompts are told as before, where what the journal has was told whole.
pub still_prompts : (prompts prompted : Bool) (failed counted now : ℕ) → prompts ≡ true → prompted ≡ eqb counted failed → counted ≡ now → now ≡ failed
    → prompted ≡ prompts
still_prompts prompts prompted failed counted now asked is same none = grind (arith, nat_tests)

-- Use: it was told, and then lines were answered.
pub has_sat_on : {D : Type 0} (seen : D → List ℕ) (may_leave : D → List ℕ → Type 0) (is_clean is_mixing : D → Bool) (path bytes : List ℕ) (notes : Bool)
    (begun behind : Recording SessionState D) (note text : List ℕ) (prompts prompted more closed ended has_bad : Bool)
    (lost : Option JournalError) (failed status : ℕ) (going : Result Going SitFault) (outcome : Result Ending Fault) (input rest : Option (List ℕ))
    (reads deaf : ℕ) (output written : Option (List ℕ)) (writes mute : ℕ) (first second third last : Option (List ℕ))
    (a b c d : ℕ) → failed ≡ a → text ≡ note → Tells first second a b text → (b ≡ failed → prompted ≡ prompts)
    → HasSat (talk_kept seen may_leave is_clean is_mixing) begun (streams_of input reads output writes second b prompted) going behind
    (streams_of rest deaf written mute third c more)
    → has_bad ≡ behind.machine.has_bad → lost ≡ behind.lost → bytes ≡ path → CameToKept bytes notes lost going has_bad outcome → ended ≡ closed
    → status ≡ status_ended ended StreamFailed outcome → (c ≡ failed → IsTold ended outcome [] (Tells third last c d))
    → HasSatOn seen may_leave is_clean is_mixing path notes begun note prompts closed status (streams_of input reads output writes first a false)
    (streams_of rest deaf written mute last d false)
has_sat_on seen may_leave is_clean is_mixing path bytes notes begun behind note text prompts prompted more closed ended has_bad lost failed status going outcome input
    rest reads deaf output written writes mute first second third last a b c d counted noted told are sat bad why named came same is tells = record {
      behind_note = streams_of input reads output writes second b false;
      note_told = subst (λ (t : List ℕ). Tells first second a b t) noted told;
      input = (refl, refl);
      output = (refl, refl);
      prompted = prompted;
      prompts_are = λ whole. are (whole ∙ sym counted);
      sat = record {
        going = going;
        behind = behind;
        between = streams_of rest deaf written mute third c more;
        sat = sat;
        outcome = outcome;
        came_to =
            subst (λ (t : List ℕ). CameToKept t notes behind.lost going behind.machine.has_bad outcome) named
            (subst (λ (l : Option JournalError). CameToKept bytes notes l going behind.machine.has_bad outcome) why
            (subst (λ (h : Bool). CameToKept bytes notes lost going h outcome) bad came));
        status_is = subst (λ (e : Bool). status ≡ status_ended e StreamFailed outcome) same is;
        told = λ whole. subst (λ (e : Bool). IsTold e outcome [] (Tells third last c d)) same (tells (whole ∙ sym counted));
        input = (refl, refl);
        output = (refl, refl);
      };
    }

-- Use: prompts are asked for at a terminal, ..
pub asked_there : (there wanted prompts : Bool) → there ≡ true → prompts ≡ wanted → prompts ≡ (there && wanted)
asked_there true wanted prompts is same = same
asked_there false wanted prompts is same = cc

-- .. and nowhere else.
pub unasked_elsewhere : (there wanted prompts : Bool) → there ≡ false → prompts ≡ there → prompts ≡ (there && wanted)
unasked_elsewhere true wanted prompts is same = cc
unasked_elsewhere false wanted prompts is same = same

-- Use: the words name a journal.
pub holds_with : {D : Type 0} (seen : D → List ℕ) (may_leave : D → List ℕ → Type 0) (is_usable is_clean is_mixing : D → Bool) (named : Option (String Global))
    (file : String Global) (path : List ℕ) (desk : DeskNames) (prompts asked closed : Bool) (status : ℕ) (old new : Streams) → named ≡ Some file
    → path ≡ string_bytes file → prompts ≡ asked → HoldsKept seen may_leave is_usable is_clean is_mixing desk path prompts closed status old new
    → HoldsWith seen may_leave is_usable is_clean is_mixing (name_of named) desk asked closed status old new
holds_with seen may_leave is_usable is_clean is_mixing named file path desk prompts asked closed status old new is same prompted holds =
    subst (λ (o : Option (String Global)). HoldsWith seen may_leave is_usable is_clean is_mixing (name_of o) desk asked closed status old new) (sym is)
    (subst (λ (b : Bool). HoldsKept seen may_leave is_usable is_clean is_mixing desk (string_bytes file) b closed status old new) prompted
    (subst (λ (t : List ℕ). HoldsKept seen may_leave is_usable is_clean is_mixing desk t prompts closed status old new) same holds))

-- Use: none began, where it is known who reads the output.
pub kept_not_held : {D : Type 0} (seen : D → List ℕ) (may_leave : D → List ℕ → Type 0) (is_usable is_clean is_mixing : D → Bool) (desk : DeskNames) (path : List ℕ)
    (prompts closed ended : Bool) (status : ℕ) (old new : Streams) (noted : Noted) → DoesNotBeginOn (manner_of desk) desk.script path noted → ended ≡ closed
    → status ≡ status_ended ended StreamFailed noted.outcome
    → IsTold ended noted.outcome (notes_in noted.notes) (Tells old.prompted new.prompted old.failed_prompts new.failed_prompts)
    → new.input ≡ old.input → new.failed_reads ≡ old.failed_reads → new.output ≡ old.output → new.failed_writes ≡ old.failed_writes
    → HoldsKept seen may_leave is_usable is_clean is_mixing desk path prompts closed status old new
kept_not_held seen may_leave is_usable is_clean is_mixing desk path prompts closed ended status old new noted why_not same is told input reads output writes = inr (record {
  noted = noted;
  why_not = why_not;
  status_is = subst (λ (b : Bool). status ≡ status_ended b StreamFailed noted.outcome) same is;
  told = subst (λ (b : Bool). IsTold b noted.outcome (notes_in noted.notes) (Tells old.prompted new.prompted old.failed_prompts new.failed_prompts)) same told;
  input = (input, reads);
  output = (output, writes);
})
