-- What the program does for words, whether they ask for a task or for nothing.
use Rattle.std.proofs.Common.{◌≡◌, ◌∙◌, ◌+◌, ◌⊎◌, ℕ, refl, sym, subst, inl, inr, arith, Bool, true, false, List, [], Option, Some, None, Ok, Err}
use Rattle.std.specs.Prelude.{IfSome}
use Rattle.std.proofs.KnownBytes.{Keeps-refl, Consumes-nil}
use Rattle.pf_vocabulary.specs.declared.fault.fault.Fault.TheVariants as stop
use Rattle.pf_vocabulary.specs.declared.fault.status.Status.{Status}
use Rattle.pf_vocabulary.specs.declared.fault.status.Status.TheVariants.{StreamFailed}
use Rattle.pf_stream.specs.HeldAnswers.Streams as Held
use Rattle.pf_arguments.specs.declared.request.WordsFault.{WordsFault}
use Rattle.pf_arguments.specs.declared.request.WordsFault.TheVariants as fault
use Rattle.pf_arguments.specs.declared.task.Task.{Task}
use Rattle.pf_arguments.specs.declared.telling.Telling.{Telling}
use Rattle.pf_arguments.specs.Asked.{AsksHelp, AsksVersion, AreMistaken, IsAsked, IsRefused, IsShownTo, desk_asked, desk_named, file_asked, pair_asked, reads_input, reads_input_for, task_asked, telling_asked}
use Rattle.pf_arguments.specs.Desks.{DeskNames}
use Rattle.pf_arguments.specs.Diffs.{PairNames}
use Rattle.pf_arguments.specs.declared.desk_words.DeskWords.{DeskWords}
use Rattle.pf_arguments.specs.declared.request.Request.TheVariants.{Sit}
use Rattle.pf_arguments.specs.declared.mistake.Mistake.{Mistake}
use Rattle.pf_arguments.proofs.Unasked.{mistaken_asks_no_desk, mistaken_asks_no_pair, mistaken_asks_none, untaken_asks_no_desk, untaken_asks_no_pair, untaken_asks_none}
use Rattle.pf_stream.specs.Reading.{longest_script, TakesAtMost}
use Rattle.pf_cli.specs.Source.{IsOf, IsSource}
use Rattle.pf_answers.specs.declared.manner.Manner.{Manner}
use Rattle.pf_cli.specs.Desks.{DoesNotBegin, HasNotBegun, manner_of}
use Rattle.pf_cli.specs.FaultLines.{fault_line}
use Rattle.pf_cli.specs.Journals.{HoldsWith}
use Rattle.pf_cli.specs.Noted.{IsTold, gone_diff, gone_of, status_ended}
use Rattle.pf_cli.specs.Status.{AnswersAsked, AnswersWords, Compares, Does, IsToldOf, IsWritten, ReadsNothing, Streams, Tells, status_of_words, told_of}
use Rattle.pf_cli.specs.declared.noted.Noted.{Noted}

-- words that ask for nothing have nothing read
nothing_read : (words : List (List ℕ)) (closed : Bool) (status : ℕ) (old new : Streams) (told : List ℕ → Type 0) → task_asked words ≡ None
    → (held : DeskNames → Type 0) → pair_asked words ≡ None → desk_asked words ≡ None → ReadsNothing words closed status old new told
    → AnswersWords words closed status old new told held
nothing_read words closed status old new told none held no_pair no_desk reads = rw (none, no_pair, no_desk) reads

-- words that ask for a text ask for nothing else
pub shown_asks_none : (words : List (List ℕ)) (text : List ℕ) → IsShownTo words text → task_asked words ≡ None
shown_asks_none words text (inl help) = untaken_asks_none words _ help.0
shown_asks_none words text (inr version) = untaken_asks_none words _ version.0

shown_asks_no_pair : (words : List (List ℕ)) (text : List ℕ) → IsShownTo words text → pair_asked words ≡ None
shown_asks_no_pair words text (inl help) = untaken_asks_no_pair words _ help.0
shown_asks_no_pair words text (inr version) = untaken_asks_no_pair words _ version.0

shown_asks_no_desk : (words : List (List ℕ)) (text : List ℕ) → IsShownTo words text → desk_asked words ≡ None
shown_asks_no_desk words text (inl help) = untaken_asks_no_desk words _ help.0
shown_asks_no_desk words text (inr version) = untaken_asks_no_desk words _ version.0

-- they ask for help or the version
asked_shown : (words : List (List ℕ)) (text : List ℕ) → IsShownTo words text → AsksHelp words ⊎ AsksVersion words
asked_shown words text (inl help) = inl help.0
asked_shown words text (inr version) = inr version.0

-- a text that is written, or could not be, ends with 0 or 3
written_ends : (closed : Bool) (status : ℕ) (old new : Option (List ℕ)) (a b : ℕ) (text : List ℕ) → IsWritten closed status old new a b text → (status ≡ 0) ⊎ (status ≡ 3)
written_ends closed status old new a b text (inl whole) = inl whole.0
written_ends true status old new a b text (inr front) = inl front.0
written_ends false status old new a b text (inr front) = inr front.0

-- a text that was asked for, and was written or could not be
pub text_answers : (words : List (List ℕ)) (text : List ℕ) (closed : Bool) (status : ℕ) (old new : Streams) (told : List ℕ → Type 0)
    (held : DeskNames → Type 0) → IsShownTo words text → new.input ≡ old.input → new.failed_reads ≡ old.failed_reads
    → IsWritten closed status old.output new.output old.failed_writes new.failed_writes text → AnswersWords words closed status old new told held
text_answers words text closed status old new told held asks input reads written =
    let ended = written_ends closed status _ _ _ _ text written in
    nothing_read words closed status old new told (shown_asks_none words text asks) held (shown_asks_no_pair words text asks)
    (shown_asks_no_desk words text asks) (record {
      ended = inl (asked_shown words text asks, ended);
      input = input;
      reads = reads;
      shown = λ done. (text, asks, written);
      unwritten = λ other. absurd (omega (arith, ended, other));
      tells = λ two. absurd (omega (arith, ended, two));
      memory = λ four. absurd (omega (arith, ended, four));
    })

-- the status of running out of memory, whoever reads the output
status_of_memory : (closed : Bool) (otherwise : Status) → 4 ≡ status_ended closed otherwise (Err stop.NoMemory)
status_of_memory closed otherwise = refl

memory_told : (closed : Bool) (told : List ℕ → Type 0) → told (fault_line stop.NoMemory) → IsTold closed (Err stop.NoMemory) [] told
memory_told closed told is = is

-- a reader that was not read has given no byte
none_taken : (input : Option (List ℕ)) → TakesAtMost input input (longest_script + 1)
none_taken input = ([], Consumes-nil input, omega arith)

-- where memory was refused nothing is known of the bytes
unknown : (input : Option (List ℕ)) → IfSome input (λ bytes. IsOf bytes (Err stop.NoMemory))
unknown None = tt
unknown (Some bytes) = tt

none_had : (file : Option (List ℕ)) (old : Streams) → IsSource file (Err stop.NoMemory) old.input old.failed_reads old.input old.failed_reads
none_had None old = record { bytes = unknown old.input; reads = refl; taken = none_taken old.input }
none_had (Some name) old = (refl, refl)

-- running out of memory, after which nothing is told
abbrev no_memory_noted : Noted
no_memory_noted = record { outcome = Err stop.NoMemory; notes = Err stop.NoMemory }

-- it is an answer to each task
no_memory : (task : Task) (file : Option (List ℕ)) (telling : Telling) (closed : Bool) (old : Streams) (told : List ℕ → Type 0) → told (fault_line stop.NoMemory)
    → Does task file telling closed 4 old old told
no_memory task file telling closed old told is = record {
  noted = no_memory_noted;
  status_is = status_of_memory closed (gone_of task);
  done = record {
    script = Err stop.NoMemory;
    had = tt;
    source = none_had file old;
    answers = (refl, Keeps-refl old.output);
    writes = refl;
    notes = tt;
  };
  told_is = memory_told closed told is;
}

-- and to two scripts
no_memory_for_two : (names : PairNames) (telling : Telling) (closed : Bool) (old : Streams) (told : List ℕ → Type 0) → told (fault_line stop.NoMemory)
    → Compares names telling closed 4 old old told
no_memory_for_two names telling closed old told is = record {
  noted = no_memory_noted;
  status_is = status_of_memory closed (gone_diff names.options);
  done = record {
    between = old;
    first = Err stop.NoMemory;
    first_notes = Err stop.NoMemory;
    shows = record { script = Err stop.NoMemory; had = tt; source = none_had names.first old; shows = refl; noted = tt };
    unwritten = (refl, refl);
    answers = (refl, refl, refl, refl, Keeps-refl old.output);
    writes = refl;
  };
  told_is = memory_told closed told is;
}

no_memory_to_begin : (manner : Manner) (file : Option (List ℕ)) → DoesNotBegin manner file stop.NoMemory (Err stop.NoMemory)
no_memory_to_begin manner None = (refl, refl)
no_memory_to_begin manner (Some name) = inl (tt, tt)

-- and to a session, which does not begin
no_memory_at_desk : (manner : Manner) (file : Option (List ℕ)) (closed : Bool) (status : ℕ) (old new : Held.Streams) → status ≡ 4
    → Tells old.prompted new.prompted old.failed_prompts new.failed_prompts (fault_line stop.NoMemory) → new.input ≡ old.input → new.failed_reads ≡ old.failed_reads
    → new.output ≡ old.output → new.failed_writes ≡ old.failed_writes → HasNotBegun manner file closed status old new
no_memory_at_desk manner file closed status old new is told input reads output writes = record {
  fault = stop.NoMemory;
  notes = Err stop.NoMemory;
  why_not = no_memory_to_begin manner file;
  status_is = is ∙ status_of_memory closed StreamFailed;
  told = memory_told closed (Tells old.prompted new.prompted old.failed_prompts new.failed_prompts) told;
  input = (input, reads);
  output = (output, writes);
}

-- with a journal too
pub no_memory_at_any_desk : {D : Type 0} (seen : D → List ℕ) (may_leave : D → List ℕ → Type 0) (is_usable is_clean is_mixing : D → Bool) (path : Option (List ℕ))
    (desk : DeskNames) (prompts closed : Bool) (status : ℕ) (old new : Held.Streams) → status ≡ 4
    → Tells old.prompted new.prompted old.failed_prompts new.failed_prompts (fault_line stop.NoMemory) → new.input ≡ old.input → new.failed_reads ≡ old.failed_reads
    → new.output ≡ old.output → new.failed_writes ≡ old.failed_writes → HoldsWith seen may_leave is_usable is_clean is_mixing path desk prompts closed status old new
no_memory_at_any_desk seen may_leave is_usable is_clean is_mixing None desk prompts closed status old new is told input reads output writes =
    inr (no_memory_at_desk (manner_of desk) desk.script closed status old new is told input reads output writes)
no_memory_at_any_desk seen may_leave is_usable is_clean is_mixing (Some path) desk prompts closed status old new is told input reads output writes = inr (record {
  noted = no_memory_noted;
  why_not = inr (stop.NoMemory, refl, inl (no_memory_to_begin (manner_of desk) desk.script));
  status_is = is ∙ status_of_memory closed StreamFailed;
  told = memory_told closed (Tells old.prompted new.prompted old.failed_prompts new.failed_prompts) told;
  input = (input, reads);
  output = (output, writes);
})

-- and to all words
memory_answers : (words : List (List ℕ)) (old : Streams) (told : List ℕ → Type 0) (held : DeskNames → Type 0) (want : Option Task) (pair : Option PairNames)
    (desk : Option DeskNames) (file : Option (List ℕ)) (telling : Telling) (closed : Bool) → told (fault_line stop.NoMemory) → ((d : DeskNames) → held d)
    → AnswersAsked words want pair desk file telling closed 4 old old told held
memory_answers words old told held None None (Some desk) file telling closed is holds = holds desk
memory_answers words old told held None None None file telling closed is holds = record {
  ended = inr (inr refl);
  input = refl;
  reads = refl;
  shown = λ done. absurd (omega (arith, done));
  unwritten = λ other. record { output = Keeps-refl old.output; writes = refl };
  tells = λ two. absurd (omega (arith, two));
  memory = λ four. is;
}
memory_answers words old told held None (Some names) desk file telling closed is holds = no_memory_for_two names telling closed old told is
memory_answers words old told held (Some task) pair desk file telling closed is holds = no_memory task file telling closed old told is

-- the words are not the program's
mistaken : (words : List (List ℕ)) (closed : Bool) (old : Streams) (told : List ℕ → Type 0) (text : List ℕ)
    → IsRefused words ⊎ ((mistake : Mistake) × AreMistaken words mistake) → IsToldOf words text → told text → ReadsNothing words closed 2 old old told
mistaken words closed old told text are of is = record {
  ended = inr (inl (are, refl));
  input = refl;
  reads = refl;
  shown = λ done. absurd (omega (arith, done));
  unwritten = λ other. record { output = Keeps-refl old.output; writes = refl };
  tells = λ two. (text, of, is);
  memory = λ four. absurd (omega (arith, four));
}

-- the same by its cases
untouched : (words : List (List ℕ)) (why : WordsFault) (closed : Bool) (old : Streams) (told : List ℕ → Type 0) (held : DeskNames → Type 0)
    → IsAsked words (Err why) → told (told_of why) → (status_of_words why ≡ 4 → told (fault_line stop.NoMemory) → (d : DeskNames) → held d)
    → AnswersWords words closed (status_of_words why) old old told held
untouched words (fault.Refused text) closed old told held refused is holds =
    nothing_read words closed 2 old old told (untaken_asks_none words _ refused.0.2) held (untaken_asks_no_pair words _ refused.0.2)
    (untaken_asks_no_desk words _ refused.0.2)
    (mistaken words closed old told text.items (inl refused.0) (inl refused) is)
untouched words (fault.Mistaken text) closed old told held are is holds =
    nothing_read words closed 2 old old told (mistaken_asks_none words are.0 are.1) held (mistaken_asks_no_pair words are.0 are.1)
    (mistaken_asks_no_desk words are.0 are.1)
    (mistaken words closed old told text.items (inr (are.0, are.1)) (inr (are.0, are.1, are.2)) is)
untouched words fault.NoMemory closed old told held any is holds =
    memory_answers words old told held (task_asked words) (pair_asked words) (desk_asked words) (file_asked words) (telling_asked words) closed is
    (holds refl is)

-- words that ask for nothing, and running out of memory, leave the streams as they were
pub refusal_answers : (words : List (List ℕ)) (why : WordsFault) (closed : Bool) (status : ℕ) (old : Streams) (told : List ℕ → Type 0)
    (held : DeskNames → Type 0) → IsAsked words (Err why) → status ≡ status_of_words why → told (told_of why)
    → (status ≡ 4 → told (fault_line stop.NoMemory) → (d : DeskNames) → held d) → AnswersWords words closed status old old told held
refusal_answers words why closed status old told held asked is tells holds =
    subst (λ (n : ℕ). AnswersWords words closed n old old told held) (sym is)
    (untouched words why closed old told held asked tells (λ four. holds (is ∙ four)))

-- Use: words that ask for a session have it held.
pub desk_answers : (words : List (List ℕ)) (desk : DeskWords) (closed : Bool) (status : ℕ) (old new : Streams) (told : List ℕ → Type 0)
    (held : DeskNames → Type 0) → IsAsked words (Ok (Sit desk)) → held (desk_named desk) → AnswersWords words closed status old new told held
desk_answers words desk closed status old new told held asked h = rw (asked.0, asked.1, asked.2) h

-- Use: the lines of a session are standard input.
pub desk_reads : (words : List (List ℕ)) (desk : DeskNames) → reads_input words ≡ false → task_asked words ≡ None → pair_asked words ≡ None
    → desk_asked words ≡ Some desk → ⊥
desk_reads words desk unread none no_pair asked =
    let e : reads_input_for None (file_asked words) None (Some desk) ≡ false = rw (none, no_pair, asked) at unread in
    cc
