-- Commands that a text tells, answered line by line.
use Rattle.std.proofs.Common.{◌≡◌, ◌≤◌, ◌<◌, ◌+◌, ℕ, List, [], ◌∷◌, ◌++◌, length, take, replicate, Option, None, Some, Result, Ok, Err, refl, sym, ap, ◌∙◌, subst, append_assoc, append-nil, arith}
use Rattle.std.specs.Prelude.{OnErr}
use Rattle.std.specs.Option.{option_map}
use Rattle.std.proofs.Math.Seq.{take-append_seam, take-append-add}
use Rattle.std.proofs.lemmas.List.{length-replicate, take-append-le, take-replicate}
use Rattle.pf_desk.specs.declared.command.Command.{Command}
use Rattle.pf_desk.specs.declared.command.Command.TheVariants.{Step}
use Rattle.pf_desk.specs.Desk.{Shown, AnswersAll, IsAsBefore}
use Rattle.pf_desk.proofs.Gathering.{answers_append}
use Rattle.pf_script.specs.declared.record.LineTold.{LineTold}
use Rattle.pf_script.specs.declared.fault.BadRecord.{BadRecord}
use Rattle.pf_script.specs.declared.fault.ScriptFault.{ScriptFault}
use Rattle.pf_script.specs.declared.fault.ScriptFault.TheVariants as fault
use Rattle.pf_script.specs.Answers.{ReadsLine}
use Rattle.pf_script.specs.Told.{FaultTold, LinesTold}
use Rattle.pf_script_desk.specs.Asked.{commands_of, commands_in}
use Rattle.pf_c_api.specs.declared.raw_bad_record.RawBadRecord.{RawBadRecord}
use Rattle.pf_c_forms.specs.declared.status.TheConstants.{BAD_RECORD, OK}
use Rattle.pf_c_api.specs.Running.{CarriesOut, TellsPlace, place_of, raw_bad}
use Rattle.pf_c_api.proofs.Stepping.{same_answers}

-- of all that a text tells this is left, and the desk answered the rest
pub record IsUnderWay (caller : ℕ) (whole left : LinesTold) (before after : Shown) : Type 0 where
  pub commands : List Command
  pub answers : AnswersAll caller commands before after
  pub lines : commands ++ commands_in left.lines ≡ commands_in whole.lines
  pub fault : left.fault ≡ whole.fault

module _ (caller : ℕ) (whole old left : LinesTold) (line : LineTold) (first before after : Shown) (read : old ≡ record left { lines = line ∷ left.lines })
    (way : IsUnderWay caller whole old first before) where
  -- Use: a line was answered.
  pub line_answered : AnswersAll caller (commands_of line.asks) before after → IsUnderWay caller whole left first after
  line_answered answered = record {
    commands = way.commands ++ commands_of line.asks;
    answers = answers_append caller way.commands (commands_of line.asks) first before after way.answers answered;
    lines = append_assoc way.commands (commands_of line.asks) (commands_in left.lines)
        ∙ ap (λ (t : LinesTold). way.commands ++ commands_in t.lines) (sym read) ∙ way.lines;
    fault = ap (λ (t : LinesTold). t.fault) (sym read) ∙ way.fault;
  }

  -- Use: the first commands of a line were answered.
  pub line_stopped : ((k : ℕ) × (k ≤ length (commands_of line.asks)) × AnswersAll caller (take k (commands_of line.asks)) before after)
      → (n : ℕ) × AnswersAll caller (take n (commands_in whole.lines)) first after
  line_stopped (k, within, some) =
      let asked = commands_of line.asks in
      let all : way.commands ++ (asked ++ commands_in left.lines) ≡ commands_in whole.lines =
      ap (λ (t : LinesTold). way.commands ++ commands_in t.lines) (sym read) ∙ way.lines in
      let front : way.commands ++ take k asked ≡ take (length way.commands + k) (commands_in whole.lines) =
      ap (λ cs. way.commands ++ cs) (sym (take-append-le k asked (commands_in left.lines) within))
      ∙ sym (take-append-add way.commands (asked ++ commands_in left.lines) k)
      ∙ ap (take (length way.commands + k)) all in (
        length way.commands + k,
        subst (λ cs. AnswersAll caller cs first after) front (answers_append caller way.commands (take k asked) first before after way.answers some),
      )

-- Use: no line is left.
pub all_answered : (caller : ℕ) (whole left : LinesTold) (first d : Shown) → left.lines ≡ [] → IsUnderWay caller whole left first d
    → AnswersAll caller (commands_in whole.lines) first d
all_answered caller whole left first d none way =
    subst (λ cs. AnswersAll caller cs first d)
    (sym (append-nil way.commands) ∙ ap (λ (ls : List LineTold). way.commands ++ commands_in ls) (sym none) ∙ way.lines) way.answers

-- Use: the next line was not read.
pub some_answered : (caller : ℕ) (whole left : LinesTold) (first d : Shown) → IsUnderWay caller whole left first d
    → (n : ℕ) × AnswersAll caller (take n (commands_in whole.lines)) first d
some_answered caller whole left first d way = (
  length way.commands,
  subst (λ cs. AnswersAll caller cs first d)
      (sym (take-append_seam way.commands (commands_in left.lines)) ∙ ap (take (length way.commands)) way.lines) way.answers,
)

-- Use: a line was read.
pub line_read : (o : Option LineTold) (line : LineTold) (fields : List (List ℕ)) (old left : LinesTold) → o ≡ Some line
    → ReadsLine (Ok o) fields old left → old ≡ record left { lines = line ∷ left.lines }
line_read o line fields old left is read = subst (λ (x : Option LineTold). ReadsLine (Ok x) fields old left) is read

-- Use: no line was read, as the next record is bad or memory was refused.
pub ended : (A : Type 0) (caller : ℕ) (e : ScriptFault) (fields : List (List ℕ)) (whole old left : LinesTold) (first d : Shown) → IsUnderWay caller whole old first d
    → ReadsLine (Err e) fields old left → CarriesOut {A = A} (Err e) caller whole first d
ended A caller (fault.Bad bad) fields whole old left first d way read = (
  ap (option_map (λ (f : FaultTold). f.bad)) (sym way.fault) ∙ ap (λ (t : LinesTold). option_map (λ (f : FaultTold). f.bad) t.fault) read,
  all_answered caller whole old first d (ap (λ (t : LinesTold). t.lines) read) way,
)
ended A caller (fault.Missing bad) fields whole old left first d way read = (
  ap (option_map (λ (f : FaultTold). f.bad)) (sym way.fault) ∙ ap (λ (t : LinesTold). option_map (λ (f : FaultTold). f.bad) t.fault) read,
  all_answered caller whole old first d (ap (λ (t : LinesTold). t.lines) read) way,
)
ended A caller fault.Memory fields whole old left first d way read = some_answered caller whole old first d way

-- Use: running out of memory took none of the steps left.
pub steps_stopped : {A E : Type 0} (r : Result A E) (caller taken count : ℕ) (first before after : Shown) → taken < count
    → AnswersAll caller (replicate taken Step) first before → IsAsBefore before after
    → OnErr r ((k : ℕ) × (k ≤ length (replicate count Step)) × AnswersAll caller (take k (replicate count Step)) first after)
steps_stopped (Ok done) caller taken count first before after few all same = tt
steps_stopped (Err e) caller taken count first before after few all same = (
  taken,
  omega (arith, length-replicate count Step, few),
  subst (λ cs. AnswersAll caller cs first after) (sym (take-replicate taken count Step (omega (arith, few))))
      (same_answers caller (replicate taken Step) first before after same all),
)

-- Use: the place of the first bad record is told.
pub fault_told : (o : Option FaultTold) (bad : BadRecord) (was : RawBadRecord) → option_map (λ (f : FaultTold). f.bad) o ≡ Some bad
    → TellsPlace (place_of o) BAD_RECORD was (raw_bad bad)
fault_told None bad was e = absurd cc
fault_told (Some f) bad was e = let same : f.bad ≡ bad = cc in (refl, ap raw_bad (sym same))

pub no_fault_told : (o : Option FaultTold) (was : RawBadRecord) → o ≡ None → TellsPlace (place_of o) OK was was
no_fault_told o was none = subst (λ (x : Option FaultTold). TellsPlace (place_of x) OK was was) (sym none) (refl, refl)
