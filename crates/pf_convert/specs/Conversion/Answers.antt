-- What a list is answered with.
use Rattle.std.specs.Prelude.{ℕ, ◌≡◌, ◌*◌, ◌==◌, nat_le, nat_lt, if◌then◌else◌, Option, None, Some, MatchOption, unwrap_or, List, [], ◌∷◌, ◌++◌, length, map, slice_index_or, codes}
use Rattle.std.specs.Bool.{MatchBool}
use Rattle.std.specs.Fmt.{decimal}
use Rattle.pf_message.specs.Form.{file_front}
use Rattle.pf_text.specs.Columns.Columns.{columns_text}
use Rattle.pf_scenario.specs.declared.settings.TheConstants.{MOST_PROCESSORS}
use Rattle.pf_convert.specs.declared.plan.Plan.{Plan}
use Rattle.pf_convert.specs.declared.terms.Terms.{Terms}
use Rattle.pf_convert.specs.Outcomes.{billionths_of, NoneFits, IsBestQuantum, IsShownQuantum}
use Rattle.pf_vocabulary.specs.declared.fault.answer.Answer.{Answer}
use Rattle.pf_vocabulary.specs.declared.fault.ending.Ending.{Ending}
use Rattle.pf_vocabulary.specs.declared.fault.status.Status.{Status}
use Rattle.pf_vocabulary.specs.declared.fault.status.Status.TheVariants.{Done, BadScript, FailedOn}
use Rattle.pf_vocabulary.specs.declared.names.unit.Unit.{Unit}
use Rattle.pf_convert.specs.declared.list.listed.Listed.{Listed}
use Rattle.pf_convert.specs.declared.conversion.list_file.ListFile.{ListFile}
use Rattle.pf_convert.specs.declared.conversion.planned.Planned.{Planned}
use Rattle.pf_convert.specs.declared.conversion.table.Series.{Series}
use Rattle.pf_convert.specs.Conversion.Json.{json_text}
use Rattle.pf_convert.specs.List.Messages.{messages_text}
use Rattle.pf_convert.specs.List.Parts.{joined}
use Rattle.pf_convert.specs.Conversion.Notes.{no_quantum_line, quantum_words, series_notes}
use Rattle.pf_convert.specs.Conversion.PlanFaults.{fault_messages}
use Rattle.pf_convert.specs.Conversion.Report.{has_deadline, headings, report_rows}
use Rattle.pf_convert.specs.Conversion.Script.{script_text}
use Rattle.pf_convert.specs.Conversion.Series.{outcome_of}
use Rattle.pf_convert.specs.Conversion.Table.{series_text}
use Rattle.pf_convert.specs.Conversion.Summary.{summary_text}

-- nothing is written, and these notes are told of a list that is none
pub record IsTold (shown : List ℕ) (a : Answer) : Type 0 where
  pub text : a.text.items ≡ []
  pub status : a.ending.status ≡ BadScript
  pub notes : a.ending.notes.items ≡ shown

abbrev pub fit_status : ℕ → ℕ → Status
fit_status load room = if nat_le load room then Done else FailedOn

-- which of several quanta is shown: the best, or where its plan needs more processors than there may be, the closest one
abbrev pub choice_words : Option ℕ → List ℕ
choice_words None = codes " tried the longest with the fewest processors"
choice_words (Some given) = codes " tried the longest that fits"

abbrev pub tried_words : Option ℕ → ℕ → List ℕ
tried_words processors needed =
    if nat_le needed (unwrap_or processors MOST_PROCESSORS) then choice_words processors
    else codes " tried none fits; this is the longest with the fewest processors"

abbrev pub quanta_word : ℕ → List ℕ
quanta_word count = if count == 1 then codes " quantum" else codes " quanta"

-- of so many quanta that were tried, with this many processors needed
abbrev pub tried_text : Option ℕ → ℕ → ℕ → List ℕ
tried_text processors needed count = joined (codes "of " ∷ decimal count ∷ quanta_word count ∷ tried_words processors needed ∷ [])

-- the line of the quantum that was found, where none is given
abbrev pub found_line : Unit → ℕ → Option ℕ → ℕ → ℕ → List ℕ
found_line unit quantum processors needed count = quantum_words unit quantum ++ tried_text processors needed count ++ codes "\n"

abbrev pub tried_line : Unit → ℕ → Option ℕ → ℕ → Option ℕ → List ℕ
tried_line unit quantum processors needed None = []
tried_line unit quantum processors needed (Some count) = found_line unit quantum processors needed count

-- the table of a plan and the lines below it
abbrev pub plan_notes : Unit → ℕ → ℕ → List Listed → Plan → List ℕ → List ℕ
plan_notes unit processors quantum tasks plan last =
    columns_text (headings (has_deadline tasks) ∷ report_rows (has_deadline tasks) unit quantum 1 tasks plan.tasks.items) ++ codes "\n"
    ++ summary_text processors plan (billionths_of (map (λ t. t.times) tasks)) ++ last

-- the script of a plan on so many processors is written; it fails where it does not fit them
pub record IsPlanAnswer (unit : Unit) (processors quantum : ℕ) (tasks : List Listed) (plan : Plan) (last : List ℕ) (a : Answer) : Type 0 where
  pub text : a.text.items ≡ script_text processors quantum tasks plan
  pub status : a.ending.status ≡ fit_status plan.load (processors * plan.base)
  pub notes : a.ending.notes.items ≡ plan_notes unit processors quantum tasks plan last

abbrev pub too_many_text : ListFile → ℕ → List ℕ
too_many_text f needed = file_front f.name.now ++ joined (decimal needed ∷ codes " processors are needed, and 64 are the most\n" ∷ [])

-- on the processors that are given, or on as many as are needed, where there may be so many
abbrev pub OnProcessors : ListFile → ℕ → List Listed → Plan → ℕ → List ℕ → Option ℕ → Answer → Type 0
OnProcessors f quantum tasks plan needed last (Some given) a = IsPlanAnswer f.unit given quantum tasks plan last a
OnProcessors f quantum tasks plan needed last None a =
    MatchBool (nat_lt 64 needed) (IsTold (too_many_text f needed) a) (IsPlanAnswer f.unit needed quantum tasks plan last a)

-- the answer of what a quantum gives: its script, or the messages of its faults; `tried` is how many quanta were tried where
-- none is given
abbrev pub faults_told : ListFile → Terms → Planned → List ℕ
faults_told f terms p = messages_text f.name.now f.text.now (fault_messages f terms.arrivals p.quantum.length p.faults.items)

abbrev pub ScriptFor : ListFile → Terms → Option ℕ → List Listed → Planned → Option Plan → Option ℕ → Answer → Type 0
ScriptFor f terms tried tasks p None needed a = IsTold (faults_told f terms p) a
ScriptFor f terms tried tasks p (Some plan) None a = IsTold (faults_told f terms p) a
ScriptFor f terms tried tasks p (Some plan) (Some needed) a =
    OnProcessors f p.quantum.length tasks plan needed (tried_line f.unit p.quantum.length terms.processors needed tried) terms.processors a

-- how many quanta were tried, where none is given
abbrev pub tried_of : List ℕ → List Planned → Option ℕ
tried_of [] all = Some (length all)
tried_of (quantum ∷ quanta) all = None

-- the answer of the quantum that is shown, or that there is none
abbrev pub ScriptShown : ListFile → Terms → Option ℕ → List Listed → List Planned → Option ℕ → Answer → Type 0
ScriptShown f terms tried tasks all None a = IsTold (no_quantum_line f tasks) a
ScriptShown f terms tried tasks all (Some i) a = (p : Planned) × (p ≡ slice_index_or all i p) × ScriptFor f terms tried tasks p p.plan p.needed a

-- the script of the plan that is shown is written, or its faults are told
pub record IsScriptAnswer (f : ListFile) (terms : Terms) (quanta : List ℕ) (tasks : List Listed) (all : List Planned) (a : Answer) : Type 0 where
  pub place : Option ℕ
  pub is_shown : MatchOption place (length (map outcome_of all) ≡ 0) (IsShownQuantum terms.processors (map outcome_of all))
  pub shows : ScriptShown f terms (tried_of quanta all) tasks all place a

abbrev pub best_status : Option ℕ → Status
best_status None = FailedOn
best_status (Some place) = Done

-- what several quanta are told by: the work of the tasks, and which of them is the best
pub record IsSeriesOf (f : ListFile) (terms : Terms) (tasks : List Listed) (all : List Planned) (s : Series) : Type 0 where
  pub told : s ≡ record { unit = f.unit; arrivals = terms.arrivals; processors = terms.processors; work = billionths_of (map (λ t. t.times) tasks); best = s.best }
  pub is_best : MatchOption s.best (NoneFits terms.processors (map outcome_of all)) (IsBestQuantum terms.processors (map outcome_of all))

-- what they end with: why some give no plan, and a failure where none fits
pub record EndsSeries (f : ListFile) (s : Series) (tasks : List Listed) (all : List Planned) (e : Ending) : Type 0 where
  pub status : e.status ≡ best_status s.best
  pub notes : e.notes.items ≡ series_notes f s.arrivals tasks all

-- the table of what several quanta give these tasks is written
pub record IsTableAnswer (f : ListFile) (terms : Terms) (tasks : List Listed) (all : List Planned) (a : Answer) : Type 0 where
  pub series : Series
  pub is_series : IsSeriesOf f terms tasks all series
  pub text : a.text.items ≡ series_text series all
  pub ends : EndsSeries f series tasks all a.ending

-- the same as an object of JSON
pub record IsJsonAnswer (f : ListFile) (terms : Terms) (tasks : List Listed) (all : List Planned) (a : Answer) : Type 0 where
  pub series : Series
  pub is_series : IsSeriesOf f terms tasks all series
  pub text : a.text.items ≡ json_text f series terms.switch tasks all
  pub ends : EndsSeries f series tasks all a.ending
