-- What a list is answered with that is asked whether it fits.
use Rattle.std.specs.Prelude.{⊤, ℕ, ◌≡◌, ◌<◌, Bool, true, false, min, unwrap_or, Option, None, Some, MatchOption, List, [], ◌∷◌, length, map, slice_index_or}
use Rattle.pf_scenario.specs.declared.settings.TheConstants.{MOST_PROCESSORS}
use Rattle.pf_vocabulary.specs.declared.fault.answer.Answer.{Answer}
use Rattle.pf_vocabulary.specs.declared.fault.status.Status.{Status}
use Rattle.pf_vocabulary.specs.declared.fault.status.Status.TheVariants.{Done, FailedOn}
use Rattle.pf_vocabulary.specs.declared.options.fit_format.FitFormat.{FitFormat}
use Rattle.pf_vocabulary.specs.declared.options.fit_format.FitFormat.TheVariants.{Text, Json}
use Rattle.pf_convert.specs.declared.conversion.list_file.ListFile.{ListFile}
use Rattle.pf_convert.specs.declared.conversion.planned.Planned.{Planned}
use Rattle.pf_convert.specs.declared.fit.shown.Shown.{Shown}
use Rattle.pf_convert.specs.declared.fit.shown_task.ShownTask.{ShownTask}
use Rattle.pf_convert.specs.declared.list.listed.Listed.{Listed}
use Rattle.pf_convert.specs.declared.margins.margin.Margin.{Margin}
use Rattle.pf_convert.specs.declared.margins.margins.Margins.{Margins}
use Rattle.pf_convert.specs.declared.plan.Plan.{Plan}
use Rattle.pf_convert.specs.declared.slotted.Slotted.{Slotted}
use Rattle.pf_convert.specs.declared.words.conversion.Conversion.{Conversion}
use Rattle.pf_convert.specs.Conversion.Answers.{IsTold}
use Rattle.pf_convert.specs.Conversion.Conversions.{IsListFile, terms_of}
use Rattle.pf_convert.specs.Conversion.Series.{ArePlannedFor, outcome_of}
use Rattle.pf_convert.specs.Fit.Exactness.{exactness_of}
use Rattle.pf_convert.specs.Fit.Json.{no_shown_json, shown_json}
use Rattle.pf_convert.specs.Fit.NoPlan.{no_plan_text, nothing_text}
use Rattle.pf_convert.specs.Fit.Shown.{is_fit}
use Rattle.pf_convert.specs.Fit.Text.{shown_text}
use Rattle.pf_convert.specs.List.List.{ListTold, list_told}
use Rattle.pf_convert.specs.List.Messages.{Told, messages_text}
use Rattle.pf_convert.specs.List.Units.{shown_unit}
use Rattle.pf_convert.specs.Margins.Fitting.{IsPlan}
use Rattle.pf_convert.specs.Margins.Margins.{IsMarginsOf}
use Rattle.pf_convert.specs.Outcomes.{IsShownQuantum, billionths_of}
use Rattle.pf_convert.specs.Plans.{IsNeeded}
use Rattle.pf_convert.specs.Slots.{IsQuantum}

-- a task with its slots and margins
pub record IsShownAs (listed : Listed) (slots : Slotted) (margin : Margin) (t : ShownTask) : Type 0 where
  pub name : t.name.now ≡ listed.name
  pub times : t.times ≡ listed.times
  pub in_slots : t.slots ≡ slots
  pub may_go : t.margin ≡ margin

-- the tasks of a list, each with its slots and margins
pub record AreShownTasks (listed : List Listed) (slots : List Slotted) (margins : List Margin) (tasks : List ShownTask) : Type 0 where
  pub as_many : length tasks ≡ length listed
  pub each : (k : ℕ) (l : Listed) (s : Slotted) (m : Margin) (t : ShownTask) → k < length tasks
      → IsShownAs (slice_index_or listed k l) (slice_index_or slots k s) (slice_index_or margins k m) (slice_index_or tasks k t)

-- a plan of the tasks of a list, with the processors that it needs
pub record IsReadyPlan (listed : List Listed) (plan : Plan) (needed : Option ℕ) : Type 0 where
  pub is_plan : IsPlan plan
  pub as_many : length listed ≡ length plan.tasks.items
  pub needs : MatchOption needed ⊥ (IsNeeded plan.base plan.load)

-- what a quantum gives the tasks of a list
pub record IsReady (listed : List Listed) (p : Planned) : Type 0 where
  pub quantum : IsQuantum p.quantum
  pub plan : MatchOption p.plan ⊤ (λ plan. IsReadyPlan listed plan p.needed)

-- the processors that a plan is to fit: those that are given, or as many as it needs, where there may be so many
abbrev pub processors_for : Option ℕ → ℕ → ℕ
processors_for given needed = unwrap_or given (min needed MOST_PROCESSORS)

-- there are quanta that are given
abbrev pub is_given : List ℕ → Bool
is_given [] = false
is_given (quantum ∷ quanta) = true

-- what is shown of a quantum's plan
pub record IsShownOf (f : ListFile) (asked : Conversion) (listed : List Listed) (count : ℕ) (p : Planned) (plan : Plan) (s : Shown) : Type 0 where
  pub file : s.file.now ≡ f
  pub unit : s.unit ≡ asked.unit
  pub terms : s.terms ≡ terms_of asked
  pub given : s.is_given ≡ is_given asked.quanta
  pub counted : s.count ≡ count
  pub quantum : s.quantum ≡ p.quantum
  pub processors : s.processors ≡ processors_for asked.processors s.margins.now.processors
  pub is_plan : s.plan.now ≡ plan
  pub margins : IsMarginsOf s.processors s.quantum (map (λ l. l.times) listed) plan s.margins.now
  pub tasks_listed : s.listed.now ≡ listed
  pub tasks : AreShownTasks listed plan.tasks.items s.margins.now.tasks.items s.tasks.now
  pub exactness : s.exactness ≡ exactness_of asked.arrivals p.quantum.length plan.exact s.tasks.now

abbrev pub fit_text : FitFormat → Shown → List Planned → List ℕ
fit_text Text s all = shown_text s
fit_text Json s all = shown_json s (map outcome_of all) (billionths_of (map (λ l. l.times) s.listed.now))

abbrev pub fit_status : Bool → Status
fit_status true = Done
fit_status false = FailedOn

-- only this is written
pub record IsWritten (text : List ℕ) (status : Status) (a : Answer) : Type 0 where
  pub writes : a.text.items ≡ text
  pub ends : a.ending.status ≡ status
  pub notes : a.ending.notes.items ≡ []

-- the plan that is shown is told, with its margins
pub record IsPlanFit (f : ListFile) (asked : Conversion) (format : FitFormat) (listed : List Listed) (all : List Planned) (p : Planned) (plan : Plan) (a : Answer) : Type 0 where
  pub shown : Shown
  pub is_shown : IsShownOf f asked listed (length all) p plan shown
  pub written : IsWritten (fit_text format shown all) (fit_status (is_fit shown)) a

-- why there is no plan
abbrev pub no_fit_text : FitFormat → ListFile → Conversion → List Listed → List Planned → Option Planned → List ℕ
no_fit_text Text f asked listed all None = nothing_text f asked.arrivals listed
no_fit_text Text f asked listed all (Some p) = no_plan_text f asked.arrivals (length all) p
no_fit_text Json f asked listed all planned =
    no_shown_json f (terms_of asked) planned listed (map outcome_of all) (billionths_of (map (λ l. l.times) listed))

abbrev pub FitFor : ListFile → Conversion → FitFormat → List Listed → List Planned → Planned → Option Plan → Answer → Type 0
FitFor f asked format listed all p None a = IsWritten (no_fit_text format f asked listed all (Some p)) FailedOn a
FitFor f asked format listed all p (Some plan) a = IsPlanFit f asked format listed all p plan a

abbrev pub FitShown : ListFile → Conversion → FitFormat → List Listed → List Planned → Option ℕ → Answer → Type 0
FitShown f asked format listed all None a = IsWritten (no_fit_text format f asked listed all None) FailedOn a
FitShown f asked format listed all (Some i) a = (p : Planned) × (p ≡ slice_index_or all i p) × FitFor f asked format listed all p p.plan a

-- the quantum that is shown is told, of those that were planned for
pub record IsFitOf (f : ListFile) (asked : Conversion) (format : FitFormat) (listed : List Listed) (all : List Planned) (a : Answer) : Type 0 where
  pub place : Option ℕ
  pub is_shown : MatchOption place (length (map outcome_of all) ≡ 0) (IsShownQuantum asked.processors (map outcome_of all))
  pub shows : FitShown f asked format listed all place a

pub record IsFitTold (name text : List ℕ) (asked : Conversion) (format : FitFormat) (told : ListTold) (a : Answer) : Type 0 where
  pub file : ListFile
  pub is_file : IsListFile name text told.heading (shown_unit asked.unit told.tasks) file
  pub all : List Planned
  pub planned : ArePlannedFor (terms_of asked) asked.quanta told.tasks all
  pub fits : IsFitOf file asked format told.tasks all a

-- the answer of what a list tells: the messages of its faults, or whether its tasks fit
abbrev pub FitTold : List ℕ → List ℕ → Conversion → FitFormat → ListTold → List Told → Answer → Type 0
FitTold name text asked format told [] a = IsFitTold name text asked format told a
FitTold name text asked format told (fault ∷ faults) a = IsTold (messages_text name text (fault ∷ faults)) a

-- whether a list of these bytes, in a file of this name, fits what is asked for
abbrev pub MakesFit : List ℕ → Conversion → FitFormat → List ℕ → Answer → Type 0
MakesFit name asked format text a = FitTold name text asked format (list_told name asked.unit text) (list_told name asked.unit text).faults a
