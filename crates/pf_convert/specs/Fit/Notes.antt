-- What is told below the table.
use Rattle.std.specs.Prelude.{ℕ, ◌*◌, ◌==◌, Bool, true, false, if◌then◌else◌, Option, None, Some, List, [], ◌∷◌, ◌++◌, length, codes}
use Rattle.std.specs.Fmt.{decimal}
use Rattle.pf_convert.specs.declared.fit.exactness.Exactness.{Exactness}
use Rattle.pf_convert.specs.declared.fit.exactness.Exactness.TheVariants.{Exact, AnyArrivals, EarlyDeadlines, CommonBase, WholeQuanta}
use Rattle.pf_convert.specs.declared.fit.shown.Shown.{Shown}
use Rattle.pf_convert.specs.declared.fit.shown_task.ShownTask.{ShownTask}
use Rattle.pf_convert.specs.declared.words.arrivals.Arrivals.{Arrivals}
use Rattle.pf_convert.specs.declared.words.arrivals.Arrivals.TheVariants.{Aligned, Any}
use Rattle.pf_text.specs.Columns.Decimals.{with_fewest_places}
use Rattle.pf_vocabulary.specs.declared.names.unit.Unit.{Unit}
use Rattle.pf_vocabulary.specs.Names.Slots.{unit_word}
use Rattle.pf_convert.specs.Fit.Filled.{filled}
use Rattle.pf_convert.specs.Fit.Headline.{spaced_text}
use Rattle.pf_convert.specs.Fit.Lateness.{drifting_count, early_count, first_drifting, late_count, latest_from}
use Rattle.pf_convert.specs.Fit.Shown.{any_response_of, is_fit}
use Rattle.pf_convert.specs.List.Parts.{joined}
use Rattle.pf_convert.specs.List.Times.{places_of}
use Rattle.pf_convert.specs.Slots.{due_of}

abbrev pub tasks_word : ℕ → List ℕ
tasks_word count = if count == 1 then codes " task" else codes " tasks"

abbrev pub exactness_words : Exactness → List ℕ
exactness_words Exact = codes "exact: beyond them no schedule in quanta of "
exactness_words AnyArrivals = codes "safe, not exact: up to two quanta of each time are kept for arrivals"
exactness_words EarlyDeadlines = codes "safe, not exact: jobs count as if they came each deadline"
exactness_words CommonBase = codes "safe, not exact: periods are rounded down to a common base"
exactness_words WholeQuanta = codes "safe, not exact: times are rounded down to whole quanta"

abbrev pub alone_words : Bool → List ℕ
alone_words true = codes "for each alone"
alone_words false = codes "what would do for each alone"

-- what an exact margin is exact for
abbrev pub beyond_words : Unit → ℕ → Exactness → List ℕ
beyond_words unit quantum Exact = joined (with_fewest_places (places_of unit) quantum ∷ codes " " ∷ unit_word unit ∷ codes " serves the list" ∷ [])
beyond_words unit quantum AnyArrivals = []
beyond_words unit quantum EarlyDeadlines = []
beyond_words unit quantum CommonBase = []
beyond_words unit quantum WholeQuanta = []

-- what the margins of tasks are
abbrev pub meaning_words : Shown → List ℕ
meaning_words s =
    joined (codes "at most, at least: " ∷ alone_words (is_fit s) ∷ codes ", the others as they are; " ∷ exactness_words s.exactness ∷ [])
    ++ beyond_words s.file.now.unit s.quantum.length s.exactness

abbrev pub switch_limit : Unit → Option ℕ → List ℕ
switch_limit unit None = codes "-"
switch_limit unit (Some switch) = spaced_text unit switch

abbrev pub fail_words : ℕ → Option ℕ → List ℕ
fail_words processors None = []
fail_words processors (Some fail) = joined (codes ", so " ∷ decimal fail ∷ codes " of " ∷ decimal processors ∷ codes " may fail" ∷ [])

abbrev pub most_switch_words : Unit → Option ℕ → List ℕ
most_switch_words unit switch = codes "switch at most " ++ switch_limit unit switch

abbrev pub least_processors_words : ℕ → ℕ → Option ℕ → List ℕ
least_processors_words processors needed fail =
    joined (codes "; processors at least " ∷ decimal needed ∷ []) ++ fail_words processors fail

-- the margins of all tasks together
abbrev pub limits_words : Shown → List ℕ
limits_words s =
    most_switch_words s.file.now.unit s.margins.now.switch ++ least_processors_words s.processors s.margins.now.processors s.margins.now.fail

-- what is proved of a plan that fits
abbrev pub theorem_words : Arrivals → List ℕ
theorem_words Aligned =
    codes "by theorem: each job is done within the time shown, counted from its release, whatever else comes or is late"
theorem_words Any =
    codes "by theorem: each job is done within the time shown, counted from its arrival, whatever else comes or is late"

abbrev pub early_words : ℕ → List ℕ
early_words count =
    if count == 0 then [] else joined (codes " (of " ∷ decimal count ∷ tasks_word count ∷ codes " `early` before)" ∷ [])

-- how many of so many tasks may be late where jobs come at any time, and which most
abbrev pub latest_words : Shown → ℕ → ShownTask → List ℕ
latest_words s count t =
    joined (codes "then " ∷ decimal count ∷ codes " of " ∷ decimal (length s.tasks.now) ∷ tasks_word (length s.tasks.now) ∷ codes " may be late, "
    ∷ t.name.now ∷ codes " most, done within " ∷ with_fewest_places (places_of s.file.now.unit) (any_response_of s t) ∷ codes " " ∷ unit_word s.file.now.unit ∷ codes ", due within "
    ∷ with_fewest_places (places_of s.file.now.unit) (due_of t.times) ∷ codes " " ∷ unit_word s.file.now.unit ∷ codes "; --arrivals any plans for that" ∷ [])

abbrev pub late_from : Shown → ℕ → List ShownTask → List ℕ
late_from s count [] = codes "none is late then either"
late_from s count (t ∷ tasks) = if count == 0 then codes "none is late then either" else latest_words s count (latest_from s t tasks)

abbrev pub release_words : ℕ → List ℕ
release_words early =
    codes "rests on: jobs of a task come as a slot begins, `every` apart or more, take `work` at most, and are released then" ++ early_words early

abbrev pub wait_words : Unit → ℕ → List ℕ
wait_words unit quantum =
    joined (codes ". From any arrival a job takes up to " ∷ with_fewest_places (places_of unit) quantum ∷ codes " " ∷ unit_word unit ∷ codes " more: " ∷ [])

-- what the theorem rests on
abbrev pub aligned_words : Shown → List ℕ
aligned_words s =
    release_words (early_count s.tasks.now) ++ wait_words s.file.now.unit s.quantum.length ++ late_from s (late_count s s.tasks.now) s.tasks.now

abbrev pub ground_words : Shown → Arrivals → List ℕ
ground_words s Any =
    codes "rests on: jobs of a task come at any time, `every` apart or more, take `work` at most, and are released at the next slot: the plan is delayed until then"
ground_words s Aligned = aligned_words s

-- how a table of the plan drifts from the jobs, where it does
abbrev pub drift_words : Shown → ShownTask → List ℕ
drift_words s t =
    joined (codes "as a table (run -f c) it drifts from the jobs of " ∷ decimal (drifting_count s.quantum.length s.tasks.now) ∷ codes " of "
    ∷ decimal (length s.tasks.now) ∷ tasks_word (length s.tasks.now) ∷ codes ", of " ∷ t.name.now ∷ codes " first: windows each "
    ∷ with_fewest_places (places_of s.file.now.unit) (t.slots.period * s.quantum.length) ∷ codes " " ∷ unit_word s.file.now.unit ∷ codes ", jobs each "
    ∷ with_fewest_places (places_of s.file.now.unit) t.times.every ∷ codes " " ∷ unit_word s.file.now.unit ∷ [])

abbrev pub drift_with : Shown → Option ShownTask → List ℕ
drift_with s None = []
drift_with s (Some t) = filled (drift_words s t)

abbrev pub drift_text : Shown → List ℕ
drift_text s = drift_with s (first_drifting s.quantum.length s.tasks.now)
