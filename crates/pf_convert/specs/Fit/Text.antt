-- What is told of a plan and its margins, as text.
use Rattle.std.specs.Prelude.{ℕ, if◌then◌else◌, List, [], ◌++◌}
use Rattle.pf_convert.specs.declared.fit.shown.Shown.{Shown}
use Rattle.pf_convert.specs.Fit.Filled.{filled}
use Rattle.pf_convert.specs.Fit.Headline.{asked_words, choice_text, verdict_text}
use Rattle.pf_convert.specs.Fit.NextStep.{next_text}
use Rattle.pf_convert.specs.Fit.Notes.{drift_text, ground_words, limits_words, meaning_words, theorem_words}
use Rattle.pf_convert.specs.Fit.Shown.{is_fit}
use Rattle.pf_convert.specs.Fit.Table.{table_text}

-- what is promised of a plan that fits
abbrev pub promise_text : Shown → List ℕ
promise_text s =
    if is_fit s then filled (theorem_words s.terms.arrivals) ++ filled (ground_words s s.terms.arrivals) ++ drift_text s else []

abbrev pub plan_text : Shown → List ℕ
plan_text s = verdict_text s ++ filled (asked_words s) ++ choice_text s ++ table_text s

abbrev pub margins_text : Shown → List ℕ
margins_text s = filled (meaning_words s) ++ filled (limits_words s) ++ promise_text s ++ next_text s

unfoldable pub shown_text : Shown → List ℕ
shown_text s = plan_text s ++ margins_text s
