-- The last line of a fit: the tasks that came off worst.
use Rattle.std.specs.Prelude.{ℕ, Option, None, Some, List, [], ◌++◌, codes}
use Rattle.std.specs.Fmt.{decimal, signed_decimal}
use Rattle.pf_vocabulary.specs.Names.Titled.{label_of}
use Rattle.pf_vocabulary.specs.declared.names.named.Named.{Named}
use Rattle.pf_text.specs.Columns.Decimals.{signed_cut}
use Rattle.pf_tally.specs.declared.figures.Figures.{Figures}
use Rattle.pf_verdict.specs.Totals.{totals_of}
use Rattle.pf_verdict.specs.Worst.{worst_lag, worst_response}
use Rattle.pf_verdict.specs.declared.totals.Totals.{Totals}
use Rattle.pf_verdict.specs.declared.worst.Rated.{Rated}

unfoldable pub response_text : List Named → Rated → List ℕ
response_text names w =
    (signed_decimal w.value ++ (codes " of " ++ (decimal w.period ++ codes " ("))) ++ label_of names w.task ++ codes ")"

-- none has a job
abbrev pub worst_response_text : List Named → Option Rated → List ℕ
worst_response_text names None = codes "-"
worst_response_text names (Some w) = response_text names w

unfoldable pub lag_text : List Named → Rated → List ℕ
lag_text names w = signed_cut w.value w.period 3 ++ codes " (" ++ label_of names w.task ++ codes ")"

abbrev pub worst_lag_text : List Named → Option Rated → List ℕ
worst_lag_text names None = []
worst_lag_text names (Some w) = lag_text names w

unfoldable pub moves_text : Totals → List ℕ
moves_text totals =
    codes "; " ++ (decimal totals.preemptions ++ (codes " preemptions, " ++ (decimal totals.migrations ++ codes " migrations\n")))

unfoldable pub worst_line : List Named → List Figures → List ℕ
worst_line names figures =
    codes "worst: response " ++ worst_response_text names (worst_response figures) ++ codes ", lag "
    ++ worst_lag_text names (worst_lag figures) ++ moves_text (totals_of figures)
