-- Sums over tasks.
use Rattle.std.specs.Prelude.{◌+◌, List, sum_by}
use Rattle.pf_tally.specs.declared.figures.Figures.{Figures}
use Rattle.pf_verdict.specs.declared.totals.Totals.{Totals}

abbrev pub totals_of : List Figures → Totals
totals_of figures = record {
  missed = sum_by (λ f. f.missed) figures;
  preemptions = sum_by (λ f. f.preemptions) figures;
  migrations = sum_by (λ f. f.migrations) figures;
}

-- with a task more
abbrev pub totals_with : Totals → Figures → Totals
totals_with totals f = record {
  missed = totals.missed + f.missed;
  preemptions = totals.preemptions + f.preemptions;
  migrations = totals.migrations + f.migrations;
}
