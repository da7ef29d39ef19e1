use Rattle.std.proofs.Common.{◌≡◌, ◌+◌, All, sum_by}
use Rattle.pf_scenario.specs.Edit.{IsEvent}
use Rattle.pf_scenario.specs.declared.event.Numbered.{Numbered}
use Rattle.pf_fit_command.specs.Joins.{join_units, joins_units}
use Rattle.pf_fit_command.proofs.joins.joins_units.Given as goal

-- the units so far, and those of the events left, each of which is within its limits
abbrev pub invariant-loop-numbered : goal.invariant-loop-numbered
invariant-loop-numbered l = record {
  sum : l.units + sum_by (λ (x : Numbered). join_units l.scenario.settings.base x.event) l.numbered-iterator ≡ joins_units l.scenario;
  limits : All (λ (x : Numbered). IsEvent l.scenario.settings x.event) l.numbered-iterator;
}
