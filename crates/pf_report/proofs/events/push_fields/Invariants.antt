use Rattle.std.proofs.Common.{◌≡◌, ◌∷◌, map, take}
use Rattle.std.specs.Fmt.{decimal}
use Rattle.pf_report.specs.Events.{number_field}
use Rattle.pf_report.proofs.events.push_fields.Given as goal

abbrev pub invariant-loop-number : goal.invariant-loop-number
invariant-loop-number l = l.table ≡ record {
  text = l.fn.table.text;
  fields = decimal l.id ∷ decimal l.slot ∷ l.kind ∷ map number_field (take l.number-index l.numbers);
}
