use Rattle.std.proofs.Common.{◌≡◌, ◌++◌, drop, map}
use Rattle.pf_place.specs.Lent.{lent_row}
use Rattle.pf_answers.specs.Steps.{items_from, place_json}
use Rattle.pf_answers.proofs.items.push_places.Given as goal

-- after the places so far those that are left
abbrev pub invariant-loop-processor : goal.invariant-loop-processor
invariant-loop-processor l =
    l.text.items ++ items_from l.processor (map place_json (drop l.processor (lent_row l.row)))
    ≡ l.fn.text.items ++ items_from 0 (map place_json (lent_row l.row))
