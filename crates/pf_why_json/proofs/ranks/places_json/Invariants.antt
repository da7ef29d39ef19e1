use Rattle.std.proofs.Common.{◌≡◌, map}
use Rattle.pf_place.specs.Lent.{lent_row}
use Rattle.pf_why_json.specs.Ranks.{places_json}
use Rattle.pf_why_json.proofs.ranks.places_json.Given as goal

-- those of the processors so far
abbrev pub invariant-loop-processor : goal.invariant-loop-processor
invariant-loop-processor l = map (λ v. v.items) l.texts.items ≡ places_json l.processor (lent_row l.row)
