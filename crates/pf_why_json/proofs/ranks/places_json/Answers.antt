use Rattle.std.proofs.Common.{◌∙◌, ap}
use Rattle.pf_place.specs.Lent.{lent_row}
use Rattle.pf_why_json.specs.Ranks.{sitter_json}
use Rattle.pf_why_json.proofs.Places.{place_next}
use Rattle.pf_why_json.proofs.ranks.places_json.Goals as goal

pub loop-processor-preserved : goal.loop-processor-preserved
loop-processor-preserved c =
    place_next (λ v. v.items) c.loop-processor.texts.items c.push.new.self.items c.in_ok-sitter_json.field-0 (lent_row c.args.row) c.loop-processor.processor
    c.in_ok-push.ensures.items c.loop-processor.invariant (c.in_ok-sitter_json.ensures ∙ ap sitter_json c.get.ensures)
