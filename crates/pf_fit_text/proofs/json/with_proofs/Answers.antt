use Rattle.std.proofs.Common.{◌∙◌, ◌++◌, codes, ap}
use Rattle.pf_fit_text.specs.Json.{truth}
use Rattle.pf_fit_text.proofs.json.with_proofs.Goals as goal

pub returns : goal.returns
returns c =
    c.in_ok-extend_from_slice.ensures.items
    ∙ ap (λ t. t ++ c.args.refused.now)
    (c.in_ok-push_element.ensures
    ∙ ap (λ t. t ++ codes "},\"refused\":")
    (c.in_ok-push_truth-2.ensures ∙ ap (λ t. t ++ truth (codes ",\"settings\":") c.args.settings) c.in_ok-push_truth.ensures))
