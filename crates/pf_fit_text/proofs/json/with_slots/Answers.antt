use Rattle.std.proofs.Common.{◌∙◌, ◌++◌, codes, ap}
use Rattle.pf_fit_text.specs.Json.{key}
use Rattle.pf_fit_text.proofs.json.with_slots.Goals as goal

pub returns : goal.returns
returns c =
    let word = codes ",\"unreached\":" in
    c.in_ok-push_key.ensures
    ∙ ap (λ n. c.extend_from_slice.new.self.items ++ key word n) c.from.ensures
    ∙ ap (λ t. t ++ key word c.args.unreached)
    (c.in_ok-extend_from_slice.ensures.items ∙ ap (λ t. t ++ c.args.tightest.now) c.in_ok-push_element.ensures)
