use Rattle.std.proofs.Common.{List, ℕ, ◌++◌, ◌∙◌, ap}
use Rattle.pf_cli.proofs.Telling.{four_pieces, size_text_is}
use Rattle.pf_cli.proofs.pair_notes.push_size.Goals as goal

pub returns : goal.returns
returns c =
    four_pieces _ _ _ _ _ _ _ _ _ c.in_ok-push_number.ensures.ok c.in_ok-extend_from_slice.ensures.items c.in_ok-push_number-2.ensures.ok
    c.in_ok-extend_from_slice-2.ensures.items
    ∙ ap (λ (t : List ℕ). c.args.text.now.items ++ t) (size_text_is c.args.slots c.args.processors)
