use Rattle.std.proofs.Common.{◌++◌, ◌∙◌, ap, sym}
use Rattle.std.proofs.lemmas.List.Folds.{flat_map-map}
use Rattle.std.specs.List.{flat_map}
use Rattle.pf_session_lines.specs.Words.{word_line}
use Rattle.pf_session_lines.proofs.reason.help.Goals as goal

pub returns : goal.returns
returns c =
    c.in_ok-push_lines.ensures
    ∙ ap (λ t. t ++ flat_map (λ w. word_line w.now) c.all_words.result.now) c.new-text.ensures.items
    ∙ sym (flat_map-map word_line (λ w. w.now) c.all_words.result.now)
    ∙ ap (flat_map word_line) c.all_words.ensures
