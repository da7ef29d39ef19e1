use Rattle.std.proofs.Common.{◌++◌, ◌∙◌, ap, map-id, sym}
use Rattle.std.proofs.lemmas.Iterator.{YieldsList-from_chars}
use Rattle.std.proofs.lemmas.Iterator.Consumers.{YieldsList-end}
use Rattle.std.specs.List.{flat_map}
use Rattle.pf_arguments.specs.Lines.{shown_character, shown_lines}
use Rattle.pf_arguments.proofs.lines.push_lines.Goals as goal

pub returns : goal.returns
unfolding shown_lines
returns c =
    let ends = YieldsList-end (YieldsList-from_chars c.args.lines.now c.utf8.lines cc) c.loop-character.yielded _ c.loop-character.yielded_by _ _ c.in-None.is c.next.ensures.steps in
    c.loop-character.invariant
    ∙ ap (λ characters. c.args.text.now.items ++ flat_map shown_character characters) (sym (map-id c.loop-character.yielded) ∙ ends.0)
