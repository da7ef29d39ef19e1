use Rattle.std.proofs.Common.{◌∙◌, sym, ap, map, option_map}
use Rattle.std.specs.Prelude.{string_bytes}
use Rattle.pf_arguments.proofs.Reading.{topic_shown}
use Rattle.pf_arguments.proofs.words.read_words.Goals as goal

pub returns-in_ok-from_str-in-Some-clause-asked : goal.returns-in_ok-from_str-in-Some-clause-asked
returns-in_ok-from_str-in-Some-clause-asked g c =
    topic_shown (map g.S.AsStr.text c.args.words.now) c.in-Some.text.now (string_bytes c.in_ok-from_str-in-Some.field-0)
    (sym c.topic_asked.ensures ∙ ap (option_map (λ t. t.now)) c.in-Some.is) c.in_ok-from_str-in-Some.ensures.ok
