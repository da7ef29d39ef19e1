use Rattle.std.proofs.Common.{arith, rules, tests}
use Rattle.std.specs.Str.{bytes_eq}
use Rattle.std.proofs.lemmas.Iterator.Search.{any_from_yields_List}
use Rattle.std.proofs.lemmas.Iterator.Splits.{YieldsList-from_str_split}
use Rattle.pf_vocabulary.proofs.options.fail_on.is_listed.Goals as goal

pub returns : goal.returns
returns c =
    any_from_yields_List (λ listed. bytes_eq listed c.args.word.now) _ _ _ c.any.ensures.ran
    (YieldsList-from_str_split 44 c.args.list.now (omega arith) c.split.ensures.text c.split.ensures.has_more c.split.ensures.pattern)
    (λ x b q k. search (rules, tests))
