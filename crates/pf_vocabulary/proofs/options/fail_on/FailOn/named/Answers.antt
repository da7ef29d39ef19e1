use Rattle.std.proofs.Common.{◌≡◌, ◌∙◌, arith, true, false, refl, rules, sym, tests}
use Rattle.std.specs.List.{list_all}
use Rattle.std.proofs.lemmas.Iterator.Search.{all_from_yields_List}
use Rattle.std.proofs.lemmas.Iterator.Splits.{YieldsList-from_str_split}
use Rattle.pf_vocabulary.specs.Options.FailLists.{is_word_of_list, words_joined}
use Rattle.pf_vocabulary.proofs.options.fail_on.FailOn.named.Goals as goal

pub returns-then-not-all : goal.returns-then-not-all
returns-then-not-all c =
    let all = all_from_yields_List is_word_of_list _ _ c.all.result c.all.ensures.ran
    (YieldsList-from_str_split 44 c.args.list.now (omega arith) c.split.ensures.text c.split.ensures.has_more c.split.ensures.pattern)
    (λ x b q k. search (rules, tests)) in
    let none : list_all is_word_of_list (words_joined c.args.list.now) ≡ false = sym all ∙ c.if-not-all.true in
    rw none refl

pub returns : goal.returns
returns c =
    let all = all_from_yields_List is_word_of_list _ _ c.all.result c.all.ensures.ran
    (YieldsList-from_str_split 44 c.args.list.now (omega arith) c.split.ensures.text c.split.ensures.has_more c.split.ensures.pattern)
    (λ x b q k. search (rules, tests)) in
    let whole : list_all is_word_of_list (words_joined c.args.list.now) ≡ true = sym all ∙ c.if-not-all.false in
    rw (whole, c.is_listed.ensures, c.is_listed-2.ensures, c.is_listed-3.ensures) refl
