use Rattle.std.proofs.Common.{◌∙◌, ℕ, List, [], Bor, Option, option_map, unwrap_or, not, arith, ap, rules, sym, tests}
use Rattle.std.proofs.lemmas.Iterator.Search.{find_from_yields_List}
use Rattle.std.proofs.lemmas.Iterator.Splits.{YieldsList-from_str_split}
use Rattle.pf_vocabulary.specs.Options.FailLists.{is_word_of_list}
use Rattle.pf_arguments.proofs.mistakes.lists.first_wrong.Goals as goal

pub returns-in-Some : goal.returns-in-Some
returns-in-Some c =
    let found = find_from_yields_List (λ word. not (is_word_of_list word)) _ _ c.find.result c.find.ensures.ran
    (YieldsList-from_str_split 44 c.args.list.now (omega arith) c.split.ensures.text c.split.ensures.has_more c.split.ensures.pattern)
    (λ x b q k. search (rules, tests)) in
    ap (λ (o : Option (List ℕ)). unwrap_or o []) (ap (λ (o : Option (Bor (List ℕ))). option_map (λ w. w.now) o) (sym c.in-Some.is) ∙ found)

pub returns-in-None : goal.returns-in-None
returns-in-None c =
    let found = find_from_yields_List (λ word. not (is_word_of_list word)) _ _ c.find.result c.find.ensures.ran
    (YieldsList-from_str_split 44 c.args.list.now (omega arith) c.split.ensures.text c.split.ensures.has_more c.split.ensures.pattern)
    (λ x b q k. search (rules, tests)) in
    ap (λ (o : Option (List ℕ)). unwrap_or o []) (ap (λ (o : Option (Bor (List ℕ))). option_map (λ w. w.now) o) (sym c.in-None.is) ∙ found)
