use Rattle.std.proofs.Common.{◌≡◌, ◌∙◌, ◌-◌, ◌∷◌, ℕ, List, IfOk, arith, ap, drop, length, subst, sym, take}
use Rattle.std.specs.List.{flat_map, slice_split}
use Rattle.std.specs.Prelude.{◌==◌, true}
use Rattle.std.specs.Str.Iter.{split_has_more, split_pattern, split_text}
use Rattle.std.proofs.lemmas.Iterator.Consumers.{YieldsList-end}
use Rattle.std.proofs.lemmas.Iterator.Splits.{YieldsList-from_str_split}
use Rattle.std.proofs.lemmas.List.Folds.{flat_map-map}
use Rattle.pf_arguments.specs.Mistakes.Hints.{list_mended, turned, without_blanks}
use Rattle.pf_arguments.proofs.HintsLemmas.Mapped.{rest_whole}
use Rattle.pf_arguments.proofs.Joined.{joined}
use Rattle.pf_arguments.proofs.mistakes.lists.list_mended.Goals as goal

pub returns-in-len1-up : goal.returns-in-len1-up
returns-in-len1-up c =
    let items = slice_split (λ byte. byte == 44) c.args.text.now in
    let slice = c.as_slice.result.now in
    let first = c.into_iter-item-iterator.result in
    let text : split_text first ≡ c.args.text.now = cc in
    let more : split_has_more first ≡ true = cc in
    let comma : split_pattern first ≡ 44 = cc in
    let ends = YieldsList-end (YieldsList-from_str_split {s = first} 44 c.args.text.now (omega arith) text more comma) c.loop-item.yielded _
    c.loop-item.yielded_by _ _ c.in-None.is c.next.ensures.steps in
    let all : slice ≡ flat_map (λ (item : List ℕ). 44 ∷ turned (without_blanks item)) items =
    c.as_slice.ensures.value ∙ c.loop-item.invariant
    ∙ sym (flat_map-map (λ (item : List ℕ). 44 ∷ turned (without_blanks item)) (λ x. x.now) c.loop-item.yielded)
    ∙ ap (λ l. flat_map (λ (item : List ℕ). 44 ∷ turned (without_blanks item)) l) ends.0 in
    let mended : take (length slice - 1) (drop 1 slice) ≡ list_mended c.args.text.now =
    rest_whole slice ∙ ap (λ (l : List ℕ). drop 1 l) all ∙ joined 44 (λ item. turned (without_blanks item)) items in
    subst (λ (e : List ℕ). IfOk c.from_slice.result (λ m. m.items ≡ e)) mended c.from_slice.ensures.items
