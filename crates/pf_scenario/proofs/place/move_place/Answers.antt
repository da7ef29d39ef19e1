use Rattle.std.proofs.Common.{◌≡◌, sym, ap, ◌∙◌}
use Rattle.std.specs.List.{list_any}
use Rattle.std.specs.Set.{remove_key}
use Rattle.std.specs.BTreeMap.{is_at}
use Rattle.std.specs.BTreeSet.{insert_key}
use Rattle.std.proofs.lemmas.Bool.{OnFalse_at}
use Rattle.pf_scenario.specs.Place.{place_cmp}
use Rattle.pf_scenario.proofs.Placing.{place_cmp_total}
use Rattle.pf_scenario.proofs.Moving.{moved, stayed, was_there, was_new}
use Rattle.pf_scenario.proofs.place.move_place.Goals as goal

pub returns-then-not-branch-clause-ok : goal.returns-then-not-branch-clause-ok
returns-then-not-branch-clause-ok c = λ others away near was.
    let held = was_there _ (list_any (is_at (place_cmp c.args.to)) c.args.places.now.keys) c.in_ok-insert.ensures.added c.if-not-branch.true in
    let same : c.insert.new.self.keys ≡ c.args.places.now.keys = OnFalse_at c.if-not-branch.true c.in_ok-insert.ensures.unchanged in
    same ∙ was ∙ stayed c.args.from c.args.to others (ap (list_any (is_at (place_cmp c.args.to))) (sym was) ∙ held) near

pub returns-clause-ok : goal.returns-clause-ok
returns-clause-ok c = λ others away near was.
    let none = was_new _ (list_any (is_at (place_cmp c.args.to)) c.args.places.now.keys) c.in_ok-insert.ensures.added c.if-not-branch.false in
    c.remove.ensures.keys
    ∙ ap (remove_key (is_at (place_cmp c.args.from))) (c.in_ok-insert.ensures.keys ∙ ap (λ ks. insert_key place_cmp ks c.args.to) was)
    ∙ moved place_cmp_total c.args.from c.args.to others (ap (list_any (is_at (place_cmp c.args.to))) (sym was) ∙ none) away
