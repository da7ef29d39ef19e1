use Rattle.std.proofs.Common.{◌+◌, ◌∷◌, [], ◌++◌, rules, sym, ap, ◌∙◌, subst}
use Rattle.pf_scenario.specs.Cards.{listed, IsTable}
use Rattle.pf_scenario.proofs.Numbering.{listed-push, table-push, fewer-listed}
use Rattle.pf_scenario.proofs.by_number.ByNumber.push.Goals as goal

pub overflow_add-self : goal.overflow_add-self
overflow_add-self c =
    let few = fewer-listed c.self.inside.cards.items in
    let counted = c.self.invariant.counted in
    search rules

pub invariant_of-self-2 : goal.invariant_of-self-2
invariant_of-self-2 c =
    subst (λ xs. IsTable xs (c.self.inside.held + 1)) (sym c.in_ok-push.ensures.items)
    (table-push c.truncate.new.cards.items c.self.inside.cards.items c.self.inside.held c.of.result c.args.x c.truncate.ensures.same c.truncate.ensures.rising c.truncate.ensures.below c.self.invariant.counted c.of.ensures)

pub returns-clause-ok : goal.returns-clause-ok
returns-clause-ok c =
    rw (← c.self.view_is) (ap listed c.in_ok-push.ensures.items ∙ listed-push c.truncate.new.cards.items c.of.result c.args.x c.of.ensures ∙ ap (λ xs. xs ++ c.args.x ∷ []) c.truncate.ensures.same)
