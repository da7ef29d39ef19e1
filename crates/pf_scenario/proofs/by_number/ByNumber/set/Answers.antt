use Rattle.std.proofs.Common.{◌≢◌, sym, ◌∙◌, subst}
use Rattle.std.specs.List.{All}
use Rattle.std.proofs.lemmas.Bool.{false≢true}
use Rattle.pf_scenario.proofs.Numbering.{spot_at, held-absent, listed-set, table-set}
use Rattle.pf_scenario.proofs.by_number.ByNumber.set.Goals as goal

pub unreachable-requires : goal.unreachable-requires
unreachable-requires c =
    let cards = c.self.inside.cards.items in
    let held = rw (← c.self.view_is) at c.requires.held in
    let absent = subst (All (λ card. card.id ≢ c.args.id)) c.deref.ensures.value c.in_default.ensures in
    absurd (false≢true (sym (held-absent cards c.args.id absent) ∙ held))

pub invariant_of-self : goal.invariant_of-self
invariant_of-self c =
    let cards = c.self.inside.cards.items in
    let held = rw (← c.self.view_is) at c.requires.held in
    let s = spot_at c.deref.result.now cards c.self.inside.held c.args.id c.in-Some.at c.deref.ensures.value c.self.invariant c.in-Some.ensures in
    table-set cards c.self.inside.held c.args.id c.in-Some.at s c.of.result c.args.event c.self.invariant c.of.ensures held

pub returns : goal.returns
returns c =
    let cards = c.self.inside.cards.items in
    let held = rw (← c.self.view_is) at c.requires.held in
    let s = spot_at c.deref.result.now cards c.self.inside.held c.args.id c.in-Some.at c.deref.ensures.value c.self.invariant c.in-Some.ensures in
    rw (← c.self.view_is) (listed-set cards c.args.id c.in-Some.at s c.of.result c.args.event c.of.ensures held)
