use Rattle.std.proofs.Common.{◌≡◌, ◌≢◌, sym, ap, ◌∙◌, subst}
use Rattle.std.specs.List.{All}
use Rattle.std.specs.Option.{is_some}
use Rattle.pf_scenario.specs.Cards.{event_on}
use Rattle.pf_scenario.specs.declared.card.Card.{Card}
use Rattle.pf_scenario.proofs.Numbering.{spot_at, without-absent, without-none, listed-struck, table-struck, some-held}
use Rattle.pf_scenario.proofs.by_number.ByNumber.take_out.Goals as goal

pub returns-in_default : goal.returns-in_default
returns-in_default c =
    let cards = c.self.inside.cards.items in
    let absent = subst (All (λ card. card.id ≢ c.args.id)) c.deref.ensures.value c.in_default.ensures in
    rw (← c.self.view_is) (sym (without-absent cards c.args.id absent))

pub returns-then-is_struck : goal.returns-then-is_struck
returns-then-is_struck c =
    let cards = c.self.inside.cards.items in
    let s = spot_at c.deref.result.now cards c.self.inside.held c.args.id c.in-Some.at c.deref.ensures.value c.self.invariant c.in-Some.ensures in
    let is : c.index.result.now ≡ s.card = c.index.ensures ∙ s.read c.index.result.now in
    rw (← c.self.view_is) (without-none cards c.args.id c.in-Some.at s (sym (ap (λ (x : Card). is_some (event_on x)) is) ∙ c.if-is_struck.ensures))

pub overflow_sub-self : goal.overflow_sub-self
overflow_sub-self c =
    let cards = c.self.inside.cards.items in
    let s = spot_at c.deref.result.now cards c.self.inside.held c.args.id c.in-Some.at c.deref.ensures.value c.self.invariant c.in-Some.ensures in
    let is : c.index.result.now ≡ s.card = c.index.ensures ∙ s.read c.index.result.now in
    some-held cards c.self.inside.held c.args.id c.in-Some.at s c.self.invariant (sym (ap (λ (x : Card). is_some (event_on x)) is) ∙ c.if-is_struck.ensures)

pub invariant_of-self : goal.invariant_of-self
invariant_of-self c =
    let cards = c.self.inside.cards.items in
    let s = spot_at c.deref.result.now cards c.self.inside.held c.args.id c.in-Some.at c.deref.ensures.value c.self.invariant c.in-Some.ensures in
    let is : c.index.result.now ≡ s.card = c.index.ensures ∙ s.read c.index.result.now in
    table-struck cards c.sweep.new.cards.items c.self.inside.held c.args.id c.in-Some.at s c.strike.new.self
    c.self.invariant c.strike.ensures.event (sym (ap (λ (x : Card). is_some (event_on x)) is) ∙ c.if-is_struck.ensures) c.sweep.ensures.same c.sweep.ensures.rising

pub returns : goal.returns
returns c =
    let cards = c.self.inside.cards.items in
    let s = spot_at c.deref.result.now cards c.self.inside.held c.args.id c.in-Some.at c.deref.ensures.value c.self.invariant c.in-Some.ensures in
    rw (← c.self.view_is) (c.sweep.ensures.same ∙ listed-struck cards c.args.id c.in-Some.at s c.strike.new.self c.strike.ensures.event)
