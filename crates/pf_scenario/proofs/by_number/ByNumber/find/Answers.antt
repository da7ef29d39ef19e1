use Rattle.std.proofs.Common.{◌≢◌, sym, ap, ◌∙◌, subst}
use Rattle.std.specs.List.{All}
use Rattle.pf_scenario.specs.Cards.{event_on}
use Rattle.pf_scenario.proofs.Numbering.{spot_at, event_at-absent, event_at-spot}
use Rattle.pf_scenario.proofs.by_number.ByNumber.find.Goals as goal

pub returns-in_err-at : goal.returns-in_err-at
returns-in_err-at c =
    let cards = c.self.inside.cards.items in
    let absent = subst (All (λ card. card.id ≢ c.args.id)) c.deref.ensures.value c.in_err-at.ensures in
    rw (c.from_residual.ensures, ← c.self.view_is) (sym (event_at-absent cards c.args.id absent))

pub returns-in_err-event : goal.returns-in_err-event
returns-in_err-event c =
    let cards = c.self.inside.cards.items in
    let s = spot_at c.deref.result.now cards c.self.inside.held c.args.id c.in_ok-at.at c.deref.ensures.value c.self.invariant c.in_ok-at.ensures in
    let none = sym c.in_err-event.was ∙ c.event.ensures ∙ ap event_on (c.index.ensures ∙ s.read c.index.result.now) in
    rw (c.from_residual-in_err-event.ensures, ← c.self.view_is) (none ∙ sym (event_at-spot cards c.args.id c.in_ok-at.at s))

pub returns : goal.returns
returns c =
    let cards = c.self.inside.cards.items in
    let s = spot_at c.deref.result.now cards c.self.inside.held c.args.id c.in_ok-at.at c.deref.ensures.value c.self.invariant c.in_ok-at.ensures in
    let some = sym c.in_ok-event.was ∙ c.event.ensures ∙ ap event_on (c.index.ensures ∙ s.read c.index.result.now) in
    rw (← c.self.view_is) (some ∙ sym (event_at-spot cards c.args.id c.in_ok-at.at s))
