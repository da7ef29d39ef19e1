use Rattle.std.proofs.Common.{rules, ◌≡◌, ◌==◌, ◌∙◌, ap}
use Rattle.std.specs.List.{list_any}
use Rattle.pf_run.specs.Record.{is_denied}
use Rattle.pf_desk.specs.Desk.{Seen}
use Rattle.pf_notes.proofs.Standing.{among_is}
use Rattle.pf_notes.proofs.reasons.Reasons.is_denied.Goals as goal

pub returns : goal.returns
returns c =
    let seen : c.self.inside.snapshot.now ≡ c.args.self.now = search rules in
    c.is_among.ensures ∙ ap (list_any (λ n. n == c.args.numbered.now.id)) c.deref.ensures.value
    ∙ among_is _ _ c.args.numbered.now c.self.invariant.denied
    ∙ ap (λ (seen : Seen). is_denied seen.denials c.args.numbered.now) seen
