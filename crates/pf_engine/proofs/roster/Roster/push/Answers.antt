use Rattle.std.proofs.Common.{◌≡◌, length, ap, ◌∙◌, arith}
use Rattle.pf_engine.specs.Roll.{Roll}
use Rattle.pf_engine.specs.Kept.{member_in}
use Rattle.pf_engine.proofs.Places.{listed_push}
use Rattle.pf_engine.proofs.roster.Roster.push.Goals as goal

pub invariant_of-self : goal.invariant_of-self
invariant_of-self c =
    let n : c.len.result ≡ length c.self.inside.tasks.items = omega (arith, c.self.inside.tasks.ok.0) in
    rw (c.push_reserved.ensures.items, c.set.ensures, n)
    (listed_push c.self.inside.places c.self.inside.tasks.items _ c.self.invariant
    (omega (arith, c.requires.number, ap (λ (r : Roll). r.numbers) c.self.view_is))
    (ap (λ (r : Roll). member_in r.tasks c.args.task) c.self.view_is ∙ c.requires.absent))
