use Rattle.std.proofs.Common.{◌≡◌, ◌+◌, ◌++◌, ◌∷◌, [], sym, ap, ◌∙◌, length-append}
use Rattle.std.specs.Arc.{arc_value}
use Rattle.pf_desk.specs.Desk.{seen_of}
use Rattle.pf_desk.specs.Kept.{shown_by, ready_by}
use Rattle.pf_desk.proofs.prepared.Prepared.of.Goals as goal
use Rattle.pf_desk.proofs.prepared.Prepared.of.Goals.{In_ok-snapshot}

seen : (c : In_ok-snapshot) →
    arc_value c.in_ok-snapshot.snapshot ≡
    seen_of (shown_by c.args.run.scenario c.args.run.timeline (c.args.history.now.entries ++ c.args.entry ∷ []) 0)
seen c =
    c.in_ok-snapshot.ensures.ok
    ∙ c.in_ok-shown.ensures
    ∙ ap (λ version. record (seen_of (shown_by c.args.run.scenario c.args.run.timeline [] 0)) { version = version })
    (ap (λ n. n + 1) c.len.ensures.value ∙ sym (length-append c.args.history.now.entries (c.args.entry ∷ [])))

pub invariant_of-result : goal.invariant_of-result
invariant_of-result c = rw c.of.ensures (record { keeps = c.requires; seen = seen ((goal.at.invariant_of-result c).In_ok-snapshot) })

pub returns : goal.returns
returns c = rw c.of.ensures (ap (ready_by c.args.run.scenario c.args.run.timeline c.args.history.now.entries c.args.entry) (seen ((goal.at.returns c).In_ok-snapshot)))
