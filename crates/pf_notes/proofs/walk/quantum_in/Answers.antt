use Rattle.std.proofs.Common.{rules, ◌≡◌, ◌≤◌, Some, subst, sym}
use Rattle.std.specs.Prelude.{IfSome}
use Rattle.pf_scenario.specs.declared.settings.TheConstants.{WIDE_HORIZON}
use Rattle.pf_notes.specs.Walk.{quantum_in}
use Rattle.pf_notes.specs.declared.quantum.Quantum.{Quantum}
use Rattle.pf_notes.proofs.walk.quantum_in.Goals as goal

pub returns-clause-sub : goal.returns-clause-sub
returns-clause-sub c =
    let q : Quantum = record { slot = c.args.t; sub = c.in_ok-pick.pick.sub } in
    let value : Some q ≡ quantum_in c.args.rows.now c.args.task c.args.t = search rules in
    subst (λ o. IfSome o (λ (q : Quantum). (1 ≤ q.sub) × (q.sub ≤ WIDE_HORIZON))) (sym value) (c.requires.subs c.args.task c.args.t)
