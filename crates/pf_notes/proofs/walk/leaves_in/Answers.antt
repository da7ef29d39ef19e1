use Rattle.std.proofs.Common.{rules, ◌≡◌, ◌∙◌, ◌+◌, ◌<◌, true, false, nat_le, ap, sym}
use Rattle.pf_notes.specs.Walk.{lets_go_by}
use Rattle.pf_notes.proofs.Finding.{slot_here, slot_on}
use Rattle.pf_notes.proofs.walk.leaves_in.Goals as goal

pub returns-then-bound-t : goal.returns-then-bound-t
returns-then-bound-t c =
    let test = lets_go_by c.args.rows.now c.args.joined.now c.args.standing.now in
    let within : c.loop-t.t < c.args.to = search rules in
    let yes : nat_le c.bound_behind-bound.result (c.loop-t.t + 1) ≡ true = search rules in
    slot_here test c.loop-t.t c.args.to _ within c.loop-t.invariant.1
    (ap (λ b. nat_le b (c.loop-t.t + 1)) (sym c.bound_behind-bound.ensures) ∙ yes)

pub loop-t-preserved : goal.loop-t-preserved
loop-t-preserved c =
    let test = lets_go_by c.args.rows.now c.args.joined.now c.args.standing.now in
    let within : c.loop-t.t < c.args.to = search rules in
    let no : nat_le c.bound_behind-bound.result (c.loop-t.t + 1) ≡ false = search rules in (
      c.bound_behind-bound.ensures,
      slot_on test c.loop-t.t c.args.to _ within c.loop-t.invariant.1
          (ap (λ b. nat_le b (c.loop-t.t + 1)) (sym c.bound_behind-bound.ensures) ∙ no),
    )
