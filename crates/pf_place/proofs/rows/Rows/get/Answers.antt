use Rattle.std.proofs.Common.{◌≡◌, ◌+◌, ◌*◌, ◌/◌, ◌%◌, ◌-◌, ◌≤◌, length, ap, ap₂, sym, ◌∙◌, arith}
use Rattle.std.specs.List.{slice_get}
use Rattle.pf_place.proofs.Filed.{got_in_full, got_in_last, none_within}
use Rattle.pf_place.proofs.rows.Rows.get.Goals as goal

pub returns-in-Some : goal.returns-in-Some
returns-in-Some c =
    let inside = c.self.inside in
    let q = c.args.t / 64 in
    let r = c.args.t % 64 in
    let at : q * 64 + r ≡ c.args.t = omega arith in
    c.row.ensures
    ∙ sym (got_in_full inside.full inside.last.rows c.in-Some.block.now q r c.self.invariant.whole c.in-Some.ensures (omega arith))
    ∙ ap₂ slice_get c.self.view_is at

pub returns-in-None : goal.returns-in-None
returns-in-None c =
    let inside = c.self.inside in
    let past : length inside.full ≤ c.args.t / 64 = none_within inside.full (c.args.t / 64) c.in-None.ensures in
    c.row-in-None.ensures
    ∙ ap (λ n. slice_get inside.last.rows (c.args.t - n * 64)) c.len.ensures
    ∙ sym (got_in_last inside.full inside.last.rows c.args.t c.self.invariant.whole (omega arith))
    ∙ ap (λ rows. slice_get rows c.args.t) c.self.view_is
