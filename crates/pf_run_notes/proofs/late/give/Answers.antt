use Rattle.std.proofs.Common.{◌+◌, ◌<◌, ◌==◌, ◌∙◌, ℕ, cond, length, ap, arith}
use Rattle.pf_collections.specs.Table.Grown.{Grown, value_of}
use Rattle.pf_run_notes.proofs.Lateness.{value_set, grown_long}
use Rattle.pf_run_notes.proofs.late.give.Goals as goal

pub returns : goal.returns
returns c = λ t.
    let within : c.args.task < length c.reserve.new.self.0 =
    omega (arith, ap (λ (table : Grown ℕ). length table.0) c.in_ok-reserve.ensures.ok, grown_long c.args.counts.now (c.args.task + 1)) in
    ap (λ (table : Grown ℕ). value_of table t) c.set.ensures ∙ value_set c.reserve.new.self c.args.task c.args.count t within
    ∙ ap (cond (c.args.task == t) c.args.count) (c.in_ok-reserve.ensures.same t)
