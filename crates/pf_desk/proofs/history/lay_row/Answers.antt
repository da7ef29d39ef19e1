use Rattle.std.proofs.Common.{◌∙◌, sym}
use Rattle.pf_desk.proofs.Laying.{idle_row_laid}
use Rattle.pf_desk.proofs.history.lay_row.Goals as goal

pub returns-in_ok-push_idle_beside-clause-ok : goal.returns-in_ok-push_idle_beside-clause-ok
returns-in_ok-push_idle_beside-clause-ok c =
    idle_row_laid c.args.processors c.args.slots c.args.rows.now c.push_idle_beside.new.self c.in_ok-push_idle_beside.ensures.ok (sym c.len.ensures ∙ c.if-len-slots.true)
