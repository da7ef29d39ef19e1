use Rattle.std.proofs.Common.{arith}
use Rattle.pf_convert.proofs.MarginsLemmas.Works.{most_of, none_of, work_within}
use Rattle.pf_convert.proofs.margins.works.most_work.Goals as goal

pub returns-then-cost-eq0 : goal.returns-then-cost-eq0
returns-then-cost-eq0 c =
    none_of c.args.processors c.args.quantum c.args.plan.now c.args.place c.room_beside-room.result c.min-cost.result c.index-task.result.now c.requires.quantum
    c.requires.plan c.requires.place c.index-task.ensures c.room_beside-room.ensures c.min-cost.ensures c.if-cost-eq0.true

pub overflow_mul-result : goal.overflow_mul-result
overflow_mul-result c =
    omega (
      arith,
      work_within c.args.quantum c.args.plan.now c.args.place c.min-cost.result _ c.index-task.result.now c.requires.quantum c.requires.plan c.requires.place
          c.index-task.ensures c.min-cost.ensures,
    )

pub returns : goal.returns
returns c =
    most_of c.args.processors c.args.quantum c.args.plan.now c.args.place c.room_beside-room.result c.min-cost.result c.index-task.result.now c.requires.quantum
    c.requires.plan c.requires.place c.index-task.ensures c.room_beside-room.ensures c.min-cost.ensures (omega (arith, c.if-cost-eq0.false))
