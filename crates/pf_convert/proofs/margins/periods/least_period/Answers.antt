use Rattle.std.proofs.Common.{arith, refl}
use Rattle.pf_convert.proofs.MarginsLemmas.Periods.{cost_within, divisor_from, least_at, no_period}
use Rattle.pf_convert.proofs.margins.periods.least_period.Goals as goal

pub returns-then-room-eq0 : goal.returns-then-room-eq0
returns-then-room-eq0 c =
    no_period c.args.processors c.args.plan.now c.args.place c.room_beside-room.result c.requires.plan c.requires.place c.room_beside-room.ensures c.if-room-eq0.true

pub overflow_mul-cost : goal.overflow_mul-cost
overflow_mul-cost c = omega (arith, cost_within c.args.plan.now c.args.place c.index.result.now c.requires.plan c.requires.place c.index.ensures)

pub returns-then-has_base : goal.returns-then-has_base
returns-then-has_base c = (
  least_at c.args.processors c.args.plan.now c.args.place c.room_beside-room.result c.div_ceil.result c.max-least.result c.index.result.now c.requires.plan
      c.requires.place c.room_beside-room.ensures (omega (arith, c.if-room-eq0.false)) c.index.ensures c.div_ceil.ensures c.max-least.ensures,
  (c.if-has_base.ensures.yes refl).0,
  (c.if-has_base.ensures.yes refl).1,
)

pub returns : goal.returns
returns c =
    let least =
    least_at c.args.processors c.args.plan.now c.args.place c.room_beside-room.result c.div_ceil.result c.max-least.result c.index.result.now c.requires.plan
    c.requires.place c.room_beside-room.ensures (omega (arith, c.if-room-eq0.false)) c.index.ensures c.div_ceil.ensures c.max-least.ensures in (
      record { least = c.max-least.result; is_least = least; keeps = c.if-has_base.ensures.no refl },
      divisor_from c.args.processors c.args.plan.now c.args.place c.max-least.result c.args.divisors.now c.least_from.result c.requires.plan c.requires.place
          c.requires.divisors least c.least_from.ensures,
    )
