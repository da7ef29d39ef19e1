-- The cases of the computed group deadline, and that each product fits.
use Rattle.std.proofs.Common.{◌≡◌, ◌<◌, ◌-◌, ◌*◌, true, false, arith}
use Rattle.std.specs.Int.{div_ceil}
use Rattle.pf_weight.specs.Share.{is_heavy}
use Rattle.pf_window.specs.Window.{deadline_of}
use Rattle.pf_window.proofs.Groups.{group_of-is, group_of_light, group_of_whole, group_of_part, lack_bound, whole_bound, group_bound}
use Rattle.pf_window.proofs.group.Goals as goal

pub returns-then-not-is_heavy-clause-value : goal.returns-then-not-is_heavy-clause-value
returns-then-not-is_heavy-clause-value c =
    let light : is_heavy c.args.weight ≡ false = cc in
    let is = group_of_light c.args.weight c.args.i light in cc

pub returns-then-free-eq0-clause-value : goal.returns-then-free-eq0-clause-value
returns-then-free-eq0-clause-value c =
    let heavy : is_heavy c.args.weight ≡ true = cc in
    let full : c.args.weight.cost ≡ c.args.weight.period = omega arith in
    let is = group_of_whole c.args.weight c.args.i heavy full in cc

pub returns-then-free-eq0-clause-group : goal.returns-then-free-eq0-clause-group
returns-then-free-eq0-clause-group c =
    rw (returns-then-free-eq0-clause-value c) (group_of-is c.args.weight c.args.i c.cost.ensures.share c.requires.first)

pub overflow_mul-due : goal.overflow_mul-due
overflow_mul-due c =
    let heavy : is_heavy c.args.weight ≡ true = cc in
    rw (c.deadline-due.ensures.value, c.period.ensures.value, c.cost.ensures.value)
    (omega (arith, lack_bound c.args.weight c.args.i c.cost.ensures.share heavy c.requires.last))

pub overflow_mul-div_ceil : goal.overflow_mul-div_ceil
overflow_mul-div_ceil c =
    let w = c.args.weight in
    let heavy : is_heavy w ≡ true = cc in
    let is : c.div_ceil.result ≡ div_ceil (deadline_of w c.args.i * (w.period - w.cost)) w.period = cc in
    rw (is, c.period-3.ensures.value)
    (omega (arith, whole_bound w c.args.i c.cost.ensures.share heavy c.requires.last))

pub returns-clause-value : goal.returns-clause-value
returns-clause-value c =
    let heavy : is_heavy c.args.weight ≡ true = cc in
    let part : c.args.weight.cost < c.args.weight.period = omega arith in
    let is = group_of_part c.args.weight c.args.i heavy part in cc

pub returns-clause-group : goal.returns-clause-group
returns-clause-group c =
    rw (returns-clause-value c) (group_of-is c.args.weight c.args.i c.cost.ensures.share c.requires.first)

pub returns-clause-bound : goal.returns-clause-bound
returns-clause-bound c =
    let heavy : is_heavy c.args.weight ≡ true = cc in
    let part : c.args.weight.cost < c.args.weight.period = omega arith in
    rw (returns-clause-value c, group_of_part c.args.weight c.args.i heavy part)
    (group_bound c.args.weight c.args.i c.cost.ensures.share heavy part c.requires.last)
