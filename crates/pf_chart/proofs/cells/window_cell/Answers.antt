use Rattle.std.proofs.Common.{◌∙◌, ◌≡◌, ◌-◌, ◌<◌, ◌≤◌, sym, arith}
use Rattle.pf_chart.proofs.Drawn.{covering_between, covering_over, covered_none, covered_twice, covered_symbol}
use Rattle.pf_chart.proofs.cells.window_cell.Goals as goal

pub returns-then-t-end : goal.returns-then-t-end
returns-then-t-end c =
    let track = c.args.course.now in
    let over : track.end ≤ c.args.t = omega (arith, c.if-t-end.true, c.end.ensures) in
    sym (covering_over track c.args.t over)

pub returns-then-released-due : goal.returns-then-released-due
returns-then-released-due c =
    let track = c.args.course.now in
    let t = c.args.t in
    let inside : t < track.end = omega (arith, c.if-t-end.false, c.end.ensures) in
    sym (covering_between track t c.released-released.result c.due-due.result inside c.released-released.ensures c.due-due.ensures
    ∙ covered_none t track.windows c.released-released.result c.due-due.result (omega arith))

pub returns-then-released-due-gt1 : goal.returns-then-released-due-gt1
returns-then-released-due-gt1 c =
    let track = c.args.course.now in
    let t = c.args.t in
    let inside : t < track.end = omega (arith, c.if-t-end.false, c.end.ensures) in
    sym (covering_between track t c.released-released.result c.due-due.result inside c.released-released.ensures c.due-due.ensures
    ∙ covered_twice t track.windows c.released-released.result c.due-due.result (omega arith) c.released-released.ensures.within)

pub returns : goal.returns
returns c =
    let track = c.args.course.now in
    let t = c.args.t in
    let inside : t < track.end = omega (arith, c.if-t-end.false, c.end.ensures) in
    let once : c.released-released.result - c.due-due.result ≡ 1 = omega (arith, c.if-released-due.false, c.if-released-due-gt1.false) in
    covered_symbol track t c.released-released.result c.due-due.result c.windows.result.now _ _ inside c.released-released.ensures c.due-due.ensures once
    c.windows.ensures c.window_symbol.ensures
