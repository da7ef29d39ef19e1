use Rattle.std.proofs.Common.{rules, ◌≡◌, ◌≤◌, ◌+◌, ◌-◌, length, sym, subst₂, arith}
use Rattle.pf_run.specs.Record.{in_force}
use Rattle.pf_notes.specs.Grounds.{last_slot}
use Rattle.pf_notes.specs.Point.{first_slot}
use Rattle.pf_notes.specs.Reasons.{AreReasons}
use Rattle.pf_notes.specs.Walk.{AreRunRows, last_in, lets_go_by, bound_with, ran_of, sub_of}
use Rattle.pf_notes.proofs.Standing.{rows_are, rows_long, leave_told}
use Rattle.pf_notes.proofs.reasons.Reasons.leave_grounds.Goals as goal

pub last_in-quantum-requires : goal.last_in-quantum-requires
last_in-quantum-requires c =
    let are : AreReasons c.args.self.now c.self.inside.past.items c.self.inside.denied.items = search rules in
    let m : c.processors.result ≡ c.args.self.now.state.plan.settings.processors = search rules in
    let rows : c.rows-rows.result.now ≡ c.args.self.now.rows = search rules in
    subst₂ AreRunRows (sym m) (sym rows) (rows_are c.args.self.now c.self.inside.past.items c.self.inside.denied.items are)

pub last_in-at_end-requires : goal.last_in-at_end-requires
last_in-at_end-requires c =
    let are : AreReasons c.args.self.now c.self.inside.past.items c.self.inside.denied.items = search rules in
    let m : c.processors-2.result ≡ c.args.self.now.state.plan.settings.processors = search rules in
    let rows : c.rows-rows.result.now ≡ c.args.self.now.rows = search rules in
    subst₂ AreRunRows (sym m) (sym rows) (rows_are c.args.self.now c.self.inside.past.items c.self.inside.denied.items are)

pub leaves_in-from-requires-clause-rows : goal.leaves_in-from-requires-clause-rows
leaves_in-from-requires-clause-rows c =
    let are : AreReasons c.args.self.now c.self.inside.past.items c.self.inside.denied.items = search rules in
    let m : c.settings-settings.result.processors ≡ c.args.self.now.state.plan.settings.processors = search rules in
    let rows : c.rows-rows.result.now ≡ c.args.self.now.rows = search rules in
    subst₂ AreRunRows (sym m) (sym rows) (rows_are c.args.self.now c.self.inside.past.items c.self.inside.denied.items are)

pub leaves_in-from-requires-clause-within : goal.leaves_in-from-requires-clause-within
leaves_in-from-requires-clause-within c =
    let are : AreReasons c.args.self.now c.self.inside.past.items c.self.inside.denied.items = search rules in
    let rows : length c.rows-rows.result.now ≡ length c.args.self.now.rows = search rules in
    let least : c.min-last.result ≤ c.args.self.now.state.now = search rules in
    omega (arith, rows, least, rows_long c.args.self.now c.self.inside.past.items c.self.inside.denied.items are)

pub returns : goal.returns
returns c = λ before point.
    let are : AreReasons c.args.self.now c.self.inside.past.items c.self.inside.denied.items = search rules in
    let task : c.joined.inside.task ≡ c.args.joined.now.task = search rules in
    let rows : c.rows-rows.result.now ≡ c.args.self.now.rows = search rules in
    let standing : c.in_ok-whole.whole.items ≡ in_force c.args.self.now.denials c.self.inside.past.items = search rules in
    let quantum : c.last_in-quantum.result ≡ last_in c.rows-rows.result.now c.joined.inside.task c.args.slot = search rules in
    let sub : c.sub_of.result ≡ sub_of c.last_in-quantum.result = search rules in
    let ran : c.ran_of.result ≡ ran_of c.last_in-quantum.result = search rules in
    let last : c.min-last.result ≡ last_slot c.args.self.now.state.plan.settings c.args.self.now.state.now = search rules in
    let from : c.leaves_in-from.result ≡ first_slot (lets_go_by c.rows-rows.result.now c.args.joined.now c.in_ok-whole.whole.items) (c.args.slot + 1) (c.min-last.result - c.args.slot) = search rules in
    let at_end : c.last_in-at_end.result ≡ last_in c.rows-rows.result.now c.joined.inside.task c.min-last.result = search rules in
    let later : c.bound_with.result ≡ bound_with c.args.joined.now c.in_ok-whole.whole.items c.last_in-at_end.result = search rules in
    let horizon : c.horizon-2.result ≡ c.args.self.now.state.plan.settings.horizon = search rules in
    leave_told c.args.self.now c.self.inside.past.items c.self.inside.denied.items are before c.args.slot point c.args.joined.now
    c.joined.inside.task c.sub_of.result c.ran_of.result c.min-last.result c.bound_with.result c.horizon-2.result c.leaves_in-from.result
    c.last_in-quantum.result c.last_in-at_end.result c.rows-rows.result.now c.in_ok-whole.whole.items task rows standing quantum sub ran last from at_end
    later horizon
