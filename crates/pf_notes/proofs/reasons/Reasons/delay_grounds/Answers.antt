use Rattle.std.proofs.Common.{rules, ◌≡◌, sym, subst₂}
use Rattle.pf_notes.specs.Reasons.{AreReasons}
use Rattle.pf_notes.specs.Walk.{AreRunRows, last_in, release_with, sub_of}
use Rattle.pf_notes.proofs.Standing.{rows_are, delay_told}
use Rattle.pf_notes.proofs.reasons.Reasons.delay_grounds.Goals as goal

pub last_in-quantum-requires : goal.last_in-quantum-requires
last_in-quantum-requires c =
    let are : AreReasons c.args.self.now c.self.inside.past.items c.self.inside.denied.items = search rules in
    let m : c.processors.result ≡ c.args.self.now.state.plan.settings.processors = search rules in
    let rows : c.rows-rows.result.now ≡ c.args.self.now.rows = search rules in
    subst₂ AreRunRows (sym m) (sym rows) (rows_are c.args.self.now c.self.inside.past.items c.self.inside.denied.items are)

pub returns : goal.returns
returns c = λ before point standing.
    let are : AreReasons c.args.self.now c.self.inside.past.items c.self.inside.denied.items = search rules in
    let task : c.joined.inside.task ≡ c.args.joined.now.task = search rules in
    let rows : c.rows-rows.result.now ≡ c.args.self.now.rows = search rules in
    let quantum : c.last_in-quantum.result ≡ last_in c.rows-rows.result.now c.joined.inside.task c.args.slot = search rules in
    let sub : c.sub_of.result ≡ sub_of c.last_in-quantum.result = search rules in
    let release : c.release_with.result ≡ release_with c.args.joined.now c.args.standing.now c.args.slot c.last_in-quantum.result = search rules in
    delay_told c.args.self.now c.self.inside.past.items c.self.inside.denied.items are before c.args.slot point c.args.joined.now
    c.joined.inside.task c.sub_of.result c.release_with.result c.last_in-quantum.result c.rows-rows.result.now c.args.standing.now
    task rows standing quantum sub release
