use Rattle.std.proofs.Common.{rules, ◌≤◌, length}
use Rattle.pf_notes.proofs.Joining.{load_is}
use Rattle.pf_notes.proofs.inside.load_of.Goals as goal

pub returns : goal.returns
returns c =
    let whole : length c.args.standing.now ≤ c.loop-numbered.numbered-index = search rules in
    load_is c.args.settings.base c.loop-numbered.numbered-index c.loop-numbered.load c.in_ok-left.left.items c.args.standing.now
    c.in_ok-left.ensures whole c.loop-numbered.invariant.0
