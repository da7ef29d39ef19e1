use Rattle.std.proofs.Common.{rules, ◌<◌, length}
use Rattle.pf_notes.proofs.Joining.{leaving_more}
use Rattle.pf_notes.proofs.inside.leaving.Goals as goal

pub loop-numbered-preserved : goal.loop-numbered-preserved
loop-numbered-preserved c =
    let within : c.loop-numbered.numbered-index < length c.args.standing.now = search rules in
    leaving_more c.loop-numbered.numbered-index c.args.standing.now _ c.loop-numbered.tasks.items _ within c.in_ok-note_leaver.ensures
    c.loop-numbered.invariant
