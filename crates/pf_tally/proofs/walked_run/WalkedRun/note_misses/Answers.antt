use Rattle.std.proofs.Common.{arith}
use Rattle.pf_tally.proofs.Journals.{journal_can, walked_received, journal_misses, walked_misses}
use Rattle.pf_tally.proofs.walked_run.WalkedRun.note_misses.Goals as goal

pub received-received-requires : goal.received-received-requires
received-received-requires c =
    let can = journal_can c.requires.walked.scenario c.requires.walked.rows c.requires.walked.denials c.args.self.now c.requires.walked.is c.args.task c.requires.joined in
    can.number

pub overflow_cast-received : goal.overflow_cast-received
overflow_cast-received c =
    let can = journal_can c.requires.walked.scenario c.requires.walked.rows c.requires.walked.denials c.args.self.now c.requires.walked.is c.args.task c.requires.joined in
    let long = walked_received c.requires.walked.scenario c.requires.walked.rows c.requires.walked.denials c.args.self.now c.requires.walked.is c.args.task c.requires.joined c.received-received.result c.received-received.ensures in
    omega (arith, can.ran_within, can.within, long)

pub note_unrun-requires-clause-can : goal.note_unrun-requires-clause-can
note_unrun-requires-clause-can c =
    journal_misses c.requires.walked.scenario c.requires.walked.rows c.requires.walked.denials c.args.self.now c.requires.walked.is c.args.task c.requires.joined c.delays.result.now c.delays.ensures

pub note_unrun-requires-clause-received : goal.note_unrun-requires-clause-received
note_unrun-requires-clause-received c =
    let can = journal_can c.requires.walked.scenario c.requires.walked.rows c.requires.walked.denials c.args.self.now c.requires.walked.is c.args.task c.requires.joined in
    let long = walked_received c.requires.walked.scenario c.requires.walked.rows c.requires.walked.denials c.args.self.now c.requires.walked.is c.args.task c.requires.joined c.received-received.result c.received-received.ensures in
    omega (arith, can.ran_within, can.within, long)

pub returns : goal.returns
returns c = λ s rows denials known.
    walked_misses s rows denials c.args.self.now known c.args.task c.requires.joined
    c.delays.result.now c.late.result.now c.received-received.result c.last_due-last.result c.diary.result.now c.args.misses.now.items c.note_late.new.misses.items c.note_unrun.new.misses.items
    c.delays.ensures c.late.ensures c.received-received.ensures c.diary.ensures c.last_due-last.ensures c.in_ok-note_late.ensures c.in_ok-note_unrun.ensures
