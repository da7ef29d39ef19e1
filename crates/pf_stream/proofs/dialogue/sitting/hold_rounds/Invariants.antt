use Rattle.pf_stream.specs.Dialogue.Ahead.{IsAhead, ahead_of}
use Rattle.pf_stream.specs.Dialogue.Sits.{talk_of}
use Rattle.pf_stream.proofs.DialogueLemmas.Rounds.{SatSoFar}
use Rattle.pf_stream.proofs.dialogue.sitting.hold_rounds.Given as goal

-- rounds were held, one after the other, and it can go on
abbrev pub invariant-rounds : goal.invariant-rounds
invariant-rounds g l = record {
  is_open : g.D.Dialogue.is_open l.dialogue;
  is : IsAhead l.ahead;
  sat : SatSoFar (talk_of g.A.Answers.answers g.A.Answers.stops g.A.Answers.keeps g.A.Answers.loses g.D.Dialogue.hears g.D.Dialogue.is_deaf g.D.Dialogue.tells g.D.Dialogue.is_mute)
      l.fn.answers l.fn.dialogue l.answers l.dialogue (ahead_of l.ahead);
}
