use Rattle.pf_stream.specs.HeldAnswers.Held.{seen}
use Rattle.pf_stream.proofs.HeldAnswersLemmas.Seen.{sat_same, sat_seen}
use Rattle.pf_stream.proofs.held_answers.hold.sit_held.Goals as goal

pub returns-clause-reader : goal.returns-clause-reader
returns-clause-reader g c =
    (sat_same (record { answers = g.A.Answers.answers; stops = g.A.Answers.stops; keeps = g.A.Answers.keeps; loses = g.A.Answers.loses })
    (seen g.R.Read.remaining g.R.Source.failed g.W.Write.contents g.W.Sink.failed g.F.Write.contents g.F.Sink.failed)
    _ _ _ _ _ c.sit.ensures).reader

pub returns-clause-writer : goal.returns-clause-writer
returns-clause-writer g c =
    (sat_same (record { answers = g.A.Answers.answers; stops = g.A.Answers.stops; keeps = g.A.Answers.keeps; loses = g.A.Answers.loses })
    (seen g.R.Read.remaining g.R.Source.failed g.W.Write.contents g.W.Sink.failed g.F.Write.contents g.F.Sink.failed)
    _ _ _ _ _ c.sit.ensures).writer

pub returns-clause-prompted : goal.returns-clause-prompted
returns-clause-prompted g c =
    (sat_same (record { answers = g.A.Answers.answers; stops = g.A.Answers.stops; keeps = g.A.Answers.keeps; loses = g.A.Answers.loses })
    (seen g.R.Read.remaining g.R.Source.failed g.W.Write.contents g.W.Sink.failed g.F.Write.contents g.F.Sink.failed)
    _ _ _ _ _ c.sit.ensures).prompted

pub returns-clause-sat : goal.returns-clause-sat
returns-clause-sat g c =
    sat_seen (record { answers = g.A.Answers.answers; stops = g.A.Answers.stops; keeps = g.A.Answers.keeps; loses = g.A.Answers.loses })
    (seen g.R.Read.remaining g.R.Source.failed g.W.Write.contents g.W.Sink.failed g.F.Write.contents g.F.Sink.failed)
    _ _ _ _ _ c.sit.ensures
