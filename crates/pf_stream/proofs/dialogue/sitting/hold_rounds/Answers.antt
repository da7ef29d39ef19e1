use Rattle.pf_stream.proofs.DialogueLemmas.Rounds.{sat_ends, sat_more}
use Rattle.pf_stream.proofs.dialogue.sitting.hold_rounds.Goals as goal

pub rounds-preserved : goal.rounds-preserved
rounds-preserved g c =
    let next = rw c.in-Ok-None.field-0-is at c.in-Ok-None.ensures.round in
    record {
      is_open = c.in-Ok-None.ensures.open;
      is = c.in-Ok-None.ensures.is c.in-Ok-None.field-0-is;
      sat = sat_more _ _ _ _ _ _ next.0 _ _ _ c.rounds.invariant.sat next.1 next.2;
    }

pub returns-in-Ok-Some : goal.returns-in-Ok-Some
returns-in-Ok-Some g c = sat_ends _ _ _ _ _ _ _ _ _ c.rounds.invariant.sat (rw c.in-Ok-Some.field-0-is at c.in-Ok-Some.ensures.round)

pub returns-in-Err : goal.returns-in-Err
returns-in-Err g c = sat_ends _ _ _ _ _ _ _ _ _ c.rounds.invariant.sat c.in-Err.ensures.round
