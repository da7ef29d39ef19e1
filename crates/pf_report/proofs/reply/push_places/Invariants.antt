use Rattle.std.proofs.Common.{◌≡◌, ◌-◌, ◌*◌, ◌≤◌, drop, length, take}
use Rattle.std.specs.List.{flat_map}
use Rattle.pf_place.specs.Lent.{lent_row}
use Rattle.pf_report.specs.Replies.{place_text}
use Rattle.pf_report.proofs.reply.push_places.Given as goal

-- the text has the places from the last processor back to here
abbrev pub invariant-loop-processor : goal.invariant-loop-processor
invariant-loop-processor l = record {
  text : l.places ≡ flat_map place_text (drop l.processor (take l.to (lent_row l.row)));
  within : l.from ≤ l.processor;
  room : length l.places ≤ 22 * (l.to - l.processor);
}
