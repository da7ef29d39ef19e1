use Rattle.std.proofs.Common.{◌≡◌, take, All}
use Rattle.pf_desk.specs.Plain.{IsPlain}
use Rattle.pf_desk.proofs.apply_all.plain_edits.Given as goal

abbrev pub invariant-loop-command : goal.invariant-loop-command
invariant-loop-command l = record {
  counted : l.count ≡ l.command-index;
  plain : All IsPlain (take l.command-index l.commands);
}
