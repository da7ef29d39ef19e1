use Rattle.std.proofs.Common.{◌≡◌, ◌≤◌, ◌+◌, ◌++◌, length, map, take}
use Rattle.pf_desk.specs.Settled.{count_wide}
use Rattle.pf_desk.specs.Laid.{settled_of, briefs_from}
use Rattle.pf_desk.proofs.history.settle.Given as goal

abbrev pub invariant-loop-entry : goal.invariant-loop-entry
invariant-loop-entry l = record {
  briefs : l.briefs.items ≡ l.initial.briefs.items ++ briefs_from (length l.initial.settled.items) (take l.entry-index l.entries);
  commands : l.settled.items ≡ l.initial.settled.items ++ map settled_of (take l.entry-index l.entries);
  many_commands : length l.settled.items ≡ length l.initial.settled.items + l.entry-index;
  for_briefs : l.initial.briefs.room ≤ l.briefs.room + l.entry-index;
  for_all : l.initial.settled.room ≤ l.settled.room + l.entry-index;
  for_wide : l.initial.settled.wide_room ≤ l.settled.wide_room + count_wide (map settled_of (take l.entry-index l.entries));
}
