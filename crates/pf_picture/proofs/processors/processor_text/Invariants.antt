use Rattle.std.proofs.Common.{◌≡◌, ◌-◌, ◌++◌, ◌≤◌}
use Rattle.std.specs.List.{flat_map, range_with_len}
use Rattle.pf_picture.specs.Processors.{processor_name, slot_text}
use Rattle.pf_picture.specs.Scale.{processor_top}
use Rattle.pf_picture.proofs.processors.processor_text.Given as goal

abbrev pub invariant-loop-t : goal.invariant-loop-t
invariant-loop-t l = record {
  text : l.text.items
      ≡ processor_name (processor_top l.p) l.p ++ flat_map (slot_text l.snapshot l.scale l.drawings l.p) (range_with_len l.scale.from (l.t - l.scale.from));
  from : l.scale.from ≤ l.t;
  short : l.t ≤ l.scale.to;
}
