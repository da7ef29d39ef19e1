use Rattle.std.proofs.Common.{◌≡◌, [], fold, filter_map, drop}
use Rattle.pf_fit_command.specs.Items.{counted_item, with_item}
use Rattle.pf_fit_command.proofs.items.late_array.Given as goal

-- the items so far, and those of the tasks left
abbrev pub invariant-loop-miss : goal.invariant-loop-miss
invariant-loop-miss l =
    fold with_item l.items.items (filter_map (counted_item l.made l.scenario l.late.counts) (drop l.miss-index l.firsts))
    ≡ fold with_item [] (filter_map (counted_item l.made l.scenario l.late.counts) l.firsts)
