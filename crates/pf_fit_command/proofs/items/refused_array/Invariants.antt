use Rattle.std.proofs.Common.{◌≡◌, [], fold, map, drop}
use Rattle.pf_fit_command.specs.Items.{refused_item, with_item}
use Rattle.pf_fit_command.proofs.items.refused_array.Given as goal

-- the items so far, and those of the records left
abbrev pub invariant-loop-refused : goal.invariant-loop-refused
invariant-loop-refused l =
    fold with_item l.items.items (map refused_item (drop l.refused-index l.records)) ≡ fold with_item [] (map refused_item l.records)
