use Rattle.std.proofs.Common.{◌≡◌, ◌≤◌, ◌+◌, drop}
use Rattle.pf_journal.specs.Lines.{ends_in}
use Rattle.pf_journal_file.proofs.sizes.ends_in.Given as goal

-- those so far, and those that are left
abbrev pub invariant-loop-byte : goal.invariant-loop-byte
invariant-loop-byte l = record {
  count : l.count + ends_in (drop l.byte-index l.bytes) ≡ ends_in l.bytes;
  within : l.count ≤ l.byte-index;
}
