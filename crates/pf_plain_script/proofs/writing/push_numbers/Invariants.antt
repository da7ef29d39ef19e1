use Rattle.std.proofs.Common.{◌≡◌, ◌++◌, map, take}
use Rattle.std.specs.Fmt.{decimal}
use Rattle.pf_plain_script.proofs.writing.push_numbers.Given as goal

-- the numbers so far are fields of the record
abbrev pub invariant-loop-number : goal.invariant-loop-number
invariant-loop-number l = l.table ≡ record l.fn.table { fields = l.fn.table.fields ++ map decimal (take l.number-index l.numbers) }
