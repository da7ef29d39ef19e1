use Rattle.std.proofs.Common.{◌≡◌, ◌^◌, ◌<◌, true, take}
use Rattle.std.specs.Str.{all_ascii_digits}
use Rattle.std.specs.Str.Parse.{digits_value}
use Rattle.pf_convert.proofs.list.time.parse_digits.Given as goal

-- the bytes so far are digits, and the value is theirs
abbrev pub invariant-loop-byte : goal.invariant-loop-byte
invariant-loop-byte l = record {
  digits : all_ascii_digits (take l.byte-index l.field) ≡ true;
  value : l.value ≡ digits_value 10 (take l.byte-index l.field);
  small : l.value < 10 ^ l.byte-index;
}
