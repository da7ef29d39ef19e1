use Rattle.std.proofs.Common.{◌≡◌, drop}
use Rattle.std.specs.List.{list_any}
use Rattle.pf_script.specs.Messages.WordHints.{is_blank}
use Rattle.pf_script.proofs.messages.near.has_blank.Given as goal

-- none of those so far is a blank
abbrev pub invariant-loop-byte : goal.invariant-loop-byte
invariant-loop-byte l = list_any is_blank (drop l.byte-index l.word) ≡ list_any is_blank l.word
