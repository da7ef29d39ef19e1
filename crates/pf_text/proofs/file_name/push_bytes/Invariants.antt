use Rattle.std.proofs.Common.{◌≡◌, ◌++◌, drop}
use Rattle.pf_text.specs.FileName.{shown_after}
use Rattle.pf_text.proofs.file_name.push_bytes.Given as goal

-- what is shown so far, and what the bytes left are shown as, are all
abbrev pub invariant-loop-index : goal.invariant-loop-index
invariant-loop-index l = l.text.items ++ shown_after l.left (drop l.index l.bytes) ≡ l.fn.text.items ++ shown_after 0 l.bytes
