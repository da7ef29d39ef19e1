use Rattle.std.proofs.Common.{◌≡◌, ◌-◌, ◌≤◌, ◌++◌, take, drop}
use Rattle.pf_trace.specs.Forms.{filled}
use Rattle.pf_trace.proofs.form.push_filled.Given as goal

-- what was added, the part since the last hole, and what is left are the whole text
abbrev pub invariant-loop-at : goal.invariant-loop-at
invariant-loop-at l = record {
  whole : l.text.items ++ (take (l.at - l.start) (drop l.start l.form) ++ filled l.title (drop l.at l.form) (drop l.used l.numbers))
      ≡ l.fn.text.items ++ filled l.title l.form l.numbers;
  order : l.start ≤ l.at;
  few : l.used ≤ l.at;
}
