use Rattle.std.proofs.Common.{◌≡◌, ◌++◌, drop, map}
use Rattle.pf_why_json.specs.Members.{items_from}
use Rattle.pf_why_json.proofs.members.push_items.Given as goal

-- after the texts so far those that are left
abbrev pub invariant-loop-place : goal.invariant-loop-place
invariant-loop-place l =
    l.text.items ++ items_from l.place (map (λ v. v.items) (drop l.place l.items)) ≡ l.fn.text.items ++ items_from 0 (map (λ v. v.items) l.items)
