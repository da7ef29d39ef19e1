use Rattle.std.proofs.Common.{◌≡◌, ◌≤◌, ◌*◌, take, sum_by}
use Rattle.pf_notes.specs.Leavers.{units_staying}
use Rattle.pf_notes.proofs.inside.load_of.Given as goal

abbrev pub invariant-loop-numbered : goal.invariant-loop-numbered
invariant-loop-numbered l =
    (l.load ≡ sum_by (λ x. units_staying l.settings.base l.left.items x.event) (take l.numbered-index l.standing))
    × (l.load ≤ l.numbered-index * l.settings.base)
