use Rattle.std.proofs.Common.{◌≡◌, ◌==◌, not, filter, fold, take}
use Rattle.std.specs.List.{list_any}
use Rattle.pf_run.specs.Inside.{count_after}
use Rattle.pf_courses.proofs.counts.count_behind.Given as goal

abbrev pub invariant-loop-numbered : goal.invariant-loop-numbered
invariant-loop-numbered l =
    l.in_use
    ≡ fold (λ count x. count_after count x.event) l.count (filter (λ x. not (list_any (λ n. n == x.id) l.denied)) (take l.numbered-index l.events))
