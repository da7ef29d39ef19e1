-- The times of tasks.
use Rattle.std.proofs.Common.{◌≡◌, List, map, sym, subst}
use Rattle.std.specs.Prelude.{All}
use Rattle.std.proofs.lemmas.List.Elements.{All-map}
use Rattle.pf_convert.specs.declared.timed.Timed.{Timed}
use Rattle.pf_convert.specs.Slots.{IsTimed}
use Rattle.pf_convert.specs.declared.list.listed.Listed.{Listed}

pub times_timed : (tasks : List Listed) (times : List Timed) → times ≡ map (λ t. t.times) tasks → All (λ t. IsTimed t.times) tasks → All IsTimed times
times_timed tasks times e timed = subst (All IsTimed) (sym e) (All-map IsTimed (λ t. t.times) tasks timed)
