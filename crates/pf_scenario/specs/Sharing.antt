-- Agendas that copies share.
use Rattle.std.specs.Prelude.{Option, None, Some, List, []}
use Rattle.std.specs.Arc.{arc_value}
use Rattle.std.specs.declared.sync.Arc.{Arc}
use Rattle.pf_scenario.specs.declared.event.Numbered.{Numbered}

-- the events of an agenda that is shared, if there is one
abbrev pub events_shared : {A : Type 0} → Option (Arc (List Numbered) A) → List Numbered
events_shared {A = A} None = []
events_shared {A = A} (Some agenda) = arc_value {X = List Numbered} {Z = A} agenda
