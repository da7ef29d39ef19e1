-- The load and the room of a run's slots, as a table.
use Rattle.std.specs.Prelude.{ℕ, List, [], ◌∷◌, codes, map}
use Rattle.std.specs.Fmt.{decimal}
use Rattle.pf_run.specs.Computed.{run_of}
use Rattle.pf_tally.specs.declared.level.Level.{Level}
use Rattle.pf_tally.specs.Levels.{levels_of}
use Rattle.pf_desk.specs.Desk.{Seen}
use Rattle.pf_text.specs.Page.{table_text}

abbrev pub level_record : Level → List (List ℕ)
level_record level = decimal level.slot ∷ decimal level.load ∷ decimal level.room ∷ []

-- of the slots from `from` on and below `to` a line for the first one, and for each in which load or room changes
unfoldable pub load_text : Seen → ℕ → ℕ → List ℕ
load_text seen from to =
    table_text ((codes "slot" ∷ codes "load" ∷ codes "room" ∷ [])
    ∷ map level_record (levels_of seen.state.plan (run_of seen.state.plan seen.state.now) from to))
