-- The items of the tasks with a missed window.
use Rattle.std.proofs.Common.{◌≡◌, ℕ, List, Option, ap, ◌∙◌, filter_map}
use Rattle.pf_scenario.specs.Scenario.{Plan}
use Rattle.pf_collections.specs.Table.Grown.{Grown}
use Rattle.pf_tally.specs.declared.miss.Miss.{Miss}
use Rattle.pf_notes.specs.Absence.{join_among}
use Rattle.pf_run_notes.specs.Late.{AreLate}
use Rattle.pf_run_notes.specs.declared.place.Place.{Place}
use Rattle.pf_fit_command.specs.Items.{array_of, counted_item, missed_array, missed_item, missed_with}

-- Use: by the table of the counts.
pub counted_array : (made : List Place) (s : Plan) (misses firsts : List Miss) (counts : Grown ℕ) → AreLate misses firsts counts →
    array_of (filter_map (counted_item made s counts) firsts) ≡ missed_array made s misses
counted_array made s misses firsts counts are =
    ap (λ (item : Miss → Option (List ℕ)). array_of (filter_map item firsts))
    (λ i miss. missed_with made miss (are.each miss.task i) (join_among miss.task s.events))
    ∙ ap (λ (ms : List Miss). array_of (filter_map (missed_item made s misses) ms)) are.of_tasks
