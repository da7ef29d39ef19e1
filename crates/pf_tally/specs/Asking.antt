-- What the tasks inside ask for, by their numbers.
use Rattle.std.specs.Prelude.{ℕ, ◌==◌, not, List, [], ◌∷◌, ◌++◌, filter}
use Rattle.pf_weight.specs.Share.{share_of}
use Rattle.pf_scenario.specs.declared.event.Event.{Event}
use Rattle.pf_scenario.specs.declared.event.Event.TheVariants.{Join, Leave}
use Rattle.pf_tally.specs.declared.asking.Asking.{Asking}

-- where these ask before an event, those that do after it
abbrev pub asking_after : ℕ → Event → List Asking → List Asking
asking_after base (Join slot task cost period early) asking =
    asking ++ record { task = task; units = (share_of base cost period).units } ∷ []
asking_after base (Leave slot task) asking = filter (λ a. not (a.task == task)) asking
asking_after base event asking = asking
