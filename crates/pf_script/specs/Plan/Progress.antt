-- What came before a record of a plan.
use Rattle.std.specs.Prelude.{ℕ, true, false, List, [], Option, None, Some}
use Rattle.pf_vocabulary.specs.Names.Names.{with_name}
use Rattle.pf_script.specs.declared.plan.said.Said.{Said}
use Rattle.pf_script.specs.declared.plan.said.Said.TheVariants.{Settings, Slot, Name, Asks}
use Rattle.pf_script.specs.declared.plan.state.Progress.{Progress}
use Rattle.pf_script.specs.Plan.Labels.{with_label}

-- the heading alone
abbrev pub at_heading : Progress
at_heading = record { opened = false; begun = false; slot = None; names = []; labels = [] }

-- after a record that said this; where it labels an event, that was given this number
abbrev pub progress_after : Progress → Said → ℕ → Progress
progress_after p (Settings s) number = record p { opened = true }
progress_after p (Slot length) number = record p { slot = Some length }
progress_after p (Name task name) number = record p { names = with_name p.names task name }
progress_after p (Asks line label) number = record p { begun = true; labels = with_label label number p.labels }
