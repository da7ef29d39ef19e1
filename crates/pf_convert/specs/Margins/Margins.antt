-- How far all numbers of a plan may go.
use Rattle.std.specs.Prelude.{ℕ, ◌-◌, ◌<◌, ◌≡◌, nat_le, if◌then◌else◌, Option, None, Some, MatchOption, List, length, slice_index_or as get_or}
use Rattle.pf_convert.specs.declared.margins.margin.Margin.{Margin}
use Rattle.pf_convert.specs.declared.margins.margins.Margins.{Margins}
use Rattle.pf_convert.specs.declared.plan.Plan.{Plan}
use Rattle.pf_convert.specs.declared.quantum.Quantum.{Quantum}
use Rattle.pf_convert.specs.declared.timed.Timed.{Timed}
use Rattle.pf_convert.specs.Margins.Periods.{MakesLeastPeriod}
use Rattle.pf_convert.specs.Margins.Switches.{HasNoSwitch, IsMostSwitch}
use Rattle.pf_convert.specs.Margins.Works.{HasNoWork, IsMostWork}
use Rattle.pf_convert.specs.Plans.{IsNeeded}

-- the margins of the task at a place
pub record IsMarginOf (processors : ℕ) (q : Quantum) (plan : Plan) (place : ℕ) (m : Margin) : Type 0 where
  pub most : MatchOption m.most (HasNoWork processors q plan place) (IsMostWork processors q plan place)
  pub least : MakesLeastPeriod processors plan place m.least

-- the margins of the first tasks
pub record AreMarginsOf (processors : ℕ) (q : Quantum) (plan : Plan) (count : ℕ) (margins : List Margin) : Type 0 where
  pub as_many : length margins ≡ count
  pub each : (place : ℕ) (d : Margin) → place < count → IsMarginOf processors q plan place (get_or margins place d)

-- how many processors may fail where so many are needed
abbrev pub fail_of : ℕ → ℕ → Option ℕ
fail_of processors needed = if nat_le needed processors then Some (processors - needed) else None

pub record IsMarginsOf (processors : ℕ) (q : Quantum) (times : List Timed) (plan : Plan) (m : Margins) : Type 0 where
  pub tasks : AreMarginsOf processors q plan (length plan.tasks.items) m.tasks.items
  pub switch : MatchOption m.switch (HasNoSwitch processors q.length times plan) (IsMostSwitch processors q.length times plan)
  pub needed : IsNeeded plan.base plan.load m.processors
  pub fail : m.fail ≡ fail_of processors m.processors
