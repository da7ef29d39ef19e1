-- Changes that have no fault.
use Rattle.std.specs.Prelude.{◌≡◌, ℕ, None, Some}
use Rattle.pf_scenario.specs.Scenario.{Plan, slot_touched}
use Rattle.pf_scenario.specs.Edit.{edit_fault}
use Rattle.pf_scenario.specs.declared.change.Change.{Change}

-- a change, and the least slot that it touches
pub record Checked : Type 0 where
  pub change : Change
  pub first_slot : ℕ

-- the scenario takes the change, which touches this slot first
pub record IsCheckedFor (s : Plan) (c : Checked) : Type 0 where
  pub faultless : edit_fault s c.change ≡ None
  pub touched : slot_touched s c.change ≡ Some c.first_slot
