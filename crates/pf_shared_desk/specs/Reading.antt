-- What readers of a shared desk read.
use Rattle.std.specs.Prelude.{ℕ, ◌≡◌, List}
use Rattle.pf_scenario.specs.System.{System}
use Rattle.pf_desk.specs.declared.entry.Entry.{Entry}
use Rattle.pf_desk.specs.Desk.{Seen, StandsForHistory}

-- the snapshot stands for a legal history of a desk with these settings
pub record IsShown (settings : System) (s : Seen) : Type 0 where
  pub history : List Entry
  pub stands : StandsForHistory history s
  pub settings_are : s.state.plan.settings ≡ settings

-- a reader: the settings of its desk, and the version of the snapshot that it read last
pub record Reading : Type 0 where
  pub settings : System
  pub version : ℕ
