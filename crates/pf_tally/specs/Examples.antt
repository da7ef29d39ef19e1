-- Worked examples of lags and misses.
use Rattle.std.specs.Prelude.{◌≡◌, ℕ, ℤ, pos, negsuc, Option, None, Some, List, [], ◌∷◌, ◌++◌}
use Rattle.pf_scenario.specs.Scenario.{Plan}
use Rattle.pf_scenario.specs.declared.event.Event.TheVariants.{Join, Leave, Delay, Limit}
use Rattle.pf_run.specs.Computed.{run_of}
use Rattle.pf_run.specs.Examples.{plan_with, two_joins, three_joins}
use Rattle.pf_tally.specs.Lags.{lags_of}
use Rattle.pf_tally.specs.Misses.{misses_of}
use Rattle.pf_tally.specs.declared.lag.Lag.{Lag}
use Rattle.pf_tally.specs.declared.miss.Miss.{Miss}

abbrev pub lag : ℕ → ℕ → ℕ → ℕ → ℤ → Lag
lag task cost period received scaled =
    record { task = task; cost = cost; period = period; received = received; scaled = scaled }

abbrev pub miss : ℕ → ℕ → ℕ → Option ℕ → Miss
miss task sub deadline ran = record { task = task; sub = sub; deadline = deadline; ran = ran }

-- the lags and the misses after n slots of the scenario
pub record Tallied (s : Plan) (n : ℕ) (lags : List Lag) (misses : List Miss) : Type 0 where
  pub of_lags : lags_of s (run_of s n) ≡ lags
  pub of_misses : misses_of s (run_of s n) ≡ misses

pub record WorkedTallies : Type 0 where
  -- more is asked for than there is
  pub overload : Tallied (plan_with 1 1 2 two_joins) 4 (lag 1 1 1 2 (pos 2) ∷ lag 2 1 1 2 (pos 2) ∷ [])
      (miss 2 1 1 (Some 1) ∷ miss 1 2 2 (Some 2) ∷ miss 2 2 2 (Some 3) ∷ miss 1 3 3 None ∷ miss 2 3 3 None ∷ miss 1 4 4 None ∷ miss 2 4 4 None ∷ [])
  -- subtasks run up to four slots early
  pub early : Tallied (plan_with 1 4 4 (Join 0 1 1 4 4 ∷ [])) 2 (lag 1 1 4 2 (negsuc 5) ∷ []) []
  pub early_later : Tallied (plan_with 1 4 4 (Join 0 1 1 4 4 ∷ [])) 9 (lag 1 1 4 4 (negsuc 6) ∷ []) []
  -- the clock is stopped in [2, 5)
  pub delay : Tallied (plan_with 1 2 2 (Join 0 1 1 2 0 ∷ Delay 2 1 3 ∷ [])) 6 (lag 1 1 2 2 (negsuc 0) ∷ []) []
  -- its stop, [4, 7), begins after the delay
  pub early_delay : Tallied (plan_with 1 4 4 (Join 0 1 1 4 4 ∷ Delay 1 1 3 ∷ [])) 8 (lag 1 1 4 3 (negsuc 6) ∷ []) []
  -- its stop, [4, 14), lies after the slots that are counted, or in part
  pub stop_after : Tallied (plan_with 1 4 4 (Join 0 1 1 4 4 ∷ Delay 1 1 10 ∷ [])) 3 (lag 1 1 4 1 (negsuc 0) ∷ []) []
  pub stop_in_part : Tallied (plan_with 1 4 4 (Join 0 1 1 4 4 ∷ Delay 1 1 10 ∷ [])) 6 (lag 1 1 4 1 (pos 0) ∷ []) []
  -- a denied delay stops no clock
  pub denied_delay : Tallied (plan_with 1 2 4 (Join 0 1 1 1 0 ∷ Join 0 2 1 2 0 ∷ Delay 1 2 1 ∷ [])) 2
      (lag 1 1 1 2 (pos 0) ∷ lag 2 1 2 0 (pos 2) ∷ []) (miss 2 1 2 None ∷ [])
  -- the leave is denied, and then in time
  pub leave_denied : Tallied (plan_with 1 11 11 (Join 0 1 8 11 0 ∷ Delay 1 1 10 ∷ Leave 4 1 ∷ [])) 6 (lag 1 8 11 1 (negsuc 2) ∷ []) []
  pub leave_in_time : Tallied (plan_with 1 11 11 (Join 0 1 8 11 0 ∷ Delay 1 1 10 ∷ Leave 5 1 ∷ [])) 6 [] []
  -- a task that never ran leaves: its windows up to and including the leave's slot were missed
  pub never_ran : Tallied (plan_with 1 1 2 (two_joins ++ Leave 1 2 ∷ [])) 3 (lag 1 1 1 3 (pos 0) ∷ []) (miss 2 1 1 None ∷ [])
  -- a processor goes out of use
  pub one_left : Tallied (plan_with 2 3 6 (three_joins ++ Limit 1 1 ∷ [])) 3
      (lag 1 2 3 2 (pos 0) ∷ lag 2 2 3 1 (pos 3) ∷ lag 3 2 3 1 (pos 3) ∷ []) (miss 2 2 3 None ∷ miss 3 2 3 None ∷ [])
