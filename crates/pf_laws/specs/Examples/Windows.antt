-- Worked examples of windows.
use Rattle.std.specs.Prelude.{◌≡◌, ℕ}
use Rattle.pf_weight.specs.Share.{Share, share_of}
use Rattle.pf_window.specs.Window.{release_of, deadline_of, bit_of}
use Rattle.pf_window.specs.Group.{IsGroupOf, group_of}

-- subtask i has the release r, the deadline d, the bit b and the group deadline g: the computed one, and by its rule
pub record HasWindow (w : Share) (i r d b g : ℕ) : Type 0 where
  pub release : release_of w i ≡ r
  pub deadline : deadline_of w i ≡ d
  pub bit : bit_of w i ≡ b
  pub group : group_of w i ≡ g
  pub rule : IsGroupOf w i g

-- the weight of a cost and a period over the base 462
abbrev pub weight : ℕ → ℕ → Share
weight cost period = share_of 462 cost period

-- 2/3: every other window shares a slot with the next one
pub record TwoThirds : Type 0 where
  pub first : HasWindow (weight 2 3) 1 0 2 1 3
  pub second : HasWindow (weight 2 3) 2 1 3 0 3
  pub third : HasWindow (weight 2 3) 3 3 5 1 6
  pub fourth : HasWindow (weight 2 3) 4 4 6 0 6

-- 8/11: a run of short windows ends in the last slot of a window of three, or where a window shares no slot with the next one
pub record EightElevenths : Type 0 where
  pub first : HasWindow (weight 8 11) 1 0 2 1 4
  pub second : HasWindow (weight 8 11) 2 1 3 1 4
  pub third : HasWindow (weight 8 11) 3 2 5 1 8
  pub fourth : HasWindow (weight 8 11) 4 4 6 1 8
  pub fifth : HasWindow (weight 8 11) 5 5 7 1 8
  pub sixth : HasWindow (weight 8 11) 6 6 9 1 11
  pub seventh : HasWindow (weight 8 11) 7 8 10 1 11
  pub eighth : HasWindow (weight 8 11) 8 9 11 0 11

pub record WorkedWindows : Type 0 where
  pub two_thirds : TwoThirds
  pub eight_elevenths : EightElevenths
  -- 1/2: windows of two slots that share none
  pub half : HasWindow (weight 1 2) 1 0 2 0 2
  pub half_next : HasWindow (weight 1 2) 2 2 4 0 4
  -- 1/1: each window is one slot
  pub whole : HasWindow (weight 1 1) 7 6 7 0 7
  -- 3/7 is light: it has no group deadline
  pub light : HasWindow (weight 3 7) 1 0 3 1 0
