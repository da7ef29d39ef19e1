-- A search for a task's pick may begin at the start of its bucket.
use Rattle.std.proofs.Common.{◌≡◌, ◌≢◌, ℕ, ◌+◌, ◌<◌, ◌≤◌, ◌%◌, Bool, false, inl, inr, Option, Some, None, List, length, get_or, replicate, ap, sym, refl, subst, ◌∙◌, eqb, arith}
use Rattle.std.specs.List.{All, position_or_len, slice_get}
use Rattle.std.specs.Option.{option_and_then}
use Rattle.std.proofs.Math.Nat.{mod-lt}
use Rattle.std.proofs.lemmas.Bool.{cases_lt}
use Rattle.std.proofs.lemmas.Bool.Decides.{nat_tests}
use Rattle.std.proofs.lemmas.List.{get_or-replicate, length-replicate}
use Rattle.std.proofs.lemmas.List.Folds.{find_at}
use Rattle.std.proofs.lemmas.Option.{slice_get_past}
use Rattle.pf_order.specs.declared.pick.Pick.{Pick}
use Rattle.pf_place.specs.Index.{AreStarts, number_of}
use Rattle.pf_place.specs.Occupancy.{pick_of, next_pick}
use Rattle.pf_place.proofs.Positions.{position_there, position_nowhere, rest, found_behind, missing_behind}

-- where all starts are after the filed picks, none of these stands before its start yet
pub starts_at_end : (v : ℕ) (picks : List Pick) → v ≤ length picks
    → (length (replicate 512 v) ≡ 512)
    × (All (λ start. start ≤ length picks) (replicate 512 v))
    × ((k : ℕ) (d : Pick) → v ≤ k → k < length picks → get_or (replicate 512 v) ((get_or picks k d).task % 512) 0 ≤ k)
starts_at_end v picks within = (
  length-replicate 512 v,
  (λ k d l. omega (arith, get_or-replicate 512 k v d (omega (arith, length-replicate 512 v)))),
  (λ k d from l. omega (arith, get_or-replicate 512 ((get_or picks k d).task % 512) v 0 (mod-lt (get_or picks k d).task (omega arith)))),
)

module _ (starts : List ℕ) (picks : List Pick) (are : AreStarts starts picks) (task : ℕ) where
  abbrev none : Pick
  none = record { task = 0; sub = 0 }

  abbrev start : ℕ
  start = get_or starts (task % 512) 0

  abbrev is_of : Pick → Bool
  is_of p = eqb p.task task

  within : start ≤ length picks
  within = are.within (task % 512) 0 (omega (arith, are.buckets, mod-lt task (let some : 0 < 512 = omega arith in some)))

  -- no pick of the task stands before the start
  apart : (k : ℕ) → k < start → is_of (get_or picks k none) ≡ false
  apart k l =
      let differ : (get_or picks k none).task ≢ task =
      λ same. absurd (omega (arith, l, within, subst (λ t. get_or starts (t % 512) 0 ≤ k) same (are.before k none (omega (arith, l, within))))) in
      grind (arith, nat_tests)

  pub number_found : (k : ℕ) → Some k ≡ number_of (rest is_of picks start) task → Some (start + k) ≡ number_of picks task
  number_found k at =
      let there = found_behind is_of picks start none within apart k at in
      rw (there.0) (position_there is_of picks (omega (arith, there.0, there.1)))

  pub number_missing : None ≡ number_of (rest is_of picks start) task → None ≡ number_of picks task
  number_missing at =
      position_nowhere is_of picks (omega (arith, missing_behind is_of picks start none within apart at))

-- the pick at a task's number is the task's
pub pick_at_number : (picks : List Pick) (task : ℕ) → option_and_then (slice_get picks) (number_of picks task) ≡ pick_of picks task
pick_at_number picks task =
    elim (cases_lt (position_or_len (λ (p : Pick). eqb p.task task) picks) (length picks)) [
      | inl below ↦
          ap (option_and_then (slice_get picks)) (sym (position_there (λ (p : Pick). eqb p.task task) picks below))
          ∙ sym (find_at (λ p. eqb p.task task) picks)
      | inr past ↦
          ap (option_and_then (slice_get picks)) (sym (position_nowhere (λ (p : Pick). eqb p.task task) picks past))
          ∙ sym (slice_get_past picks (position_or_len (λ p. eqb p.task task) picks) past)
          ∙ sym (find_at (λ p. eqb p.task task) picks)
    ]

-- so is who keeps a place found by the numbers
pub next_at_number : (picks : List Pick) (sat : Option Pick)
    → option_and_then (slice_get picks) (option_and_then (λ p. number_of picks p.task) sat) ≡ next_pick picks sat
next_at_number picks None = refl
next_at_number picks (Some p) = pick_at_number picks p.task
