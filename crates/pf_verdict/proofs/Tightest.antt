-- The tightest slot is the first of those with the least free units.
use Rattle.std.proofs.Common.{◌≡◌, ℕ, zero, suc, ◌+◌, ◌<◌, ◌≤◌, Bool, true, false, if◌then◌else◌, Option, None, Some, List, refl, ap, arith, ⊎_elim}
use Rattle.std.proofs.lemmas.Bool.{cases_lt, ltb-true, ltb-false}
use Rattle.pf_scenario.specs.Scenario.{Plan}
use Rattle.pf_run.specs.Record.{Slot}
use Rattle.pf_tally.specs.Load.{load_in, room_in}
use Rattle.pf_tally.specs.declared.level.Level.{Level}
use Rattle.pf_tally.specs.Levels.{level_in}
use Rattle.pf_verdict.specs.Strain.{FirstTightestIsTold, IsTightest, has_fewer_free, IsTightestOrNone, tighter, tightest_of}

module _ (s : Plan) (r : List Slot) (n : ℕ) where
  abbrev here : Level
  here = level_in s r n

  -- the one so far stays, or the next one is it
  kept : (a : Level) → IsTightest s r n a → has_fewer_free a here ≡ false → IsTightest s r (suc n) a
  kept a so_far not_fewer =
      let no_freer = ltb-false (here.room + a.load) (a.room + here.load) not_fewer in
      record {
        below = omega (arith, so_far.below);
        is = so_far.is;
        least = λ t lt. ⊎_elim
            (λ (old : t < n). so_far.least t old)
            (λ (ge : n ≤ t).
            let z : t ≡ n = omega (arith, ge, lt) in
            omega (arith, no_freer, ap (load_in s r) z, ap (room_in s r) z))
            (cases_lt t n);
        first = so_far.first;
      }

  replaced : (a : Level) → IsTightest s r n a → has_fewer_free a here ≡ true → IsTightest s r (suc n) here
  replaced a so_far fewer =
      let freer = ltb-true (here.room + a.load) (a.room + here.load) fewer in
      record {
        below = omega arith;
        is = refl;
        least = λ t lt. ⊎_elim
            (λ (old : t < n). omega (arith, so_far.least t old, freer))
            (λ (ge : n ≤ t).
            let z : t ≡ n = omega (arith, ge, lt) in
            omega (arith, ap (load_in s r) z, ap (room_in s r) z))
            (cases_lt t n);
        first = λ t lt. omega (arith, so_far.least t lt, freer);
      }

  pub one_more : (o : Option Level) → IsTightestOrNone s r n o → IsTightestOrNone s r (suc n) (tighter o here)
  one_more None none = record {
    below = omega arith;
    is = refl;
    least = λ t lt.
        let z : t ≡ n = omega (arith, none, lt) in
        omega (arith, ap (load_in s r) z, ap (room_in s r) z);
    first = λ t lt. absurd (omega (arith, none, lt));
  }
  one_more (Some a) so_far = by (has_fewer_free a here) refl where
    by : (b : Bool) → has_fewer_free a here ≡ b → IsTightest s r (suc n) (if b then here else a)
    by true fewer = replaced a so_far fewer
    by false not_fewer = kept a so_far not_fewer

pub first_tightest_is_told : FirstTightestIsTold
unfolding tightest_of
first_tightest_is_told s r zero = refl
first_tightest_is_told s r (suc n) = one_more s r n (tightest_of s r n) (first_tightest_is_told s r n)
