-- The stretches between a run's levels are those of its slots.
use Rattle.std.proofs.Common.{◌≡◌, ◌∙◌, ℕ, zero, suc, ◌+◌, ◌-◌, ◌<◌, ◌≤◌, ◌==◌, ◌&&◌, ◌||◌, Bool, true, false, not, cond, List, [], ◌∷◌, ◌++◌, map, filter, refl, sym, ap, ap₂, subst, arith, All, ⊎_elim}
use Rattle.std.specs.List.{range_with_len}
use Rattle.std.proofs.lemmas.Bool.{cases_lt, eqb-true, ne_eqb}
use Rattle.std.proofs.lemmas.List.{append-nil}
use Rattle.std.proofs.lemmas.List.Elements.{All-push}
use Rattle.std.proofs.lemmas.List.FromFn.{filter_of_map_range_with_len_more}
use Rattle.pf_scenario.specs.Scenario.{Plan}
use Rattle.pf_run.specs.Record.{Slot}
use Rattle.pf_tally.specs.Load.{load_in, room_in}
use Rattle.pf_tally.specs.declared.level.Level.{Level}
use Rattle.pf_tally.specs.Levels.{is_as_before, level_in, levels_of}
use Rattle.pf_verdict.specs.declared.stretch.Stretch.{Stretch}
use Rattle.pf_verdict.specs.Stretches.{AreStretches, Cover, IsEven, next_slot, stretches_of}

-- from the level to slot n
abbrev stretch_to : Level → ℕ → Stretch
stretch_to y n = record { from = y.slot; to = n; load = y.load; room = y.room }

next_push : (xs : List Level) (y : Level) (n : ℕ) → next_slot (xs ++ y ∷ []) n ≡ next_slot xs y.slot
next_push [] y n = refl
next_push (x ∷ xs) y n = refl

stretches_push : (xs : List Level) (y : Level) (n : ℕ) → stretches_of (xs ++ y ∷ []) n ≡ stretches_of xs y.slot ++ stretch_to y n ∷ []
stretches_push [] y n = refl
stretches_push (x ∷ xs) y n =
    let z : ℕ → List Stretch → List Stretch = λ t zs. record { from = x.slot; to = t; load = x.load; room = x.room } ∷ zs in
    ap₂ z (next_push xs y n) (stretches_push xs y n)

cover_push : (u v : ℕ) (xs : List Stretch) (x : Stretch) → Cover u v xs → x.from ≡ v → x.from < x.to → Cover u x.to (xs ++ x ∷ [])
cover_push u v [] x cover from some = (from ∙ sym cover, some, refl)
cover_push u v (y ∷ ys) x cover from some = (cover.0, cover.1, cover_push y.to v ys x cover.2 from some)

module _ (s : Plan) (r : List Slot) where
  -- the levels of the slots below n: the last one, and the stretches up to it
  record EndsWith (n : ℕ) (levels : List Level) : Type 0 where
    pub front : List Level
    pub last : Level
    pub are : levels ≡ front ++ last ∷ []
    pub cover : Cover 0 last.slot (stretches_of front last.slot)
    pub even : All (IsEven s r) (stretches_of front last.slot)
    pub below : last.slot < n
    pub level : (t : ℕ) → last.slot ≤ t → t < n → (load_in s r t ≡ last.load) × (room_in s r t ≡ last.room)

  abbrev is_told : Level → Bool
  is_told level = level.slot == 0 || not (is_as_before s r level)

  abbrev is_still : ℕ → Bool
  is_still t = load_in s r (t - 1) == load_in s r t && room_in s r (t - 1) == room_in s r t

  one_more : (t : ℕ) → levels_of s r 0 (t + 1) ≡ levels_of s r 0 t ++ cond (t == 0 || not (is_still t)) (level_in s r t ∷ []) []
  one_more t =
      ap (λ n. filter is_told (map (level_in s r) (range_with_len 0 n))) (let z : t + 1 - 0 ≡ t - 0 + 1 = omega arith in z)
      ∙ filter_of_map_range_with_len_more is_told (level_in s r) 0 (t - 0) t (omega arith)

  even_to : (n : ℕ) (y : Level) → ((t : ℕ) → y.slot ≤ t → t < n → (load_in s r t ≡ y.load) × (room_in s r t ≡ y.room)) → IsEven s r (stretch_to y n)
  even_to n y level = level

  -- the first slot
  begins : EndsWith 1 (levels_of s r 0 1)
  begins = record {
    front = [];
    last = level_in s r 0;
    are = one_more 0;
    cover = refl;
    even = λ k d lt. absurd (omega (arith, lt));
    below = omega arith;
    level = λ t lower upper.
        let z : t ≡ 0 = omega (arith, upper) in
        (ap (load_in s r) z, ap (room_in s r) z);
  }

  -- a slot with the level of the one before
  goes_on : (t : ℕ) → 0 < t → is_still t ≡ true → EndsWith t (levels_of s r 0 t) → EndsWith (t + 1) (levels_of s r 0 (t + 1))
  goes_on t some still so_far =
      let both = split (load_in s r (t - 1) == load_in s r t) (room_in s r (t - 1) == room_in s r t) still in
      let before = so_far.level (t - 1) (omega (arith, so_far.below)) (omega (arith, some)) in
      let load : load_in s r t ≡ so_far.last.load = sym (eqb-true (load_in s r (t - 1)) (load_in s r t) both.0) ∙ before.0 in
      let room : room_in s r t ≡ so_far.last.room = sym (eqb-true (room_in s r (t - 1)) (room_in s r t) both.1) ∙ before.1 in
      record {
        front = so_far.front;
        last = so_far.last;
        are = one_more t
            ∙ ap₂ (λ a b. levels_of s r 0 t ++ cond (a || not b) (level_in s r t ∷ []) []) (ne_eqb t 0 (λ e. omega (arith, e, some))) still
            ∙ append-nil (levels_of s r 0 t) ∙ so_far.are;
        cover = so_far.cover;
        even = so_far.even;
        below = omega (arith, so_far.below);
        level = λ u lower upper. ⊎_elim
            (λ (old : u < t). so_far.level u lower old)
            (λ (ge : t ≤ u).
            let z : u ≡ t = omega (arith, ge, upper) in
            (ap (load_in s r) z ∙ load, ap (room_in s r) z ∙ room))
            (cases_lt u t);
      }
    where
      split : (a b : Bool) → (a && b) ≡ true → (a ≡ true) × (b ≡ true)
      split true true e = (refl, refl)
      split true false e = cc
      split false b e = cc

  -- a slot with a level of its own
  begins_anew : (t : ℕ) → 0 < t → is_still t ≡ false → EndsWith t (levels_of s r 0 t) → EndsWith (t + 1) (levels_of s r 0 (t + 1))
  begins_anew t some other so_far =
      let last = so_far.last in
      let front = so_far.front in
      let are : stretches_of (front ++ last ∷ []) t ≡ stretches_of front last.slot ++ stretch_to last t ∷ [] = stretches_push front last t in
      record {
        front = front ++ last ∷ [];
        last = level_in s r t;
        are = one_more t
            ∙ ap₂ (λ a b. levels_of s r 0 t ++ cond (a || not b) (level_in s r t ∷ []) []) (ne_eqb t 0 (λ e. omega (arith, e, some))) other
            ∙ ap (λ zs. zs ++ level_in s r t ∷ []) so_far.are;
        cover = subst (λ zs. Cover 0 t zs) (sym are) (cover_push 0 last.slot (stretches_of front last.slot) (stretch_to last t) so_far.cover refl so_far.below);
        even = subst (λ zs. All (IsEven s r) zs) (sym are)
            (All-push (IsEven s r) (stretches_of front last.slot) (stretch_to last t) so_far.even (even_to t last so_far.level));
        below = omega arith;
        level = λ u lower upper.
            let z : u ≡ t = omega (arith, lower, upper) in
            (ap (load_in s r) z, ap (room_in s r) z);
      }

  one_further : (t : ℕ) → 0 < t → EndsWith t (levels_of s r 0 t) → EndsWith (t + 1) (levels_of s r 0 (t + 1))
  one_further t some so_far = by (is_still t) refl where
    by : (b : Bool) → is_still t ≡ b → EndsWith (t + 1) (levels_of s r 0 (t + 1))
    by true still = goes_on t some still so_far
    by false other = begins_anew t some other so_far

  ends : (n : ℕ) → EndsWith (n + 1) (levels_of s r 0 (n + 1))
  ends zero = begins
  ends (suc n) =
      subst (λ k. EndsWith k (levels_of s r 0 k)) (let z : n + 1 + 1 ≡ suc n + 1 = omega arith in z)
      (one_further (n + 1) (omega arith) (ends n))

  whole : (n : ℕ) (levels : List Level) → EndsWith n levels → AreStretches s r n (stretches_of levels n)
  whole n levels so_far =
      let last = so_far.last in
      let front = so_far.front in
      let are : stretches_of levels n ≡ stretches_of front last.slot ++ stretch_to last n ∷ [] =
      ap (λ zs. stretches_of zs n) so_far.are ∙ stretches_push front last n in
      record {
        cover = subst (λ zs. Cover 0 n zs) (sym are) (cover_push 0 last.slot (stretches_of front last.slot) (stretch_to last n) so_far.cover refl so_far.below);
        even = subst (λ zs. All (IsEven s r) zs) (sym are)
            (All-push (IsEven s r) (stretches_of front last.slot) (stretch_to last n) so_far.even (even_to n last so_far.level));
      }

  -- Use: the levels of all slots.
  pub stretched : (n : ℕ) → AreStretches s r n (stretches_of (levels_of s r 0 n) n)
  stretched n = ⊎_elim
      (λ (some : 0 < n).
      let z : n - 1 + 1 ≡ n = omega (arith, some) in
      subst (λ k. AreStretches s r k (stretches_of (levels_of s r 0 k) k)) z (whole (n - 1 + 1) (levels_of s r 0 (n - 1 + 1)) (ends (n - 1))))
      (λ (none : n ≤ 0).
      let z : 0 ≡ n = omega (arith, none) in
      subst (λ k. AreStretches s r k (stretches_of (levels_of s r 0 k) k)) z (record { cover = refl; even = λ k d lt. absurd (omega (arith, lt)) }))
      (cases_lt 0 n)
