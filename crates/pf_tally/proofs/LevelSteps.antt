-- The levels of a range of slots, some slots further.
use Rattle.std.proofs.Common.{◌≡◌, ◌∙◌, ℕ, zero, suc, ◌+◌, ◌-◌, ◌<◌, ◌≤◌, ◌==◌, ◌&&◌, ◌||◌, Bool, true, false, not, nat_le, cond, min, max, Option, Some, List, [], ◌∷◌, ◌++◌, length, map, filter, refl, sym, ap, ap₂, subst, arith, ⊎_elim}
use Rattle.std.specs.List.{range_with_len, slice_get}
use Rattle.std.specs.Option.{option_map_or}
use Rattle.std.proofs.lemmas.Bool.{cases_lt, eq-eqb, eqb-true, ne_eqb, le-leb, lt-leb, and_parts}
use Rattle.std.proofs.lemmas.List.{append-nil, get_or_push, length_push}
use Rattle.std.proofs.lemmas.Option.{slice_get-get_or}
use Rattle.std.proofs.lemmas.List.FromFn.{filter_of_map_range_with_len_more}
use Rattle.pf_scenario.specs.Scenario.{Plan}
use Rattle.pf_run.specs.Record.{Slot}
use Rattle.pf_tally.specs.Load.{load_in, room_in}
use Rattle.pf_tally.specs.declared.level.Level.{Level}
use Rattle.pf_tally.specs.Levels.{has_level, is_as_before, level_in, levels_of, with_level}

-- the last of these levels has this load and room
pub record EndsAt (levels : List Level) (load room : ℕ) : Type 0 where
  pub front : List Level
  pub last : Level
  pub are : levels ≡ front ++ last ∷ []
  pub load_is : last.load ≡ load
  pub room_is : last.room ≡ room

-- the levels of the slots from `from` on and below `upto`; the last one is that of the slot before `upto`
pub record AreLevels (s : Plan) (r : List Slot) (from upto : ℕ) (levels : List Level) : Type 0 where
  pub are : levels ≡ levels_of s r from upto
  pub ends : from < upto → EndsAt levels (load_in s r (upto - 1)) (room_in s r (upto - 1))

last_got : (front : List Level) (x : Level) → slice_get (front ++ x ∷ []) (length (front ++ x ∷ []) - 1) ≡ Some x
last_got front x =
    let levels = front ++ x ∷ [] in
    let long = length_push front x in
    slice_get-get_or levels (length levels - 1) x (omega (arith, long))
    ∙ ap Some (get_or_push front x x (length levels - 1) (omega (arith, long)))

-- after these levels that of a slot, where the last one is another
abbrev pushed : List Level → ℕ → ℕ → ℕ → List Level
pushed levels t load room =
    cond (option_map_or (has_level load room) (slice_get levels (length levels - 1)) false) levels
    (levels ++ record { slot = t; load = load; room = room } ∷ [])

module _ (s : Plan) (r : List Slot) (from : ℕ) where
  abbrev is_told : Level → Bool
  is_told level = level.slot == from || not (is_as_before s r level)

  abbrev is_still : ℕ → Bool
  is_still t = load_in s r (t - 1) == load_in s r t && room_in s r (t - 1) == room_in s r t

  one_more : (t : ℕ) → from ≤ t → levels_of s r from (t + 1) ≡ levels_of s r from t ++ cond (t == from || not (is_still t)) (level_in s r t ∷ []) []
  one_more t behind =
      ap (λ n. filter is_told (map (level_in s r) (range_with_len from n))) (let z : t + 1 - from ≡ t - from + 1 = omega arith in z)
      ∙ filter_of_map_range_with_len_more is_told (level_in s r) from (t - from) t (omega arith)

  here : (t : ℕ) → t + 1 - 1 ≡ t
  here t = omega arith

  -- a slot with the level of the one before
  stays : (t : ℕ) (levels : List Level) → from < t → is_still t ≡ true → AreLevels s r from t levels → AreLevels s r from (t + 1) levels
  stays t levels behind still so_far = record {
    are = so_far.are ∙ sym (append-nil (levels_of s r from t))
        ∙ ap (λ b. levels_of s r from t ++ cond b (level_in s r t ∷ []) []) (sym none)
        ∙ sym (one_more t (omega (arith, behind)));
    ends = λ some. by (so_far.ends behind);
  }
    where
      other : (t == from) ≡ false
      other = ne_eqb t from (λ e. omega (arith, e, behind))

      none : (t == from || not (is_still t)) ≡ false
      none = ap₂ (λ a b. a || not b) other still

      by : EndsAt levels (load_in s r (t - 1)) (room_in s r (t - 1)) → EndsAt levels (load_in s r (t + 1 - 1)) (room_in s r (t + 1 - 1))
      by end =
          let e = and_parts (load_in s r (t - 1) == load_in s r t) (room_in s r (t - 1) == room_in s r t) still in
          record {
            front = end.front;
            last = end.last;
            are = end.are;
            load_is = end.load_is ∙ eqb-true (load_in s r (t - 1)) (load_in s r t) e.0 ∙ ap (load_in s r) (sym (here t));
            room_is = end.room_is ∙ eqb-true (room_in s r (t - 1)) (room_in s r t) e.1 ∙ ap (room_in s r) (sym (here t));
          }

  -- a slot with a level of its own
  goes_on : (t : ℕ) (levels : List Level) → from ≤ t → (t == from || not (is_still t)) ≡ true → AreLevels s r from t levels →
      AreLevels s r from (t + 1) (levels ++ level_in s r t ∷ [])
  goes_on t levels behind told so_far = record {
    are = ap (λ ls. ls ++ level_in s r t ∷ []) so_far.are
        ∙ ap (λ b. levels_of s r from t ++ cond b (level_in s r t ∷ []) []) (sym told)
        ∙ sym (one_more t behind);
    ends = λ some. record {
      front = levels;
      last = level_in s r t;
      are = refl;
      load_is = ap (load_in s r) (sym (here t));
      room_is = ap (room_in s r) (sym (here t));
    };
  }

  -- one slot
  first : (t : ℕ) (levels : List Level) → from ≤ t → AreLevels s r from t levels →
      AreLevels s r from (t + 1) (pushed levels t (load_in s r t) (room_in s r t))
  first t levels behind so_far = ⊎_elim
      (λ (more : from < t). later more (so_far.ends more))
      (λ (le : t ≤ from).
      let same : t ≡ from = omega (arith, le, behind) in
      let none : levels ≡ [] =
      so_far.are ∙ ap (λ n. filter is_told (map (level_in s r) (range_with_len from n))) (let z : t - from ≡ 0 = omega (arith, le) in z) in
      subst (λ ls. AreLevels s r from (t + 1) ls)
      (ap (λ ls. ls ++ level_in s r t ∷ []) none ∙ sym (ap (λ ls. pushed ls t (load_in s r t) (room_in s r t)) none))
      (goes_on t levels behind (ap (λ b. b || not (is_still t)) (eq-eqb t from same)) so_far))
      (cases_lt from t)
    where
      later : from < t → EndsAt levels (load_in s r (t - 1)) (room_in s r (t - 1)) →
          AreLevels s r from (t + 1) (pushed levels t (load_in s r t) (room_in s r t))
      later more end = by (is_still t) refl where
        tested : option_map_or (has_level (load_in s r t) (room_in s r t)) (slice_get levels (length levels - 1)) false ≡ is_still t
        tested =
            ap (λ o. option_map_or (has_level (load_in s r t) (room_in s r t)) o false)
            (ap (λ ls. slice_get ls (length ls - 1)) end.are ∙ last_got end.front end.last)
            ∙ ap₂ (λ l m. l == load_in s r t && m == room_in s r t) end.load_is end.room_is

        is_pushed : (b : Bool) → is_still t ≡ b → pushed levels t (load_in s r t) (room_in s r t) ≡ cond b levels (levels ++ level_in s r t ∷ [])
        is_pushed b e = ap (λ c. cond c levels (levels ++ level_in s r t ∷ [])) (tested ∙ e)

        by : (b : Bool) → is_still t ≡ b → AreLevels s r from (t + 1) (pushed levels t (load_in s r t) (room_in s r t))
        by true e = subst (λ ls. AreLevels s r from (t + 1) ls) (sym (is_pushed true e)) (stays t levels more e so_far)
        by false e =
            subst (λ ls. AreLevels s r from (t + 1) ls) (sym (is_pushed false e))
            (goes_on t levels behind (ap₂ (λ a b. a || not b) (ne_eqb t from (λ z. omega (arith, z, more))) e) so_far)

  -- the slots after it with the same level
  rest : (n t load room : ℕ) (levels : List Level) → from < t → ((u : ℕ) → t - 1 ≤ u → u < t + n → (load_in s r u ≡ load) × (room_in s r u ≡ room)) →
      AreLevels s r from t levels → AreLevels s r from (t + n) levels
  rest zero t load room levels behind same so_far = subst (λ u. AreLevels s r from u levels) (let z : t ≡ t + 0 = omega arith in z) so_far
  rest (suc n) t load room levels behind same so_far =
      let before = same (t - 1) (omega arith) (omega (arith, behind)) in
      let now = same t (omega arith) (omega arith) in
      let still : is_still t ≡ true =
      ap₂ (λ a b. a && b) (eq-eqb (load_in s r (t - 1)) (load_in s r t) (before.0 ∙ sym now.0))
      (eq-eqb (room_in s r (t - 1)) (room_in s r t) (before.1 ∙ sym now.1)) in
      subst (λ u. AreLevels s r from u levels) (let z : t + 1 + n ≡ t + suc n = omega arith in z)
      (rest n (t + 1) load room levels (omega (arith, behind))
      (λ u lower upper. same u (omega (arith, lower)) (omega (arith, upper)))
      (stays t levels behind still so_far))

  pub none_yet : (to : ℕ) (levels : List Level) → levels ≡ [] → AreLevels s r from (min (max from 0) to) levels
  none_yet to levels none = record {
    are = none ∙ sym (ap (λ n. filter is_told (map (level_in s r) (range_with_len from n))) (let z : min (max from 0) to - from ≡ 0 = omega arith in z));
    ends = λ some. absurd (omega (arith, some));
  }

  -- Use: the slots from `passed` on and below `slot`, of those below `to`.
  pub levels_next : (passed slot to load room : ℕ) (levels : List Level) → passed ≤ slot → from ≤ to →
      ((u : ℕ) → passed ≤ u → u < slot → (load_in s r u ≡ load) × (room_in s r u ≡ room)) →
      AreLevels s r from (min (max from passed) to) levels →
      AreLevels s r from (min (max from slot) to) (with_level levels (max from passed) (min to slot) load room)
  levels_next passed slot to load room levels order range same so_far = ⊎_elim some none (cases_lt (max from passed) (min to slot)) where
    a : ℕ
    a = max from passed

    some : a < min to slot → AreLevels s r from (min (max from slot) to) (with_level levels a (min to slot) load room)
    some less =
        let here = same a (omega arith) (omega (arith, less)) in
        let start : AreLevels s r from a levels =
        subst (λ u. AreLevels s r from u levels) (let z : min (max from passed) to ≡ a = omega (arith, less) in z) so_far in
        let is : pushed levels a (load_in s r a) (room_in s r a) ≡ with_level levels a (min to slot) load room =
        ap₂ (pushed levels a) here.0 here.1
        ∙ ap (λ b. cond (b || option_map_or (has_level load room) (slice_get levels (length levels - 1)) false) levels
        (levels ++ record { slot = a; load = load; room = room } ∷ [])) (sym (lt-leb (min to slot) a less)) in
        subst (λ ls. AreLevels s r from (min (max from slot) to) ls) is
        (subst (λ u. AreLevels s r from u (pushed levels a (load_in s r a) (room_in s r a)))
        (let z : a + 1 + (min to slot - (a + 1)) ≡ min (max from slot) to = omega (arith, less, order, range) in z)
        (rest (min to slot - (a + 1)) (a + 1) load room (pushed levels a (load_in s r a) (room_in s r a)) (omega arith)
        (λ u lower upper. same u (omega (arith, lower)) (omega (arith, upper, less)))
        (first a levels (omega arith) start)))

    none : min to slot ≤ a → AreLevels s r from (min (max from slot) to) (with_level levels a (min to slot) load room)
    none le =
        subst (λ ls. AreLevels s r from (min (max from slot) to) ls)
        (sym (ap (λ b. cond (b || option_map_or (has_level load room) (slice_get levels (length levels - 1)) false) levels
        (levels ++ record { slot = a; load = load; room = room } ∷ [])) (le-leb (min to slot) a le)))
        (subst (λ u. AreLevels s r from u levels) (let z : min (max from passed) to ≡ min (max from slot) to = omega (arith, le, order, range) in z) so_far)

  -- the same, as the walk has it
  pub levels_passed : (passed slot to load room a b : ℕ) (levels new : List Level) → passed ≤ slot → from ≤ to →
      ((u : ℕ) → passed ≤ u → u < slot → (load_in s r u ≡ load) × (room_in s r u ≡ room)) →
      AreLevels s r from (min (max from passed) to) levels → a ≡ max from passed → b ≡ min to slot →
      new ≡ with_level levels a b load room → AreLevels s r from (min (max from slot) to) new
  levels_passed passed slot to load room a b levels new order range same so_far a_is b_is is =
      subst (λ ls. AreLevels s r from (min (max from slot) to) ls)
      (sym (is ∙ ap₂ (λ x y. with_level levels x y load room) a_is b_is))
      (levels_next passed slot to load room levels order range same so_far)
