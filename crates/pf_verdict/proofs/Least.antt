-- The least that is left for a task, a stretch further.
use Rattle.std.proofs.Common.{◌≡◌, ◌∙◌, ℕ, zero, suc, ◌+◌, ◌-◌, ◌<◌, ◌≤◌, ◌&&◌, true, false, nat_le, nat_lt, if◌then◌else◌, min, max, List, All, length, drop, get_or, refl, sym, ap, ap₂, subst, arith, ⊎_elim}
use Rattle.std.proofs.lemmas.Bool.{cases_lt, le-leb, lt-ltb, lt-leb, le-ltb, and_right}
use Rattle.pf_scenario.specs.Scenario.{Plan}
use Rattle.pf_run.specs.Record.{Slot}
use Rattle.pf_run.specs.Inside.{Joined}
use Rattle.pf_verdict.specs.declared.stretch.Stretch.{Stretch}
use Rattle.pf_verdict.specs.Grow.{is_of_stay, left_in, least_left}
use Rattle.pf_verdict.specs.Stretches.{Cover, IsEven}
use Rattle.pf_verdict.proofs.Strained.{last, next, Goes as Goes'}

min_again : (a b : ℕ) → min (min a b) b ≡ min a b
min_again a b = omega arith

pub stays : (j : Joined) (last t : ℕ) → j.slot ≤ t → t < last → is_of_stay j last t ≡ true
stays j last t from upto = ap₂ (λ a b. a && b) (le-leb j.slot t from) (lt-ltb t last upto)

left_out : (j : Joined) (last u t : ℕ) → u ≤ t → min (suc t) last ≤ max u j.slot → is_of_stay j last t ≡ false
left_out j last u t lower out = ⊎_elim
    (λ (more : t < last). ap (λ a. a && nat_lt t last) (lt-leb j.slot t (omega (arith, more, out, lower))))
    (λ (over : last ≤ t). and_right (nat_le j.slot t) (nat_lt t last) (le-ltb t last over))
    (cases_lt t last)

over_end : (j : Joined) (last t : ℕ) → last ≤ t → is_of_stay j last t ≡ false
over_end j last t over = and_right (nat_le j.slot t) (nat_lt t last) (le-ltb t last over)

module _ (s : Plan) (r : List Slot) (j : Joined) (last u left : ℕ) where
  abbrev least : ℕ → ℕ
  least t = least_left s r j last t

  pub one_more : (t : ℕ) → least (suc t) ≡ (if is_of_stay j last t then min (least t) (left_in s r j t) else least t)
  unfolding least_left
  one_more t = refl

  abbrev IsEvenTo : ℕ → Type 0
  IsEvenTo v = (t : ℕ) → u ≤ t → t < v → left_in s r j t ≡ left

  -- where some of these slots are of the stay, and where none is
  pub record Goes (v : ℕ) : Type 0 where
    pub meets : max u j.slot < min v last → least v ≡ min (least u) left
    pub misses : min v last ≤ max u j.slot → least v ≡ least u

  none_yet : Goes (zero + u)
  none_yet = record {
    meets = λ lt. absurd (omega (arith, lt));
    misses = λ le. ap least (let z : zero + u ≡ u = omega arith in z);
  }

  in_stay : (t : ℕ) → left_in s r j t ≡ left → j.slot ≤ t → t < last → Goes t → u ≤ t → least (suc t) ≡ min (least u) left
  in_stay t now from upto so_far lower =
      one_more t ∙ ap (λ b. if b then min (least t) (left_in s r j t) else least t) (stays j last t from upto)
      ∙ ap (min (least t)) now
      ∙ ⊎_elim
      (λ (lt : max u j.slot < min t last). ap (λ x. min x left) (so_far.meets lt) ∙ min_again (least u) left)
      (λ (le : min t last ≤ max u j.slot). ap (λ x. min x left) (so_far.misses le))
      (cases_lt (max u j.slot) (min t last))

  goes_on : (t : ℕ) → left_in s r j t ≡ left → u ≤ t → Goes t → Goes (suc t)
  goes_on t now lower so_far = record {
    meets = λ lt. ⊎_elim
        (λ (upto : t < last). in_stay t now (omega (arith, lt)) upto so_far lower)
        (λ (over : last ≤ t).
        one_more t ∙ ap (λ b. if b then min (least t) (left_in s r j t) else least t) (over_end j last t over)
        ∙ so_far.meets (omega (arith, lt, over)))
        (cases_lt t last);
    misses = λ le.
        one_more t ∙ ap (λ b. if b then min (least t) (left_in s r j t) else least t) (left_out j last u t lower le)
        ∙ so_far.misses (omega (arith, le));
  }

  pub goes : (k : ℕ) → IsEvenTo (k + u) → Goes (k + u)
  goes zero even = none_yet
  goes (suc k) even =
      let z : suc (k + u) ≡ suc k + u = omega arith in
      subst Goes z
      (goes_on (k + u) (even (k + u) (omega arith) (omega arith)) (omega arith)
      (goes k (λ t lower upper. even t lower (omega (arith, upper)))))

-- Use: a stretch further.
module _ (s : Plan) (r : List Slot) (j : Joined) (last : ℕ) (x : Stretch) (some : x.from < x.to) (even : IsEven s r x) where
  left : ℕ
  left = min x.room s.settings.cap + j.weight.units - x.load

  goes_over : Goes s r j last x.from left x.to
  unfolding left
  goes_over =
      let z : (x.to - x.from) + x.from ≡ x.to = omega (arith, some) in
      subst (Goes s r j last x.from left) z
      (goes s r j last x.from left (x.to - x.from)
      (λ t lower upper.
      let now = even t lower (omega (arith, upper, z)) in
      ap₂ (λ l m. min m s.settings.cap + j.weight.units - l) now.0 now.1))

  pub least_met : max x.from j.slot < min x.to last →
      least_left s r j last x.to ≡ min (least_left s r j last x.from) (min x.room s.settings.cap + j.weight.units - x.load)
  unfolding left
  least_met lt = let g = goes_over in g.meets lt

  pub least_missed : min x.to last ≤ max x.from j.slot → least_left s r j last x.to ≡ least_left s r j last x.from
  least_missed le = let g = goes_over in g.misses le

-- Use: the walk over stretches, one further.
module _ (s : Plan) (r : List Slot) (n : ℕ) (j : Joined) (last_slot k : ℕ) (xs : List Stretch) (d : Stretch) (low : ℕ) (lt : k < length xs)
    (even : All (IsEven s r) xs) (so_far : (u : ℕ) × (Cover u n (drop k xs) × (low ≡ least_left s r j last_slot u))) where
  abbrev x : Stretch
  x = get_or xs k d

  next_is : Goes' so_far.0 n x (drop (k + 1) xs)
  next_is = next so_far.0 n k xs d lt so_far.1.0

  before : low ≡ least_left s r j last_slot x.from
  before = let g = next_is in so_far.1.1 ∙ ap (least_left s r j last_slot) (sym g.from)

  pub met : (from to clip left new : ℕ) → from ≡ max x.from j.slot → to ≡ min x.to last_slot → from < to → clip ≡ min x.room s.settings.cap →
      left ≡ clip + j.weight.units - x.load → new ≡ min low left →
      (v : ℕ) × (Cover v n (drop (k + 1) xs) × (new ≡ least_left s r j last_slot v))
  met from to clip left new from_is to_is less clip_is left_is new_is =
      let g = next_is in (
        x.to,
        (
          g.rest,
          new_is ∙ ap₂ min before (left_is ∙ ap (λ c. c + j.weight.units - x.load) clip_is)
              ∙ sym (least_met s r j last_slot x g.some (even k d lt) (omega (arith, from_is, to_is, less))),
        ),
      )

  pub missed : (from to new : ℕ) → from ≡ max x.from j.slot → to ≡ min x.to last_slot → to ≤ from → new ≡ low →
      (v : ℕ) × (Cover v n (drop (k + 1) xs) × (new ≡ least_left s r j last_slot v))
  missed from to new from_is to_is le new_is =
      let g = next_is in
      (x.to, (g.rest, new_is ∙ before ∙ sym (least_missed s r j last_slot x g.some (even k d lt) (omega (arith, from_is, to_is, le)))))

pub ended : (s : Plan) (r : List Slot) (n : ℕ) (j : Joined) (last_slot k : ℕ) (xs : List Stretch) (low : ℕ) → length xs ≤ k →
    (so_far : (u : ℕ) × (Cover u n (drop k xs) × (low ≡ least_left s r j last_slot u))) → low ≡ least_left s r j last_slot n
ended s r n j last_slot k xs low all so_far =
    so_far.1.1 ∙ ap (least_left s r j last_slot) (last so_far.0 n k xs all so_far.1.0)

pub begun : (s : Plan) (r : List Slot) (j : Joined) (last_slot most : ℕ) → s.settings.base ≡ most → most ≡ least_left s r j last_slot 0
unfolding least_left
begun s r j last_slot most is = sym is
