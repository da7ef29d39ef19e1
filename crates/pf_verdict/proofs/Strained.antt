-- How tight the slots of a run are, a stretch further.
use Rattle.std.proofs.Common.{◌≡◌, ◌∙◌, ℕ, zero, suc, ◌+◌, ◌-◌, ◌<◌, ◌≤◌, Bool, true, false, nat_lt, if◌then◌else◌, Option, None, Some, List, ◌∷◌, length, drop, get_or, refl, sym, ap, ap₂, subst, arith, All}
use Rattle.std.proofs.lemmas.Bool.{ltb-true}
use Rattle.std.proofs.lemmas.List.{at_drop_more, at_drop_all}
use Rattle.pf_scenario.specs.Scenario.{Plan}
use Rattle.pf_run.specs.Record.{Slot}
use Rattle.pf_tally.specs.Load.{load_in, room_in}
use Rattle.pf_tally.specs.declared.level.Level.{Level}
use Rattle.pf_tally.specs.Fit.{or_slot}
use Rattle.pf_verdict.specs.declared.strain.Strain.{Strain}
use Rattle.pf_verdict.specs.declared.stretch.Stretch.{Stretch}
use Rattle.pf_verdict.specs.Strain.{above_of, first_above, has_fewer_free, strain_of, strain_with, tighter, tightest_of}
use Rattle.pf_verdict.specs.Stretches.{Cover, IsEven}

-- the first of these stretches, and those after it
pub record Goes (u n : ℕ) (x : Stretch) (xs : List Stretch) : Type 0 where
  pub from : x.from ≡ u
  pub some : x.from < x.to
  pub rest : Cover x.to n xs

pub next : (u n k : ℕ) (xs : List Stretch) (d : Stretch) → k < length xs → Cover u n (drop k xs) → Goes u n (get_or xs k d) (drop (k + 1) xs)
next u n k xs d lt cover =
    let x = get_or xs k d in
    let all : Cover u n (x ∷ drop (k + 1) xs) = subst (λ zs. Cover u n zs) (at_drop_more (λ zs. zs) xs k d lt) cover in
    record { from = all.0; some = all.1; rest = all.2 }

pub last : (u n k : ℕ) (xs : List Stretch) → length xs ≤ k → Cover u n (drop k xs) → u ≡ n
last u n k xs all cover = subst (λ zs. Cover u n zs) (at_drop_all (λ (zs : List Stretch). zs) xs k all) cover

same_free : (a b : Level) → a.load ≡ b.load → a.room ≡ b.room → has_fewer_free a b ≡ false
same_free a b load room = by (has_fewer_free a b) refl where
  by : (c : Bool) → has_fewer_free a b ≡ c → c ≡ false
  by false e = refl
  by true e = absurd (omega (arith, ltb-true (b.room + a.load) (a.room + b.load) e, load, room))

tighter_again : (o : Option Level) (a b : Level) → a.load ≡ b.load → a.room ≡ b.room → tighter (tighter o a) b ≡ tighter o a
tighter_again None a b load room = ap (λ c. Some (if c then b else a)) (same_free a b load room)
tighter_again (Some c) a b load room = by (has_fewer_free c a) refl where
  alike : has_fewer_free c b ≡ has_fewer_free c a
  alike = ap₂ (λ m l. nat_lt (m + c.load) (c.room + l)) (sym room) (sym load)

  by : (d : Bool) → has_fewer_free c a ≡ d → tighter (Some (if d then a else c)) b ≡ Some (if d then a else c)
  by true e = ap (λ f. Some (if f then b else a)) (same_free a b load room)
  by false e = ap (λ f. Some (if f then b else c)) (alike ∙ e)

or_again : (o : Option ℕ) (u t : ℕ) → or_slot (or_slot o u) t ≡ or_slot o u
or_again None u t = refl
or_again (Some v) u t = refl

module _ (s : Plan) (r : List Slot) (u load room : ℕ) where
  abbrev IsEvenTo : ℕ → Type 0
  IsEvenTo v = (t : ℕ) → u ≤ t → t < v → (load_in s r t ≡ load) × (room_in s r t ≡ room)

  abbrev here : Level
  here = record { slot = u; load = load; room = room }

  tightest_even : (k : ℕ) → IsEvenTo (suc k + u) → tightest_of s r (suc k + u) ≡ tighter (tightest_of s r u) here
  unfolding tightest_of
  tightest_even zero even =
      let now = even u (omega arith) (omega arith) in
      ap (tightest_of s r) (let z : suc zero + u ≡ suc u = omega arith in z)
      ∙ ap₂ (λ l m. tighter (tightest_of s r u) (record { slot = u; load = l; room = m })) now.0 now.1
  tightest_even (suc k) even =
      let t = suc k + u in
      let now = even t (omega arith) (omega arith) in
      let z : suc (suc k) + u ≡ suc (suc k + u) = omega arith in
      ap (tightest_of s r) z
      ∙ ap₂ (λ o l. tighter o l) (tightest_even k (λ v lower upper. even v lower (omega (arith, upper))))
      (ap₂ (λ l m. let y : Level = record { slot = t; load = l; room = m } in y) now.0 now.1)
      ∙ tighter_again (tightest_of s r u) here (record { slot = t; load = load; room = room }) refl refl

  is_above_even : (v t : ℕ) → IsEvenTo v → u ≤ t → t < v → nat_lt (room_in s r t) (load_in s r t) ≡ nat_lt room load
  is_above_even v t even lower upper = let now = even t lower upper in ap₂ (λ m l. nat_lt m l) now.1 now.0

  first_even : (k : ℕ) → IsEvenTo (suc k + u) →
      first_above s r (suc k + u) ≡ (if nat_lt room load then or_slot (first_above s r u) u else first_above s r u)
  unfolding first_above
  first_even zero even =
      ap (first_above s r) (let z : suc zero + u ≡ suc u = omega arith in z)
      ∙ ap (λ b. if b then or_slot (first_above s r u) u else first_above s r u) (is_above_even (suc zero + u) u even (omega arith) (omega arith))
  first_even (suc k) even =
      let t = suc k + u in
      let z : suc (suc k) + u ≡ suc (suc k + u) = omega arith in
      ap (first_above s r) z
      ∙ ap₂ (λ b o. if b then or_slot o t else o) (is_above_even (suc (suc k) + u) t even (omega arith) (omega arith))
      (first_even k (λ v lower upper. even v lower (omega (arith, upper))))
      ∙ by (nat_lt room load)
    where
      by : (b : Bool) → (if b then or_slot (if b then or_slot (first_above s r u) u else first_above s r u) (suc k + u)
          else (if b then or_slot (first_above s r u) u else first_above s r u))
          ≡ (if b then or_slot (first_above s r u) u else first_above s r u)
      by true = or_again (first_above s r u) u (suc k + u)
      by false = refl

  above_even : (k : ℕ) → IsEvenTo (k + u) → above_of s r (k + u) ≡ (if nat_lt room load then above_of s r u + k else above_of s r u)
  unfolding above_of
  above_even zero even =
      ap (above_of s r) (let z : zero + u ≡ u = omega arith in z) ∙ by (nat_lt room load)
    where
      by : (b : Bool) → above_of s r u ≡ (if b then above_of s r u + zero else above_of s r u)
      by true = omega arith
      by false = refl
  above_even (suc k) even =
      let t = k + u in
      let z : suc k + u ≡ suc (k + u) = omega arith in
      ap (above_of s r) z
      ∙ ap₂ (λ b n. n + (if b then 1 else 0)) (is_above_even (suc k + u) t even (omega arith) (omega arith))
      (above_even k (λ v lower upper. even v lower (omega (arith, upper))))
      ∙ by (nat_lt room load)
    where
      by : (b : Bool) → (if b then above_of s r u + k else above_of s r u) + (if b then 1 else 0)
          ≡ (if b then above_of s r u + suc k else above_of s r u)
      by true = omega arith
      by false = omega arith

-- Use: a stretch further.
pub strained : (s : Plan) (r : List Slot) (x : Stretch) → x.from < x.to → IsEven s r x → strain_of s r x.to ≡ strain_with (strain_of s r x.from) x
strained s r x some even =
    let k = x.to - x.from - 1 in
    let z : suc k + x.from ≡ x.to = omega (arith, some) in
    let z' : (x.to - x.from) + x.from ≡ x.to = omega (arith, some) in
    let level = λ (t : ℕ) (lower : x.from ≤ t) (upper : t < suc k + x.from). even t lower (omega (arith, upper, z)) in
    let level' = λ (t : ℕ) (lower : x.from ≤ t) (upper : t < (x.to - x.from) + x.from). even t lower (omega (arith, upper, z')) in
    let tightest = ap (tightest_of s r) (sym z) ∙ tightest_even s r x.from x.load x.room k level in
    let first = ap (first_above s r) (sym z) ∙ first_even s r x.from x.load x.room k level in
    let above = ap (above_of s r) (sym z') ∙ above_even s r x.from x.load x.room (x.to - x.from) level' in
    λ i. let y : Strain = record { tightest = tightest i; first = first i; above = above i } in y

pub none_strained : (s : Plan) (r : List Slot) → record { tightest = None; first = None; above = 0 } ≡ strain_of s r 0
unfolding tightest_of first_above above_of
none_strained s r = refl

-- Use: the walk over stretches, one further.
pub step : (u n k : ℕ) (xs : List Stretch) (d : Stretch) (strain new : Strain) → k < length xs → Cover u n (drop k xs) → strain.above ≤ u →
    ((s : Plan) (r : List Slot) → All (IsEven s r) xs → strain ≡ strain_of s r u) → new ≡ strain_with strain (get_or xs k d) →
    (v : ℕ) × (Cover v n (drop (k + 1) xs) × (new.above ≤ v) × ((s : Plan) (r : List Slot) → All (IsEven s r) xs → new ≡ strain_of s r v))
step u n k xs d strain new lt cover few so_far is =
    let x = get_or xs k d in
    let g = next u n k xs d lt cover in (
      x.to,
      (
        g.rest,
        omega (arith, ap (λ (y : Strain). y.above) is, more (nat_lt x.room x.load) g.from g.some),
        λ s r even.
            is ∙ ap (λ y. strain_with y x) (so_far s r even ∙ ap (strain_of s r) (sym g.from)) ∙ sym (strained s r x g.some (even k d lt)),
      ),
    )
  where
    more : (b : Bool) → (get_or xs k d).from ≡ u → (get_or xs k d).from < (get_or xs k d).to →
        (if b then strain.above + ((get_or xs k d).to - (get_or xs k d).from) else strain.above) ≤ (get_or xs k d).to
    more true from some = omega (arith, few, from, some)
    more false from some = omega (arith, few, from, some)
