-- The load over a base, task by task, and the best of some bases.
use Rattle.std.proofs.Common.{◌≡◌, ℕ, ◌+◌, ◌*◌, ◌/◌, ◌<◌, ◌≤◌, ◌⊎◌, inl, inr, List, [], ◌∷◌, ◌++◌, map, take, length, get_or, Option, None, Some, MatchOption, refl, sym, ◌∙◌, ap, subst, arith}
use Rattle.std.specs.Prelude.{All, Contains}
use Rattle.std.proofs.Math.Nat.{mul-le-mul, le_of_mul-le-mul_right, lt_of_mul-lt-mul_right}
use Rattle.std.proofs.lemmas.List.{take_all, map_more}
use Rattle.std.proofs.lemmas.List.Elements.{All-more, All-weaker, All-get_or, All-take, All-contains, All-map, Contains-append_left, Contains-push}
use Rattle.std.proofs.lemmas.List.Sums.{sum_by_more}
use Rattle.pf_weight.specs.declared.base.TheConstants.{LARGEST_BASE}
use Rattle.pf_convert.specs.declared.divided.Divided.{Divided}
use Rattle.pf_convert.specs.declared.loaded.Loaded.{Loaded}
use Rattle.pf_convert.specs.declared.slotted.Slotted.{Slotted}
use Rattle.pf_convert.specs.Smooth.{IsSevenSmooth, IsDivided, AreSmoothBases}
use Rattle.pf_convert.specs.Rounding.{rounded, Holds, load_over, IsNoWorse, IsBestBase, HasNoBase}

-- what one task asks for
abbrev pub units_over : ℕ → Slotted → ℕ
units_over base t = t.cost * (base / rounded base t.period)

-- the load of the first tasks, each of which the base holds
pub record IsLoadSoFar (base : ℕ) (tasks : List Slotted) (i l : ℕ) : Type 0 where
  pub holds : Holds base (take i tasks)
  pub load : l ≡ load_over base (take i tasks)
  pub small : l ≤ i * LARGEST_BASE

-- a task that a base holds asks for no more than the base
pub few_units : (base cost period : ℕ) → base ≤ LARGEST_BASE → cost ≤ period → cost * (base / period) ≤ LARGEST_BASE
few_units base cost period within fits =
    let most : cost * (base / period) ≤ period * (base / period) = mul-le-mul {n₁ = cost} {m₁ = base / period} {n₂ = period} {m₂ = base / period} fits (omega arith) in
    omega (arith, most)

pub task_loaded : (base : ℕ) (tasks : List Slotted) (i l period : ℕ) (d : Slotted) → i < length tasks → base ≤ LARGEST_BASE
    → IsLoadSoFar base tasks i l → period ≡ rounded base (get_or tasks i d).period → (get_or tasks i d).cost ≤ period
    → IsLoadSoFar base tasks (i + 1) (l + (get_or tasks i d).cost * (base / period))
task_loaded base tasks i l period d lt within h is fits =
    let t = get_or tasks i d in
    let units : t.cost * (base / period) ≡ units_over base t = ap (λ p. t.cost * (base / p)) is in
    record {
      holds = All-more (λ t. t.cost ≤ rounded base t.period) tasks i d lt h.holds (subst (λ p. t.cost ≤ p) is fits);
      load =
          ap (λ v. v + t.cost * (base / period)) h.load ∙ ap (λ v. load_over base (take i tasks) + v) units
          ∙ sym (sum_by_more (units_over base) tasks i d lt);
      small = omega (arith, h.small, few_units base t.cost period within fits);
    }

-- the order of loads as parts of their bases
pub same_is_no_worse : (a : Loaded) → IsNoWorse a a
same_is_no_worse a = inr (refl, omega arith)

pub le_over : (a b : Loaded) → IsNoWorse a b → a.load * b.base ≤ b.load * a.base
le_over a b h = elim h [ inl lt ↦ omega (arith, lt) | inr both ↦ omega (arith, both.0) ]

-- products of three, in turn
crossed_le : (a b c p q r : ℕ) → 1 ≤ q → a * q ≤ b * p → b * r ≤ c * q → a * r ≤ c * p
crossed_le a b c p q r some x y =
    let left : a * q * r ≤ b * p * r = mul-le-mul {n₁ = a * q} {m₁ = r} {n₂ = b * p} {m₂ = r} x (omega arith) in
    let right : b * r * p ≤ c * q * p = mul-le-mul {n₁ = b * r} {m₁ = p} {n₂ = c * q} {m₂ = p} y (omega arith) in
    let all : a * r * q ≤ c * p * q = omega (arith, left, right) in
    le_of_mul-le-mul_right {m = a * r} {n = c * p} {k = q} all (omega (arith, some))

strictly : (x y k : ℕ) → 1 ≤ k → x < y → x * k < y * k
strictly x y k some lt =
    let more : (x + 1) * k ≤ y * k = mul-le-mul {n₁ = x + 1} {m₁ = k} {n₂ = y} {m₂ = k} (omega arith) (omega arith) in
    omega (arith, more, some)

crossed_lt_first : (a b c p q r : ℕ) → 1 ≤ r → a * q < b * p → b * r ≤ c * q → a * r < c * p
crossed_lt_first a b c p q r some x y =
    let left : a * q * r < b * p * r = strictly (a * q) (b * p) r some x in
    let right : b * r * p ≤ c * q * p = mul-le-mul {n₁ = b * r} {m₁ = p} {n₂ = c * q} {m₂ = p} y (omega arith) in
    let all : a * r * q < c * p * q = omega (arith, left, right) in
    lt_of_mul-lt-mul_right q {m = a * r} {n = c * p} all

crossed_lt_second : (a b c p q r : ℕ) → 1 ≤ p → a * q ≤ b * p → b * r < c * q → a * r < c * p
crossed_lt_second a b c p q r some x y =
    let left : a * q * r ≤ b * p * r = mul-le-mul {n₁ = a * q} {m₁ = r} {n₂ = b * p} {m₂ = r} x (omega arith) in
    let right : b * r * p < c * q * p = strictly (b * r) (c * q) p some y in
    let all : a * r * q < c * p * q = omega (arith, left, right) in
    lt_of_mul-lt-mul_right q {m = a * r} {n = c * p} all

pub no_worse_on : (a b c : Loaded) → 1 ≤ a.base → 1 ≤ b.base → 1 ≤ c.base → IsNoWorse a b → IsNoWorse b c → IsNoWorse a c
no_worse_on a b c pa pb pc x y =
    elim x [
      | inl lt ↦ inl (crossed_lt_first a.load b.load c.load a.base b.base c.base pc lt (le_over b c y))
      | inr both ↦
          elim y [
            | inl lt ↦ inl (crossed_lt_second a.load b.load c.load a.base b.base c.base pa (omega (arith, both.0)) lt)
            | inr also ↦
                inr (
                  (let up = crossed_le a.load b.load c.load a.base b.base c.base pb (omega (arith, both.0)) (omega (arith, also.0)) in
                      let down = crossed_le c.load b.load a.load c.base b.base a.base pb (omega (arith, also.0)) (omega (arith, both.0)) in
                      omega (arith, up, down)),
                  omega (arith, both.1, also.1),
                )
          ]
    ]

-- what follows from two facts of each of the first elements
both_ways : {X : Type 0} (P Q R : X → Type 0) → ((x : X) → P x → Q x → R x) → (xs : List X) (i : ℕ) → All P xs → All Q (take i xs) → All R (take i xs)
both_ways P Q R f xs i p q = λ k d lt. f (get_or (take i xs) k d) (All-take P i xs p k d lt) (q k d lt)

-- a base with the load of the tasks over it
abbrev pub loaded_at : List Slotted → ℕ → Loaded
loaded_at tasks n = record { base = n; load = load_over n tasks }

-- of these bases it is the best that holds the tasks
pub record IsBestOf (tasks : List Slotted) (bases : List Divided) (best : Loaded) : Type 0 where
  pub some : 1 ≤ best.base
  pub among : Contains (map (λ (d : Divided). d.base) bases) best.base
  pub holds : Holds best.base tasks
  pub load : best.load ≡ load_over best.base tasks
  pub least : All (λ d. Holds d.base tasks → IsNoWorse best (loaded_at tasks d.base)) bases

-- the best of these bases, or that none holds the tasks
abbrev pub IsBestSoFar : List Slotted → List Divided → Option Loaded → Type 0
IsBestSoFar tasks bases best = MatchOption best (All (λ d. Holds d.base tasks → ⊥) bases) (IsBestOf tasks bases)

bases_more : (bases : List Divided) (i : ℕ) (d : Divided) → i < length bases
    → map (λ (d : Divided). d.base) (take (i + 1) bases) ≡ map (λ (d : Divided). d.base) (take i bases) ++ (get_or bases i d).base ∷ []
bases_more bases i d lt = map_more (λ (d : Divided). d.base) bases i d lt

among_more : (bases : List Divided) (i n : ℕ) (d : Divided) → i < length bases → Contains (map (λ (d : Divided). d.base) (take i bases)) n
    → Contains (map (λ (d : Divided). d.base) (take (i + 1) bases)) n
among_more bases i n d lt h =
    subst (λ ns. Contains ns n) (sym (bases_more bases i d lt))
    (Contains-append_left (map (λ (d : Divided). d.base) (take i bases)) ((get_or bases i d).base ∷ []) n h)

among_last : (bases : List Divided) (i : ℕ) (d : Divided) → i < length bases → Contains (map (λ (d : Divided). d.base) (take (i + 1) bases)) (get_or bases i d).base
among_last bases i d lt =
    subst (λ ns. Contains ns (get_or bases i d).base) (sym (bases_more bases i d lt))
    (Contains-push (map (λ (d : Divided). d.base) (take i bases)) (get_or bases i d).base)

-- a base that does not hold the tasks changes nothing
pub base_passed : (tasks : List Slotted) (bases : List Divided) (i : ℕ) (d : Divided) (best : Option Loaded) → i < length bases
    → (Holds (get_or bases i d).base tasks → ⊥) → IsBestSoFar tasks (take i bases) best → IsBestSoFar tasks (take (i + 1) bases) best
base_passed tasks bases i d None lt never h = All-more (λ d. Holds d.base tasks → ⊥) bases i d lt h never
base_passed tasks bases i d (Some b) lt never h = record {
  some = h.some;
  among = among_more bases i b.base d lt h.among;
  holds = h.holds;
  load = h.load;
  least = All-more (λ d. Holds d.base tasks → IsNoWorse b (loaded_at tasks d.base)) bases i d lt h.least (λ yes. absurd (never yes));
}

-- what `better` answers
abbrev pub IsBetter : Option Loaded → Loaded → Loaded → Type 0
IsBetter best next r = MatchOption best (r ≡ next) (λ b. (IsNoWorse b next × (r ≡ b)) ⊎ (IsNoWorse next b × (r ≡ next)))

alone : (tasks : List Slotted) (bases : List Divided) (i : ℕ) (d : Divided) → i < length bases → 1 ≤ (get_or bases i d).base → Holds (get_or bases i d).base tasks
    → All (λ d. Holds d.base tasks → ⊥) (take i bases) → IsBestOf tasks (take (i + 1) bases) (loaded_at tasks (get_or bases i d).base)
alone tasks bases i d lt some holds none = record {
  some = some;
  among = among_last bases i d lt;
  holds = holds;
  load = refl;
  least =
      All-more (λ e. Holds e.base tasks → IsNoWorse (loaded_at tasks (get_or bases i d).base) (loaded_at tasks e.base)) bases i d lt
      (All-weaker (λ e. Holds e.base tasks → ⊥) (λ e. Holds e.base tasks → IsNoWorse (loaded_at tasks (get_or bases i d).base) (loaded_at tasks e.base))
      (λ e never yes. absurd (never yes)) (take i bases) none)
      (λ yes. same_is_no_worse (loaded_at tasks (get_or bases i d).base));
}

stays : (tasks : List Slotted) (bases : List Divided) (i : ℕ) (d : Divided) (b : Loaded) → i < length bases → IsBestOf tasks (take i bases) b
    → IsNoWorse b (loaded_at tasks (get_or bases i d).base) → IsBestOf tasks (take (i + 1) bases) b
stays tasks bases i d b lt h no_worse = record {
  some = h.some;
  among = among_more bases i b.base d lt h.among;
  holds = h.holds;
  load = h.load;
  least = All-more (λ e. Holds e.base tasks → IsNoWorse b (loaded_at tasks e.base)) bases i d lt h.least (λ yes. no_worse);
}

gives_way : (tasks : List Slotted) (bases : List Divided) (i : ℕ) (d : Divided) (b : Loaded) → i < length bases → All (λ e. 1 ≤ e.base) bases
    → 1 ≤ (get_or bases i d).base → Holds (get_or bases i d).base tasks → IsBestOf tasks (take i bases) b
    → IsNoWorse (loaded_at tasks (get_or bases i d).base) b → IsBestOf tasks (take (i + 1) bases) (loaded_at tasks (get_or bases i d).base)
gives_way tasks bases i d b lt all some holds h no_worse =
    let next = loaded_at tasks (get_or bases i d).base in
    record {
      some = some;
      among = among_last bases i d lt;
      holds = holds;
      load = refl;
      least =
          All-more (λ e. Holds e.base tasks → IsNoWorse next (loaded_at tasks e.base)) bases i d lt
          (both_ways (λ e. 1 ≤ e.base) (λ e. Holds e.base tasks → IsNoWorse b (loaded_at tasks e.base))
          (λ e. Holds e.base tasks → IsNoWorse next (loaded_at tasks e.base))
          (λ e pos f yes. no_worse_on next b (loaded_at tasks e.base) some h.some pos no_worse (f yes))
          bases i all h.least)
          (λ yes. same_is_no_worse next);
    }

pub base_taken : (tasks : List Slotted) (bases : List Divided) (i : ℕ) (d : Divided) (best : Option Loaded) (r : Loaded) → i < length bases
    → All (λ e. 1 ≤ e.base) bases → Holds (get_or bases i d).base tasks → IsBetter best (loaded_at tasks (get_or bases i d).base) r
    → IsBestSoFar tasks (take i bases) best → IsBestOf tasks (take (i + 1) bases) r
base_taken tasks bases i d None r lt all holds better h =
    let some : 1 ≤ (get_or bases i d).base = All-get_or (λ e. 1 ≤ e.base) bases i d lt all in
    subst (IsBestOf tasks (take (i + 1) bases)) (sym better) (alone tasks bases i d lt some holds h)
base_taken tasks bases i d (Some b) r lt all holds better h =
    let some : 1 ≤ (get_or bases i d).base = All-get_or (λ e. 1 ≤ e.base) bases i d lt all in
    elim better [
      | inl kept ↦ subst (IsBestOf tasks (take (i + 1) bases)) (sym kept.1) (stays tasks bases i d b lt h kept.0)
      | inr next ↦ subst (IsBestOf tasks (take (i + 1) bases)) (sym next.1) (gives_way tasks bases i d b lt all some holds h next.0)
    ]

pub bases_some : (bases : List Divided) → AreSmoothBases bases → All (λ e. 1 ≤ e.base) bases
bases_some bases h = All-weaker IsDivided (λ e. 1 ≤ e.base) (λ e is. is.some) bases h.divided

-- where a base stands among some, what holds of each of them by its number holds of it
at_number : (P : ℕ → Type 0) (bases : List Divided) (n : ℕ) → All (λ d. P d.base) bases → Contains (map (λ (d : Divided). d.base) bases) n → P n
at_number P bases n all among = All-contains P (map (λ (d : Divided). d.base) bases) n (All-map P (λ (d : Divided). d.base) bases all) among

pub best_of_all : (tasks : List Slotted) (bases : List Divided) (i : ℕ) (best : Option Loaded) → length bases ≤ i → AreSmoothBases bases
    → IsBestSoFar tasks (take i bases) best → MatchOption best (HasNoBase tasks) (IsBestBase tasks)
best_of_all tasks bases i None le are h = λ n within smooth holds.
    at_number (λ m. Holds m tasks → ⊥) bases n (subst (λ bs. All (λ d. Holds d.base tasks → ⊥) bs) (take_all i bases le) h)
    (are.smooth.complete n within smooth) holds
best_of_all tasks bases i (Some b) le are h' =
    let h : IsBestOf tasks bases b = subst (λ bs. IsBestOf tasks bs b) (take_all i bases le) h' in
    record {
      smooth = All-contains IsSevenSmooth (map (λ (d : Divided). d.base) bases) b.base are.smooth.sound h.among;
      within = All-contains (λ n. n ≤ LARGEST_BASE) (map (λ (d : Divided). d.base) bases) b.base are.smooth.within h.among;
      holds = h.holds;
      load = h.load;
      least = λ n within smooth holds.
          at_number (λ m. Holds m tasks → IsNoWorse b (loaded_at tasks m)) bases n h.least (are.smooth.complete n within smooth) holds;
    }

-- the same of the element that a loop reads
pub item_passed : (tasks : List Slotted) (bases : List Divided) (i : ℕ) (e : Divided) (best : Option Loaded) → i < length bases → e ≡ get_or bases i e
    → (Holds e.base tasks → ⊥) → IsBestSoFar tasks (take i bases) best → IsBestSoFar tasks (take (i + 1) bases) best
item_passed tasks bases i e best lt is never h = base_passed tasks bases i e best lt (subst (λ x. Holds x.base tasks → ⊥) is never) h

pub item_taken : (tasks : List Slotted) (bases : List Divided) (i : ℕ) (e : Divided) (best : Option Loaded) (l : ℕ) (r : Loaded) → i < length bases → e ≡ get_or bases i e
    → AreSmoothBases bases → Holds e.base tasks × (l ≡ load_over e.base tasks) → IsBetter best (record { base = e.base; load = l }) r
    → IsBestSoFar tasks (take i bases) best → IsBestOf tasks (take (i + 1) bases) r
item_taken tasks bases i e best l r lt is are held better h =
    let at : IsBetter best (loaded_at tasks e.base) r = subst (λ v. IsBetter best (record { base = e.base; load = v }) r) held.1 better in
    base_taken tasks bases i e best r lt (bases_some bases are) (subst (λ x. Holds x.base tasks) is held.0)
    (subst (λ x. IsBetter best (loaded_at tasks x.base) r) is at) h
