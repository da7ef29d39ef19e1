-- Numbers without a prime factor above 7, from the powers of one factor after another.
use Rattle.std.proofs.Common.{◌≡◌, ℕ, ◌+◌, ◌*◌, ◌^◌, ◌<◌, ◌≤◌, inl, inr, List, [], ◌∷◌, ◌++◌, map, take, length, get_or, refl, sym, ◌∙◌, ap, subst, arith, add-one}
use Rattle.std.specs.Prelude.{All, Contains}
use Rattle.std.proofs.Math.Nat.{pow-suc, one-mul, mul_assoc, mul-pos, one-le-pow, le-mul_of_pos_right, mul-le-mul_left, pow-le-pow_right}
use Rattle.std.proofs.lemmas.Bool.{cases_lt}
use Rattle.std.proofs.lemmas.List.{length_push, take_more, map_push}
use Rattle.std.proofs.lemmas.List.Elements.{All-nil, All-cons, All-push, All-append, All-weaker, All-contains, Contains-append_left, Contains-append_right, Contains-push, Contains-push_cases}
use Rattle.pf_weight.specs.declared.base.TheConstants.{LARGEST_BASE}
use Rattle.pf_convert.specs.declared.divided.Divided.{Divided}
use Rattle.pf_convert.specs.Smooth.{IsSevenSmooth, IsPowerOf, ArePowersOf, IsPowered, ArePowered, AreSevenSmooth, IsDivided}

le_through : {a b c : ℕ} → a ≤ b → b ≤ c → a ≤ c
le_through p q = omega (arith, p, q)

-- the powers so far, and the next one
pub record ArePowersSoFar (number factor power : ℕ) (powers : List ℕ) : Type 0 where
  pub some : 1 ≤ power
  pub next : power ≡ number * factor ^ length powers
  pub within : All (λ n. n ≤ LARGEST_BASE) powers
  pub sound : All (IsPowerOf number factor) powers
  pub complete : (k : ℕ) → k < length powers → Contains powers (number * factor ^ k)

pub power_pushed : (number factor power : ℕ) (powers : List ℕ) → 2 ≤ factor → power ≤ LARGEST_BASE → ArePowersSoFar number factor power powers
    → ArePowersSoFar number factor (power * factor) (powers ++ power ∷ [])
power_pushed number factor power powers two within h =
    let long : length (powers ++ power ∷ []) ≡ length powers + 1 = length_push powers power in
    record {
      some = omega (arith, h.some, le-mul_of_pos_right {m = factor} power (omega arith));
      next =
          ap (λ v. v * factor) h.next ∙ mul_assoc number (factor ^ length powers) factor
          ∙ ap (λ v. number * v) (sym (pow-suc factor (length powers)))
          ∙ ap (λ v. number * factor ^ v) (sym (long ∙ add-one (length powers)));
      within = All-push (λ n. n ≤ LARGEST_BASE) powers power h.within within;
      sound = All-push (IsPowerOf number factor) powers power h.sound (record { power = length powers; product = h.next });
      complete = λ k below.
          elim (cases_lt k (length powers)) [
            | inl lt ↦ Contains-append_left powers (power ∷ []) (number * factor ^ k) (h.complete k lt)
            | inr ge ↦
                (let same : length powers ≡ k = omega (arith, long, below, ge) in
                subst (λ v. Contains (powers ++ power ∷ []) v) (h.next ∙ ap (λ v. number * factor ^ v) same) (Contains-push powers power))
          ];
    }

pub all_powers : (number factor power : ℕ) (powers : List ℕ) → 2 ≤ factor → LARGEST_BASE < power → ArePowersSoFar number factor power powers
    → ArePowersOf number factor powers
all_powers number factor power powers two over h = record {
  within = h.within;
  sound = h.sound;
  complete = λ k fits.
      elim (cases_lt k (length powers)) [
        | inl lt ↦ h.complete k lt
        | inr ge ↦
            (let more : number * factor ^ length powers ≤ number * factor ^ k = mul-le-mul_left number (pow-le-pow_right {n = factor} (omega arith) ge) in
            absurd (omega (arith, h.next, more, fits, over)))
      ];
}

among_more : (numbers : List ℕ) (i n : ℕ) → i < length numbers → Contains (take i numbers) n → Contains (take (i + 1) numbers) n
among_more numbers i n lt h =
    subst (λ ns. Contains ns n) (sym (take_more numbers i 0 lt)) (Contains-append_left (take i numbers) (get_or numbers i 0 ∷ []) n h)

among_last : (numbers : List ℕ) (i : ℕ) → i < length numbers → Contains (take (i + 1) numbers) (get_or numbers i 0)
among_last numbers i lt =
    subst (λ ns. Contains ns (get_or numbers i 0)) (sym (take_more numbers i 0 lt)) (Contains-push (take i numbers) (get_or numbers i 0))

pub number_taken : (numbers : List ℕ) (i factor : ℕ) (products powers : List ℕ) → i < length numbers → ArePowered (take i numbers) factor products
    → ArePowersOf (get_or numbers i 0) factor powers → ArePowered (take (i + 1) numbers) factor (products ++ powers)
number_taken numbers i factor products powers lt h one = record {
  within = All-append (λ n. n ≤ LARGEST_BASE) products powers h.within one.within;
  sound =
      All-append (IsPowered (take (i + 1) numbers) factor) products powers
      (All-weaker (IsPowered (take i numbers) factor) (IsPowered (take (i + 1) numbers) factor)
      (λ n p. record { number = p.number; among = among_more numbers i p.number lt p.among; power = p.power; product = p.product }) products h.sound)
      (All-weaker (IsPowerOf (get_or numbers i 0) factor) (IsPowered (take (i + 1) numbers) factor)
      (λ n p. record { number = get_or numbers i 0; among = among_last numbers i lt; power = p.power; product = p.product }) powers one.sound);
  complete = λ number k among fits.
      let pushed : Contains (take i numbers ++ get_or numbers i 0 ∷ []) number = subst (λ ns. Contains ns number) (take_more numbers i 0 lt) among in
      elim (Contains-push_cases (take i numbers) (get_or numbers i 0) number pushed) [
        | inl before ↦ Contains-append_left products powers (number * factor ^ k) (h.complete number k before fits)
        | inr same ↦
            (let at : number * factor ^ k ≡ get_or numbers i 0 * factor ^ k = ap (λ v. v * factor ^ k) (sym same) in
            Contains-append_right products powers (number * factor ^ k)
            (subst (λ v. Contains powers v) (sym at) (one.complete k (subst (λ v. v ≤ LARGEST_BASE) at fits))))
      ];
}

pub some_powered : (numbers : List ℕ) (factor : ℕ) (products : List ℕ) → 1 ≤ factor → All (λ n. 1 ≤ n) numbers → ArePowered numbers factor products → All (λ n. 1 ≤ n) products
some_powered numbers factor products some all h =
    All-weaker (IsPowered numbers factor) (λ n. 1 ≤ n)
    (λ n p.
    let one : 1 ≤ p.number = All-contains (λ m. 1 ≤ m) numbers p.number all p.among in
    let two : 1 ≤ factor ^ p.power = one-le-pow p.power factor (omega arith) in
    let both : 1 ≤ p.number * factor ^ p.power = omega (arith, mul-pos {m = p.number} {n = factor ^ p.power} (omega arith) (omega arith)) in
    subst (λ v. 1 ≤ v) (sym p.product) both)
    products h.sound

pub one_alone : All (λ n. 1 ≤ n) (1 ∷ [])
one_alone = All-cons (λ n. 1 ≤ n) 1 [] (omega arith) (All-nil (λ n. 1 ≤ n))

is_one : (n : ℕ) → Contains (1 ∷ []) n → n ≡ 1
is_one n h = All-contains (λ m. m ≡ 1) (1 ∷ []) n (All-cons (λ m. m ≡ 1) 1 [] refl (All-nil (λ m. m ≡ 1))) h

smooth_in : (twos threes fives : List ℕ) → ArePowered (1 ∷ []) 2 twos → ArePowered twos 3 threes → ArePowered threes 5 fives
    → (n : ℕ) → IsPowered fives 7 n → IsSevenSmooth n
smooth_in twos threes fives h2 h3 h5 n p7 =
    let p5 = All-contains (IsPowered threes 5) fives p7.number h5.sound p7.among in
    let p3 = All-contains (IsPowered twos 3) threes p5.number h3.sound p5.among in
    let p2 = All-contains (IsPowered (1 ∷ []) 2) twos p3.number h2.sound p3.among in
    let e2 : p3.number ≡ 2 ^ p2.power = p2.product ∙ ap (λ v. v * 2 ^ p2.power) (is_one p2.number p2.among) ∙ one-mul (2 ^ p2.power) in
    let e3 : p5.number ≡ 2 ^ p2.power * 3 ^ p3.power = p3.product ∙ ap (λ v. v * 3 ^ p3.power) e2 in
    let e5 : p7.number ≡ 2 ^ p2.power * 3 ^ p3.power * 5 ^ p5.power = p5.product ∙ ap (λ v. v * 5 ^ p5.power) e3 in
    record {
      twos = p2.power;
      threes = p3.power;
      fives = p5.power;
      sevens = p7.power;
      product = p7.product ∙ ap (λ v. v * 7 ^ p7.power) e5;
    }

-- a product of a power is no less than what is multiplied
no_less : (a p k : ℕ) → 1 ≤ p → a ≤ a * p ^ k
no_less a p k some = le-mul_of_pos_right {m = p ^ k} a (omega (arith, one-le-pow k p (omega arith)))

smooth_is_in : (twos threes fives sevens : List ℕ) → ArePowered (1 ∷ []) 2 twos → ArePowered twos 3 threes → ArePowered threes 5 fives → ArePowered fives 7 sevens
    → (n : ℕ) → n ≤ LARGEST_BASE → IsSevenSmooth n → Contains sevens n
smooth_is_in twos threes fives sevens h2 h3 h5 h7 n within s =
    let one : 1 * 2 ^ s.twos ≡ 2 ^ s.twos = one-mul (2 ^ s.twos) in
    let b5 : 2 ^ s.twos * 3 ^ s.threes * 5 ^ s.fives ≤ n = subst (λ v. 2 ^ s.twos * 3 ^ s.threes * 5 ^ s.fives ≤ v) (sym s.product) (no_less (2 ^ s.twos * 3 ^ s.threes * 5 ^ s.fives) 7 s.sevens (omega arith)) in
    let b3 : 2 ^ s.twos * 3 ^ s.threes ≤ 2 ^ s.twos * 3 ^ s.threes * 5 ^ s.fives = no_less (2 ^ s.twos * 3 ^ s.threes) 5 s.fives (omega arith) in
    let b2 : 2 ^ s.twos ≤ 2 ^ s.twos * 3 ^ s.threes = no_less (2 ^ s.twos) 3 s.threes (omega arith) in
    let w5 : 2 ^ s.twos * 3 ^ s.threes * 5 ^ s.fives ≤ LARGEST_BASE = le_through b5 within in
    let w3 : 2 ^ s.twos * 3 ^ s.threes ≤ LARGEST_BASE = le_through b3 w5 in
    let w2 : 2 ^ s.twos ≤ LARGEST_BASE = le_through b2 w3 in
    let c2 : Contains twos (2 ^ s.twos) = subst (λ v. Contains twos v) one (h2.complete 1 s.twos (Contains-push [] 1) (subst (λ v. v ≤ LARGEST_BASE) (sym one) w2)) in
    let c3 = h3.complete (2 ^ s.twos) s.threes c2 w3 in
    let c5 = h5.complete (2 ^ s.twos * 3 ^ s.threes) s.fives c3 w5 in
    subst (λ v. Contains sevens v) (sym s.product) (h7.complete (2 ^ s.twos * 3 ^ s.threes * 5 ^ s.fives) s.sevens c5 (subst (λ v. v ≤ LARGEST_BASE) s.product within))

pub all_smooth : (twos threes fives sevens : List ℕ) → ArePowered (1 ∷ []) 2 twos → ArePowered twos 3 threes → ArePowered threes 5 fives → ArePowered fives 7 sevens
    → AreSevenSmooth sevens
all_smooth twos threes fives sevens h2 h3 h5 h7 = record {
  within = h7.within;
  sound = All-weaker (IsPowered fives 7) IsSevenSmooth (smooth_in twos threes fives h2 h3 h5) sevens h7.sound;
  complete = smooth_is_in twos threes fives sevens h2 h3 h5 h7;
}

pub smooth_some : (n : ℕ) → IsSevenSmooth n → 1 ≤ n
smooth_some n s =
    let one : 1 ≤ 2 ^ s.twos = one-le-pow s.twos 2 (omega arith) in
    let b2 = no_less (2 ^ s.twos) 3 s.threes (omega arith) in
    let b3 = no_less (2 ^ s.twos * 3 ^ s.threes) 5 s.fives (omega arith) in
    let b5 = no_less (2 ^ s.twos * 3 ^ s.threes * 5 ^ s.fives) 7 s.sevens (omega arith) in
    subst (λ v. 1 ≤ v) (sym s.product) (le_through one (le_through b2 (le_through b3 b5)))

-- the numbers so far, with their divisors
pub record AreDividedSoFar (numbers : List ℕ) (bases : List Divided) : Type 0 where
  pub divided : All IsDivided bases
  pub told : map (λ (d : Divided). d.base) bases ≡ numbers

pub none_divided : AreDividedSoFar [] []
none_divided = record { divided = All-nil IsDivided; told = refl }

pub one_divided : (numbers : List ℕ) (i : ℕ) (bases : List Divided) (d : Divided) → i < length numbers → AreDividedSoFar (take i numbers) bases
    → d.base ≡ get_or numbers i 0 → IsDivided d → AreDividedSoFar (take (i + 1) numbers) (bases ++ d ∷ [])
one_divided numbers i bases d lt h same is = record {
  divided = All-push IsDivided bases d h.divided is;
  told =
      map_push (λ (d : Divided). d.base) bases d ∙ ap (λ ns. ns ++ d.base ∷ []) h.told
      ∙ ap (λ n. take i numbers ++ n ∷ []) same ∙ sym (take_more numbers i 0 lt);
}

pub items_some : (numbers items : List ℕ) (i : ℕ) → items ≡ numbers → AreSevenSmooth numbers → i < length items → 1 ≤ get_or items i 0
items_some numbers items i same smooth lt =
    let are : AreSevenSmooth items = subst AreSevenSmooth (sym same) smooth in
    smooth_some (get_or items i 0) (are.sound i 0 lt)

pub items_within : (numbers items : List ℕ) (i : ℕ) → items ≡ numbers → AreSevenSmooth numbers → i < length items → get_or items i 0 ≤ LARGEST_BASE
items_within numbers items i same smooth lt =
    let are : AreSevenSmooth items = subst AreSevenSmooth (sym same) smooth in
    are.within i 0 lt

-- products of numbers that are told again
pub told_again : (numbers told products : List ℕ) (factor : ℕ) → told ≡ numbers → ArePowered told factor products → ArePowered numbers factor products
told_again numbers told products factor same h = subst (λ ns. ArePowered ns factor products) same h

pub next_some : (numbers told products again : List ℕ) (factor : ℕ) → 1 ≤ factor → told ≡ numbers → again ≡ products → All (λ n. 1 ≤ n) numbers
    → ArePowered told factor products → All (λ n. 1 ≤ n) again
next_some numbers told products again factor some same twice all h =
    subst (λ ns. All (λ n. 1 ≤ n) ns) (sym twice) (some_powered numbers factor products some all (told_again numbers told products factor same h))
