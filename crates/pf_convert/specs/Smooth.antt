-- Numbers without a prime factor above 7, and the divisors of a number.
use Rattle.std.specs.Prelude.{ℕ, ◌*◌, ◌/◌, ◌%◌, ◌^◌, ◌≡◌, ◌≤◌, ◌==◌, if◌then◌else◌, List, [], ◌∷◌, ◌++◌, All, Contains, map}
use Rattle.std.specs.List.Sorted.{IsNonDecreasing}
use Rattle.pf_weight.specs.declared.base.TheConstants.{LARGEST_BASE}
use Rattle.pf_convert.specs.declared.divided.Divided.{Divided}

-- it is a product of powers of 2, 3, 5 and 7
pub record IsSevenSmooth (n : ℕ) : Type 0 where
  pub twos : ℕ
  pub threes : ℕ
  pub fives : ℕ
  pub sevens : ℕ
  pub product : n ≡ 2 ^ twos * 3 ^ threes * 5 ^ fives * 7 ^ sevens

-- it is the number times a power of the factor
pub record IsPowerOf (number factor n : ℕ) : Type 0 where
  pub power : ℕ
  pub product : n ≡ number * factor ^ power

-- these are the products of the number and the powers of the factor, up to the greatest base
pub record ArePowersOf (number factor : ℕ) (powers : List ℕ) : Type 0 where
  pub within : All (λ n. n ≤ LARGEST_BASE) powers
  pub sound : All (IsPowerOf number factor) powers
  pub complete : (k : ℕ) → number * factor ^ k ≤ LARGEST_BASE → Contains powers (number * factor ^ k)

-- it is one of these numbers times a power of the factor
pub record IsPowered (numbers : List ℕ) (factor n : ℕ) : Type 0 where
  pub number : ℕ
  pub among : Contains numbers number
  pub power : ℕ
  pub product : n ≡ number * factor ^ power

-- these are the numbers up to the greatest base that are one of those times a power of the factor
pub record ArePowered (numbers : List ℕ) (factor : ℕ) (powered : List ℕ) : Type 0 where
  pub within : All (λ n. n ≤ LARGEST_BASE) powered
  pub sound : All (IsPowered numbers factor) powered
  pub complete : (number k : ℕ) → Contains numbers number → number * factor ^ k ≤ LARGEST_BASE → Contains powered (number * factor ^ k)

-- these are the numbers without a prime factor above 7 up to the greatest base
pub record AreSevenSmooth (numbers : List ℕ) : Type 0 where
  pub within : All (λ n. n ≤ LARGEST_BASE) numbers
  pub sound : All IsSevenSmooth numbers
  pub complete : (n : ℕ) → n ≤ LARGEST_BASE → IsSevenSmooth n → Contains numbers n

-- these are the divisors of the number
pub record AreDivisors (n : ℕ) (divisors : List ℕ) : Type 0 where
  pub some : All (λ d. 1 ≤ d) divisors
  pub sound : All (λ d. n % d ≡ 0) divisors
  pub complete : (d : ℕ) → 1 ≤ d → n % d ≡ 0 → Contains divisors d

-- a divisor and its counterpart after these, where it is one
abbrev pub with_pair : ℕ → ℕ → List ℕ → List ℕ
with_pair n d divisors = if n % d == 0 then (divisors ++ d ∷ []) ++ n / d ∷ [] else divisors

-- a base with its divisors, rising
pub record IsDivided (d : Divided) : Type 0 where
  pub some : 1 ≤ d.base
  pub within : d.base ≤ LARGEST_BASE
  pub divisors : AreDivisors d.base d.divisors.items
  pub rising : IsNonDecreasing d.divisors.items

-- these are the bases without a prime factor above 7, each with its divisors
pub record AreSmoothBases (bases : List Divided) : Type 0 where
  pub divided : All IsDivided bases
  pub smooth : AreSevenSmooth (map (λ d. d.base) bases)
