-- A task that gets e of each p slots lacks c, with c + e ≡ p. In the first t slots it lacks t * c / p, and t is where
-- this comes to the whole number j first: t is j * p / c rounded up.
-- Sums stand in equations and are handed over by `ap`, since `omega` multiplies sums out but puts none in.
use Rattle.std.proofs.Common.{◌≡◌, ℕ, ◌+◌, ◌-◌, ◌*◌, ◌<◌, ◌≤◌, zero, suc, sym, ap, subst, arith, ⊎_elim}
use Rattle.std.proofs.Math.Nat.{lt_of_mul-lt-mul_right, mul-le-mul_right, add-mul}
use Rattle.std.proofs.lemmas.Bool.{cases_lt}
use Rattle.pf_window.proofs.Quotients.{IsFloor, IsCeil}

-- subtask k ends at t and leaves the next one room: the lack is whole there
meet_lacks : (e p c k j t : ℕ) → c + e ≡ p → 1 ≤ c → t ≡ k + j → k * p ≡ t * e → IsCeil (j * p) c t
meet_lacks e p c k j t whole some sum meet =
    let k_p : k * p ≡ k * (c + e) = ap (λ x. k * x) (sym whole) in
    let j_p : j * p ≡ j * (c + e) = ap (λ x. j * x) (sym whole) in
    let t_c : t * c ≡ (k + j) * c = ap (λ x. x * c) sum in
    let t_e : t * e ≡ (k + j) * e = ap (λ x. x * e) sum in
    record { enough = omega arith; least = omega arith }

pub lack_from_meet : (e p c k t : ℕ) → c + e ≡ p → 1 ≤ c → 1 ≤ e → k * p ≡ t * e → IsCeil ((t - k) * p) c t
lack_from_meet e p c k t whole some given meet =
    let k_p : k * p ≡ k * (c + e) = ap (λ x. k * x) (sym whole) in
    let early : k < t + 1 = lt_of_mul-lt-mul_right e (omega arith) in
    meet_lacks e p c k (t - k) t whole some (omega arith) meet

-- the window of subtask m + 1 is three slots from r: the lack comes to a whole quantum after two
three_lacks : (e p c m l r : ℕ) → c + e ≡ p → r ≡ m + l → IsFloor (m * p) e r → IsCeil ((m + 1) * p) e (r + 3) →
    IsCeil ((l + 1) * p) c (r + 2)
three_lacks e p c m l r whole sum from to =
    let m_p : m * p ≡ m * (c + e) = ap (λ x. m * x) (sym whole) in
    let l_p : l * p ≡ l * (c + e) = ap (λ x. l * x) (sym whole) in
    let r_c : r * c ≡ (m + l) * c = ap (λ x. x * c) sum in
    let r_e : r * e ≡ (m + l) * e = ap (λ x. x * e) sum in
    record { enough = omega arith; least = omega arith }

pub lack_from_three : (e p c m r : ℕ) → c + e ≡ p → IsFloor (m * p) e r → IsCeil ((m + 1) * p) e (r + 3) →
    IsCeil ((r - m + 1) * p) c (r + 2)
lack_from_three e p c m r whole from to =
    let m_p : m * p ≡ m * (c + e) = ap (λ x. m * x) (sym whole) in
    let early : m < r + 1 = lt_of_mul-lt-mul_right e (omega arith) in
    three_lacks e p c m (r - m) r whole (omega arith) from to

-- where the lack is whole after some slot, some subtask is being served: not all slots lack
pub lack_below : (e p c j t : ℕ) → c + e ≡ p → 1 ≤ e → 1 ≤ t → IsCeil (j * p) c t → j < t
lack_below e p c j t whole given some lack =
    let t_p : t * p ≡ t * (c + e) = ap (λ x. t * x) (sym whole) in
    let t_e : 1 * t ≤ e * t = mul-le-mul_right t given in
    lt_of_mul-lt-mul_right p (omega arith)

-- the lack is whole at t, where subtask k ends
pub meet_from_lack : (e p c k j t : ℕ) → c + e ≡ p → t ≡ k + j → j * p ≡ t * c → k * p ≡ t * e
meet_from_lack e p c k j t whole sum lack =
    let k_p : k * p ≡ k * (c + e) = ap (λ x. k * x) (sym whole) in
    let j_p : j * p ≡ j * (c + e) = ap (λ x. j * x) (sym whole) in
    let t_c : t * c ≡ (k + j) * c = ap (λ x. x * c) sum in
    let t_e : t * e ≡ (k + j) * e = ap (λ x. x * e) sum in
    omega arith

-- the lack passes a whole number in the slot before t: subtask m + 1 ends one slot after t ..
pub due_from_lack : (e p c m j t : ℕ) → c + e ≡ p → c ≤ e → t ≡ m + 1 + j → j * p < t * c → t * c < j * p + c →
    IsCeil ((m + 1) * p) e (t + 1)
due_from_lack e p c m j t whole heavy sum above below =
    let m_p : m * p ≡ m * (c + e) = ap (λ x. m * x) (sym whole) in
    let j_p : j * p ≡ j * (c + e) = ap (λ x. j * x) (sym whole) in
    let t_c : t * c ≡ (m + 1 + j) * c = ap (λ x. x * c) sum in
    let t_e : t * e ≡ (m + 1 + j) * e = ap (λ x. x * e) sum in
    record { enough = omega arith; least = omega arith }

-- .. and its window begins two slots before t
begins_from_lack : (e p c m l t : ℕ) → c + e ≡ p → c ≤ e → t ≡ m + l + 2 → (l + 1) * p < t * c →
    t * c < (l + 1) * p + c → IsFloor (m * p) e (m + l)
begins_from_lack e p c m l t whole heavy sum above below =
    let m_p : m * p ≡ m * (c + e) = ap (λ x. m * x) (sym whole) in
    let l_p : l * p ≡ l * (c + e) = ap (λ x. l * x) (sym whole) in
    let t_c : t * c ≡ (m + l + 2) * c = ap (λ x. x * c) sum in
    record { within = omega arith; next = omega arith }

pub release_from_lack : (e p c m j t : ℕ) → c + e ≡ p → c ≤ e → t ≡ m + 1 + j → j * p < t * c → t * c < j * p + c →
    (2 ≤ t) × IsFloor (m * p) e (t - 2)
release_from_lack e p c m zero t whole heavy sum above below =
    let t_c : t * c ≡ (m + 1) * c = ap (λ x. x * c) (omega arith) in
    absurd (omega arith)
release_from_lack e p c m (suc l) t whole heavy sum above below =
    let from = begins_from_lack e p c m l t whole heavy (omega arith) (omega arith) (omega arith) in
    ((omega arith), subst (λ x. IsFloor (m * p) e x) (omega arith) from)

-- a lack that is whole first at or after the deadline d of subtask i is no less than the lack at d
later_lack : (e p c i d j t : ℕ) → c + e ≡ p → IsCeil (i * p) e d → d ≤ t → t * c < j * p + c → j * p < d * c → ⊥
later_lack e p c i d j t whole due after below less =
    let d_p : d * p ≡ d * (c + e) = ap (λ x. d * x) (sym whole) in
    let d_c : d * c ≤ t * c = mul-le-mul_right c after in
    let fewer : j < d = lt_of_mul-lt-mul_right p (omega arith) in
    let sum : d ≡ d - j + j = omega arith in
    let parts : d * p ≡ (d - j + j) * p = ap (λ x. x * p) sum in
    let rest : (d - j + j) * p ≡ (d - j) * p + j * p = add-mul (d - j) j p in
    let low : i < d - j = lt_of_mul-lt-mul_right p (omega arith) in
    let high : d - j < i + 1 = lt_of_mul-lt-mul_right p (omega arith) in
    omega arith

pub lack_after : (e p c i d j t : ℕ) → c + e ≡ p → IsCeil (i * p) e d → d ≤ t → IsCeil (j * p) c t → d * c ≤ j * p
lack_after e p c i d j t whole due after lack =
    ⊎_elim (λ less. absurd (later_lack e p c i d j t whole due after (omega arith) less)) (λ more. more)
    (cases_lt (j * p) (d * c))

-- the lack is whole first at or after d at t: n quanta
pub first_after : (p c d n t : ℕ) → 1 ≤ c → IsCeil (d * c) p n → IsCeil (n * p) c t → d ≤ t
first_after p c d n t some lack ends =
    let within : d < t + 1 = lt_of_mul-lt-mul_right c (omega arith) in
    omega arith

pub first_least : (p c d n t j s : ℕ) → IsCeil (d * c) p n → IsCeil (n * p) c t → d * c ≤ j * p → IsCeil (j * p) c s →
    t ≤ s
first_least p c d n t j s lack ends more other =
    let fewer : n < j + 1 = lt_of_mul-lt-mul_right p (omega arith) in
    let n_p : n * p ≤ j * p = mul-le-mul_right p (omega arith) in
    let sooner : t < s + 1 = lt_of_mul-lt-mul_right c (omega arith) in
    omega arith
