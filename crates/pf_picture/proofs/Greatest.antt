-- The greatest lag, slot by slot.
use Rattle.std.proofs.Common.{◌≡◌, ℕ, suc, ◌+◌, ◌-◌, ◌<◌, ap, arith}
use Rattle.std.specs.List.{fold, range_with_len}

-- Use: one slot of those that are left.
pub slot_next : (f : ℕ → ℕ → ℕ) (most t behind : ℕ) → t < behind → fold f most (range_with_len t (behind - t)) ≡ fold f (f most t) (range_with_len (t + 1) (behind - (t + 1)))
slot_next f most t behind some = ap (λ n. fold f most (range_with_len t n)) (let z : behind - t ≡ suc (behind - (t + 1)) = omega arith in z)
