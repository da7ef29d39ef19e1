-- The laws of the order, each the contract of a public function.
use Rattle.std.specs.Prelude.{◌≡◌, ◌≢◌, ℕ, ◌+◌, true, false, not, ◌↔◌, IsTrue, if◌then◌else◌}
use Rattle.std.specs.declared.cmp.Ordering.TheVariants.{Equal}
use Rattle.std.specs.Cmp.{IsTotalOrder}
use Rattle.pf_window.specs.Share.{Share, is_heavy}
use Rattle.pf_window.specs.Group.{group_of}
use Rattle.pf_order.specs.Priority.{Priority, IsPriority, Precedes, priority_cmp, precedes, key_cmp}
use Rattle.pf_order.specs.KeyOf.{key_of}

-- of two keys of different tasks exactly one precedes the other
abbrev pub OneOfTwoPrecedes : Type 0
OneOfTwoPrecedes = (x y : Priority) → x.task ≢ y.task → precedes x y ≡ not (precedes y x)

-- no key precedes itself
abbrev pub NonePrecedesItself : Type 0
NonePrecedesItself = (x : Priority) → precedes x x ≡ false

-- what precedes a key precedes all that the key precedes
abbrev pub PrecedingIsTransitive : Type 0
PrecedingIsTransitive = (x y z : Priority) → precedes x y ≡ true → precedes y z ≡ true → precedes x z ≡ true

-- the test is the published order
abbrev pub TestIsOrder : Type 0
TestIsOrder = (x y : Priority) → IsPriority x → IsPriority y → IsTrue (precedes x y) ↔ Precedes x y

-- what the published order looks at: as in the key, but a heavy task has its group deadline beside either bit
abbrev pub published_of : Share → ℕ → ℕ → ℕ → Priority
published_of w shift i task =
    record (key_of w shift i task) { group = (if is_heavy w then group_of w i + shift else 0) }

-- of all weights, shifts and numbers, without a limit, the test of two keys is the published order of their subtasks
abbrev pub KeysPrecedeAsPublished : Type 0
KeysPrecedeAsPublished = (w v : Share) (shift other i j task rival : ℕ) →
    IsTrue (precedes (key_of w shift i task) (key_of v other j rival))
    ↔ Precedes (published_of w shift i task) (published_of v other j rival)

-- keys that tie down to the subtask's number are equal
abbrev pub OnlyEqualKeysTie : Type 0
OnlyEqualKeysTie = (x y : Priority) → key_cmp x y ≡ Equal → x ≡ y

pub record KeysAreOrdered : Type 0 where
  pub total : IsTotalOrder priority_cmp
  pub one_of_two : OneOfTwoPrecedes
  pub irreflexive : NonePrecedesItself
  pub transitive : PrecedingIsTransitive
  pub published : TestIsOrder
  pub of_keys : KeysPrecedeAsPublished
  pub keys_total : IsTotalOrder key_cmp
  pub only_equal : OnlyEqualKeysTie
