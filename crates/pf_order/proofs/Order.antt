-- The laws of the order.
use Rattle.std.proofs.Common.{◌≡◌, ◌≢◌, ℕ, ◌+◌, Bool, true, false, cond, refl, sym, ap, ◌∙◌, arith}
use Rattle.std.proofs.lemmas.Cmp.{then_total, on_total, back_total, tied_itself}
use Rattle.std.proofs.lemmas.Bool.Decides.{nat_tests}
use Rattle.std.specs.Prelude.{not, ◌&&◌, ◌==◌, ◌↔◌, IsTrue}
use Rattle.std.specs.Cmp.{IsTotalOrder, nat_cmp_total}
use Rattle.std.specs.declared.cmp.Ordering.{Ordering}
use Rattle.std.specs.declared.cmp.Ordering.TheVariants.{Less, Equal, Greater}
use Rattle.std.specs.Ordering.{is_lt, ordering_reverse}
use Rattle.pf_lemmas.proofs.Orders.{is_less}
use Rattle.pf_window.specs.Share.{is_heavy}
use Rattle.pf_window.specs.Window.{bit_of}
use Rattle.pf_window.specs.Group.{group_of}
use Rattle.pf_order.specs.Priority.{Priority, Precedes, priority_cmp, precedes, key_cmp}
use Rattle.pf_order.specs.KeyOf.{key_of}
use Rattle.pf_order.specs.Laws.{published_of, OneOfTwoPrecedes, NonePrecedesItself, PrecedingIsTransitive, TestIsOrder, KeysPrecedeAsPublished, OnlyEqualKeysTie, KeysAreOrdered}

pub priority_cmp_total : IsTotalOrder priority_cmp
unfolding priority_cmp
priority_cmp_total =
    then_total (on_total (λ (k : Priority). k.deadline) nat_cmp_total)
    (then_total (back_total (on_total (λ (k : Priority). k.bit) nat_cmp_total))
    (then_total (back_total (on_total (λ (k : Priority). k.group) nat_cmp_total)) (on_total (λ (k : Priority). k.task) nat_cmp_total)))

pub key_cmp_total : IsTotalOrder key_cmp
key_cmp_total = then_total priority_cmp_total (on_total (λ (k : Priority). k.sub) nat_cmp_total)

-- keys of different tasks don't tie
pub apart : (x y : Priority) → x.task ≢ y.task → priority_cmp x y ≢ Equal
unfolding priority_cmp
apart x y differ tie = grind (arith, nat_tests)

not_reversed : (o : Ordering) → o ≢ Equal → is_lt o ≡ not (is_lt (ordering_reverse o))
not_reversed Less differ = refl
not_reversed Equal differ = absurd (differ refl)
not_reversed Greater differ = refl

pub one_of_two_precedes : OneOfTwoPrecedes
one_of_two_precedes x y differ =
    not_reversed (priority_cmp x y) (apart x y differ)
    ∙ ap (λ o. not (is_lt o)) (sym (priority_cmp_total.antisymm y x))

pub none_precedes_itself : NonePrecedesItself
none_precedes_itself x = ap is_lt (tied_itself priority_cmp_total x)

pub preceding_is_transitive : PrecedingIsTransitive
preceding_is_transitive x y z first second = ap is_lt (priority_cmp_total.trans x y z (is_less _ first) (is_less _ second))

pub test_is_order : TestIsOrder
unfolding priority_cmp
test_is_order x y kx ky = grind (arith, nat_tests)

-- a key whose group deadline counts only beside the bit 1
GroupCounts : Priority → Type 0
GroupCounts k = k.bit ≢ 1 → k.group ≡ 0

group_counts : (heavy : Bool) (b group shift : ℕ) → b ≢ 1 → cond (heavy && b == 1) (group + shift) 0 ≡ 0
group_counts true b group shift low = grind (arith, nat_tests)
group_counts false b group shift low = refl

group_is : (heavy : Bool) (b group shift : ℕ) → b ≡ 1 → cond (heavy && b == 1) (group + shift) 0 ≡ cond heavy (group + shift) 0
group_is true b group shift one = grind (arith, nat_tests)
group_is false b group shift one = refl

-- the order looks at group deadlines only beside two bits of 1
groups_beside_one : (x y p q : Priority) → p.deadline ≡ x.deadline → q.deadline ≡ y.deadline → p.bit ≡ x.bit → q.bit ≡ y.bit →
    p.task ≡ x.task → q.task ≡ y.task → (x.bit ≡ 1 → p.group ≡ x.group) → (y.bit ≡ 1 → q.group ≡ y.group) → Precedes x y → Precedes p q
groups_beside_one x y p q dx dy bx by tx ty gx gy e = grind arith

by_counting_groups : (x y : Priority) → GroupCounts x → GroupCounts y → IsTrue (precedes x y) ↔ Precedes x y
unfolding priority_cmp GroupCounts
by_counting_groups x y gx gy = grind (arith, nat_tests)

pub keys_precede_as_published : KeysPrecedeAsPublished
unfolding GroupCounts
keys_precede_as_published w v shift other i j task rival =
    let test = by_counting_groups (key_of w shift i task) (key_of v other j rival)
    (group_counts (is_heavy w) (bit_of w i) (group_of w i) shift) (group_counts (is_heavy v) (bit_of v j) (group_of v j) other) in
    let first = group_is (is_heavy w) (bit_of w i) (group_of w i) shift in
    let second = group_is (is_heavy v) (bit_of v j) (group_of v j) other in (
      λ t. groups_beside_one (key_of w shift i task) (key_of v other j rival) (published_of w shift i task) (published_of v other j rival)
          refl refl refl refl refl refl (λ one. sym (first one)) (λ one. sym (second one)) (test.0 t),
      λ h. test.1 (groups_beside_one (published_of w shift i task) (published_of v other j rival) (key_of w shift i task) (key_of v other j rival)
          refl refl refl refl refl refl first second h),
    )

pub only_equal_keys_tie : OnlyEqualKeysTie
unfolding priority_cmp
only_equal_keys_tie x y tie = grind (arith, nat_tests)

pub keys_are_ordered : KeysAreOrdered
keys_are_ordered = record {
  total = priority_cmp_total;
  one_of_two = one_of_two_precedes;
  irreflexive = none_precedes_itself;
  transitive = preceding_is_transitive;
  published = test_is_order;
  of_keys = keys_precede_as_published;
  keys_total = key_cmp_total;
  only_equal = only_equal_keys_tie;
}
