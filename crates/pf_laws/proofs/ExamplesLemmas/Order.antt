-- The worked examples of the order: the keys are computed, and of each two of them a test decides which precedes.
use Rattle.std.proofs.Common.{◌≡◌, ltb, true, false, List, ◌∷◌, [], inl, inr, refl, arith}
use Rattle.std.specs.Prelude.{AllPairs}
use Rattle.std.proofs.lemmas.Bool.{ltb-true}
use Rattle.std.proofs.lemmas.List.Elements.{All-nil, All-cons}
use Rattle.std.proofs.lemmas.List.Kept.{AllPairs-cons}
use Rattle.pf_window.specs.Window.{deadline_of, bit_of}
use Rattle.pf_window.specs.Group.{group_of}
use Rattle.pf_order.specs.Priority.{Priority, IsPriority, Precedes, priority_cmp, precedes}
use Rattle.pf_order.proofs.Order.{test_is_order}
use Rattle.pf_laws.specs.Examples.Order.{key_a, key_b, key_c, key_e, key_f, key_g, in_order, WorkedOrder}

-- why x precedes y
by_deadline : (x y : Priority) → ltb x.deadline y.deadline ≡ true → Precedes x y
by_deadline x y test = inl (ltb-true _ _ test)

by_bit : (x y : Priority) → x.deadline ≡ y.deadline → ltb y.bit x.bit ≡ true → Precedes x y
by_bit x y deadline test = inr (inl (deadline, ltb-true _ _ test))

by_group : (x y : Priority) → x.deadline ≡ y.deadline → x.bit ≡ 1 → y.bit ≡ 1 → ltb y.group x.group ≡ true → Precedes x y
by_group x y deadline one other test = inr (inr (inl (deadline, one, other, ltb-true _ _ test)))

by_task : (x y : Priority) → x.deadline ≡ y.deadline → x.bit ≡ y.bit → x.group ≡ y.group → ltb x.task y.task ≡ true → Precedes x y
by_task x y deadline bit group test = inr (inr (inr (deadline, bit, (λ _. group), ltb-true _ _ test)))

-- what the test denies is not so
not_before : (x y : Priority) → IsPriority x → IsPriority y → precedes x y ≡ false → ¬ (Precedes x y)
not_before x y first second denied before = let yes : precedes x y ≡ true = (test_is_order x y first second).1 before in cc

c_is : IsPriority key_c
unfolding deadline_of bit_of group_of
c_is = record { bit = omega arith; group = λ none. absurd (omega (arith, none)); task_some = omega arith; task_within = omega arith; sub_some = omega arith; sub_within = omega arith }

f_is : IsPriority key_f
unfolding deadline_of bit_of group_of
f_is = record { bit = omega arith; group = λ none. absurd (omega (arith, none)); task_some = omega arith; task_within = omega arith; sub_some = omega arith; sub_within = omega arith }

-- the keys from each one on
abbrev from_g : List Priority
from_g = key_g ∷ []

abbrev from_a : List Priority
from_a = key_a ∷ from_g

abbrev from_b : List Priority
from_b = key_b ∷ from_a

abbrev from_e : List Priority
from_e = key_e ∷ from_b

abbrev from_f : List Priority
from_f = key_f ∷ from_e

-- each key precedes those after it
order : AllPairs Precedes in_order
unfolding deadline_of bit_of group_of
order =
    AllPairs-cons Precedes key_c from_f
    (All-cons (Precedes key_c) key_f from_e (by_task key_c key_f refl refl refl refl)
    (All-cons (Precedes key_c) key_e from_b (by_bit key_c key_e refl refl)
    (All-cons (Precedes key_c) key_b from_a (by_deadline key_c key_b refl)
    (All-cons (Precedes key_c) key_a from_g (by_deadline key_c key_a refl)
    (All-cons (Precedes key_c) key_g [] (by_deadline key_c key_g refl) (All-nil (Precedes key_c)))))))
    (AllPairs-cons Precedes key_f from_e
    (All-cons (Precedes key_f) key_e from_b (by_bit key_f key_e refl refl)
    (All-cons (Precedes key_f) key_b from_a (by_deadline key_f key_b refl)
    (All-cons (Precedes key_f) key_a from_g (by_deadline key_f key_a refl)
    (All-cons (Precedes key_f) key_g [] (by_deadline key_f key_g refl) (All-nil (Precedes key_f))))))
    (AllPairs-cons Precedes key_e from_b
    (All-cons (Precedes key_e) key_b from_a (by_deadline key_e key_b refl)
    (All-cons (Precedes key_e) key_a from_g (by_deadline key_e key_a refl)
    (All-cons (Precedes key_e) key_g [] (by_deadline key_e key_g refl) (All-nil (Precedes key_e)))))
    (AllPairs-cons Precedes key_b from_a
    (All-cons (Precedes key_b) key_a from_g (by_group key_b key_a refl refl refl refl)
    (All-cons (Precedes key_b) key_g [] (by_bit key_b key_g refl refl) (All-nil (Precedes key_b))))
    (AllPairs-cons Precedes key_a from_g
    (All-cons (Precedes key_a) key_g [] (by_bit key_a key_g refl refl) (All-nil (Precedes key_a)))
    (AllPairs-cons Precedes key_g [] (All-nil (Precedes key_g)) (λ i j d before within. absurd (omega arith)))))))

pub worked_order : WorkedOrder
unfolding deadline_of bit_of group_of priority_cmp
worked_order = record {
  a = record { deadline = refl; bit = refl; group = refl };
  b = record { deadline = refl; bit = refl; group = refl };
  c = record { deadline = refl; bit = refl; group = refl };
  e = record { deadline = refl; bit = refl; group = refl };
  f = record { deadline = refl; bit = refl; group = refl };
  g = record { deadline = refl; bit = refl; group = refl };
  group_of_g = refl;
  order = order;
  found = refl;
  c_before_f = by_task key_c key_f refl refl refl refl;
  a_before_g = by_bit key_a key_g refl refl;
  f_not_before_c = not_before key_f key_c f_is c_is refl;
  c_not_before_c = not_before key_c key_c c_is c_is refl;
  test_c_f = refl;
  test_a_g = refl;
  test_f_c = refl;
  test_c_c = refl;
  counted = refl;
}
