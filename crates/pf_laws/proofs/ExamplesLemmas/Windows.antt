-- The worked examples of windows: each number is computed, and the computed group deadline is the one of the rule.
use Rattle.std.proofs.Common.{◌≡◌, ℕ, ◌≤◌, refl, subst, arith}
use Rattle.pf_weight.specs.Share.{Share, IsShare}
use Rattle.pf_window.specs.Window.{release_of, deadline_of, bit_of}
use Rattle.pf_window.specs.Group.{IsGroupOf, group_of}
use Rattle.pf_window.proofs.Groups.{group_of-is}
use Rattle.pf_laws.specs.Examples.Windows.{HasWindow, weight, TwoThirds, EightElevenths, WorkedWindows}

by_computing : (w : Share) (i r d b g : ℕ) → IsShare w → 1 ≤ i →
    release_of w i ≡ r → deadline_of w i ≡ d → bit_of w i ≡ b → group_of w i ≡ g → HasWindow w i r d b g
by_computing w i r d b g share first from till bit group = record {
  release = from;
  deadline = till;
  bit = bit;
  group = group;
  rule = subst (IsGroupOf w i) group (group_of-is w i share first);
}

two_thirds_is : IsShare (weight 2 3)
two_thirds_is = record { some = omega arith; within = omega arith; short = omega arith; units_some = omega arith; units_within = omega arith }

eight_elevenths_is : IsShare (weight 8 11)
eight_elevenths_is = record { some = omega arith; within = omega arith; short = omega arith; units_some = omega arith; units_within = omega arith }

half_is : IsShare (weight 1 2)
half_is = record { some = omega arith; within = omega arith; short = omega arith; units_some = omega arith; units_within = omega arith }

whole_is : IsShare (weight 1 1)
whole_is = record { some = omega arith; within = omega arith; short = omega arith; units_some = omega arith; units_within = omega arith }

light_is : IsShare (weight 3 7)
light_is = record { some = omega arith; within = omega arith; short = omega arith; units_some = omega arith; units_within = omega arith }

two_thirds : TwoThirds
unfolding release_of deadline_of bit_of group_of
two_thirds = record {
  first = by_computing _ 1 _ _ _ _ two_thirds_is (omega arith) refl refl refl refl;
  second = by_computing _ 2 _ _ _ _ two_thirds_is (omega arith) refl refl refl refl;
  third = by_computing _ 3 _ _ _ _ two_thirds_is (omega arith) refl refl refl refl;
  fourth = by_computing _ 4 _ _ _ _ two_thirds_is (omega arith) refl refl refl refl;
}

eight_elevenths : EightElevenths
unfolding release_of deadline_of bit_of group_of
eight_elevenths = record {
  first = by_computing _ 1 _ _ _ _ eight_elevenths_is (omega arith) refl refl refl refl;
  second = by_computing _ 2 _ _ _ _ eight_elevenths_is (omega arith) refl refl refl refl;
  third = by_computing _ 3 _ _ _ _ eight_elevenths_is (omega arith) refl refl refl refl;
  fourth = by_computing _ 4 _ _ _ _ eight_elevenths_is (omega arith) refl refl refl refl;
  fifth = by_computing _ 5 _ _ _ _ eight_elevenths_is (omega arith) refl refl refl refl;
  sixth = by_computing _ 6 _ _ _ _ eight_elevenths_is (omega arith) refl refl refl refl;
  seventh = by_computing _ 7 _ _ _ _ eight_elevenths_is (omega arith) refl refl refl refl;
  eighth = by_computing _ 8 _ _ _ _ eight_elevenths_is (omega arith) refl refl refl refl;
}

pub worked_windows : WorkedWindows
unfolding release_of deadline_of bit_of group_of
worked_windows = record {
  two_thirds = two_thirds;
  eight_elevenths = eight_elevenths;
  half = by_computing _ 1 _ _ _ _ half_is (omega arith) refl refl refl refl;
  half_next = by_computing _ 2 _ _ _ _ half_is (omega arith) refl refl refl refl;
  whole = by_computing _ 7 _ _ _ _ whole_is (omega arith) refl refl refl refl;
  light = by_computing _ 1 _ _ _ _ light_is (omega arith) refl refl refl refl;
}
