-- Worked examples of keys and their order, over the base 462 and with no shift.
use Rattle.std.specs.Prelude.{◌≡◌, ℕ, true, false, List, [], ◌∷◌, AllPairs}
use Rattle.pf_window.specs.Group.{group_of}
use Rattle.pf_order.specs.Priority.{Priority, Precedes, precedes}
use Rattle.pf_order.specs.KeyOf.{key_of}
use Rattle.pf_order.specs.First.{first_keys}
use Rattle.pf_order.specs.Counts.{Counts, compared_once}
use Rattle.pf_laws.specs.Examples.Windows.{weight}

-- the key of subtask i of the task
abbrev pub key_with : ℕ → ℕ → ℕ → ℕ → Priority
key_with task cost period i = key_of (weight cost period) 0 i task

abbrev pub key_a : Priority
key_a = key_with 1 3 7 1

abbrev pub key_b : Priority
key_b = key_with 2 8 11 2

abbrev pub key_c : Priority
key_c = key_with 3 2 3 1

abbrev pub key_e : Priority
key_e = key_with 4 1 2 1

abbrev pub key_f : Priority
key_f = key_with 5 2 3 1

abbrev pub key_g : Priority
key_g = key_with 6 2 3 2

-- these keys by name, and in their order
abbrev pub by_name : List Priority
by_name = key_a ∷ key_b ∷ key_c ∷ key_e ∷ key_f ∷ key_g ∷ []

abbrev pub in_order : List Priority
in_order = key_c ∷ key_f ∷ key_e ∷ key_b ∷ key_a ∷ key_g ∷ []

-- the key has the deadline d, the bit b and the group deadline g
pub record Shows (k : Priority) (d b g : ℕ) : Type 0 where
  pub deadline : k.deadline ≡ d
  pub bit : k.bit ≡ b
  pub group : k.group ≡ g

abbrev pub no_counts : Counts
no_counts = record { compared = 0; slots = 0 }

pub record WorkedOrder : Type 0 where
  -- deadlines, bits and group deadlines: that of A is 0 as 3/7 is light, that of E as its bit is 0
  pub a : Shows key_a 3 1 0
  pub b : Shows key_b 3 1 4
  pub c : Shows key_c 2 1 3
  pub e : Shows key_e 2 0 0
  pub f : Shows key_f 2 1 3
  -- the group deadline 3 of G's subtask doesn't count beside the bit 0
  pub g : Shows key_g 3 0 0
  pub group_of_g : group_of (weight 2 3) 2 ≡ 3
  -- the order is C, F, E, B, A, G: each precedes all after it, and so they are found
  pub order : AllPairs Precedes in_order
  pub found : first_keys 6 by_name ≡ in_order
  -- C precedes F by its task number, and A precedes G by its bit; F doesn't precede C, nor C itself
  pub c_before_f : Precedes key_c key_f
  pub a_before_g : Precedes key_a key_g
  pub f_not_before_c : ¬ (Precedes key_f key_c)
  pub c_not_before_c : ¬ (Precedes key_c key_c)
  -- the same as the test answers
  pub test_c_f : precedes key_c key_f ≡ true
  pub test_a_g : precedes key_a key_g ≡ true
  pub test_f_c : precedes key_f key_c ≡ false
  pub test_c_c : precedes key_c key_c ≡ false
  -- four comparisons count four
  pub counted : compared_once (compared_once (compared_once (compared_once no_counts))) ≡ record { compared = 4; slots = 0 }
