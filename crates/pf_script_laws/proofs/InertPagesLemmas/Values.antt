-- The compact text of a JSON value whose strings and keys have no `<`.
use Rattle.std.proofs.Common.{◌≡◌, ◌&&◌, Bool, true, false, List, [], ◌∷◌, ◌++◌, map, refl}
use Rattle.std.proofs.lemmas.Bool.{and_parts}
use Rattle.serde_json.specs.Data.{Num, unsigned, negative, float, Data, null, boolean, number, string, array, object, Items, no_items, item, Members, no_members, member}
use Rattle.serde_json.specs.View.{items_of}
use Rattle.serde_json.specs.Written.{comma_if, compact_text, items_text, members_text, number_text}
use Rattle.json.specs.Print.{quoted}
use Rattle.pf_script_laws.specs.InertPages.Page.{is_inert}
use Rattle.pf_script_laws.proofs.InertPagesLemmas.Texts.{both, decimal_inert, joined, quoted_inert, signed_inert}

-- each string and each key is inert
abbrev mutual
  pub value_is_inert : Data → Bool
  value_is_inert null = true
  value_is_inert (boolean b) = true
  value_is_inert (number n) = true
  value_is_inert (string s) = is_inert s
  value_is_inert (array ds) = items_are_inert ds
  value_is_inert (object ms) = members_are_inert ms

  pub items_are_inert : Items → Bool
  items_are_inert no_items = true
  items_are_inert (item d ds) = value_is_inert d && items_are_inert ds

  pub members_are_inert : Members → Bool
  members_are_inert no_members = true
  members_are_inert (member k d ms) = is_inert k && (value_is_inert d && members_are_inert ms)

number_inert : (n : Num) → is_inert (number_text n) ≡ true
number_inert (unsigned n) = decimal_inert n
number_inert (negative z) = signed_inert z
number_inert (float x) = refl

comma_inert : (later : Bool) → is_inert (comma_if later) ≡ true
comma_inert true = refl
comma_inert false = refl

mutual
  pub text_inert : (d : Data) → value_is_inert d ≡ true → is_inert (compact_text d) ≡ true
  text_inert null inert = refl
  text_inert (boolean true) inert = refl
  text_inert (boolean false) inert = refl
  text_inert (number n) inert = number_inert n
  text_inert (string s) inert = quoted_inert s inert
  text_inert (array ds) inert = items_inert false ds inert
  text_inert (object ms) inert = members_inert false ms inert

  items_inert : (later : Bool) (ds : Items) → items_are_inert ds ≡ true → is_inert (items_text later ds) ≡ true
  items_inert later no_items inert = refl
  items_inert later (item d ds) inert =
      joined (comma_if later) (compact_text d ++ items_text true ds) (comma_inert later)
      (joined (compact_text d) (items_text true ds) (text_inert d (and_parts (value_is_inert d) (items_are_inert ds) inert).0)
      (items_inert true ds (and_parts (value_is_inert d) (items_are_inert ds) inert).1))

  members_inert : (later : Bool) (ms : Members) → members_are_inert ms ≡ true → is_inert (members_text later ms) ≡ true
  members_inert later no_members inert = refl
  members_inert later (member k d ms) inert =
      let rest : (value_is_inert d && members_are_inert ms) ≡ true = (and_parts (is_inert k) (value_is_inert d && members_are_inert ms) inert).1 in
      joined (comma_if later) (quoted k ++ 58 ∷ (compact_text d ++ members_text true ms)) (comma_inert later)
      (joined (quoted k) (58 ∷ (compact_text d ++ members_text true ms))
      (quoted_inert k (and_parts (is_inert k) (value_is_inert d && members_are_inert ms) inert).0)
      (joined (compact_text d) (members_text true ms) (text_inert d (and_parts (value_is_inert d) (members_are_inert ms) rest).0)
      (members_inert true ms (and_parts (value_is_inert d) (members_are_inert ms) rest).1)))

-- Use: an array each element of which is inert.
pub array_inert : {X : Type 0} (show : X → Data) → ((x : X) → value_is_inert (show x) ≡ true) → (xs : List X)
    → items_are_inert (items_of (map show xs)) ≡ true
array_inert show each [] = refl
array_inert show each (x ∷ xs) = both (value_is_inert (show x)) (items_are_inert (items_of (map show xs))) (each x) (array_inert show each xs)
