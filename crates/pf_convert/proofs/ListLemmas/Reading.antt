-- The fields of a heading, one after another.
use Rattle.std.proofs.Common.{◌≡◌, ℕ, zero, suc, ◌+◌, ◌<◌, ◌≤◌, ◌∙◌, List, [], ◌∷◌, ◌++◌, codes, drop, length, get_or, Ok, Err, refl, sym, ap, arith, unwrap_or, append_assoc, append-nil}
use Rattle.std.proofs.lemmas.List.{at_drop_more, at_drop_all}
use Rattle.csv.specs.Records.{field_at}
use Rattle.pf_convert.specs.declared.list.fault.HeadingFault.{HeadingFault}
use Rattle.pf_convert.specs.declared.list.heading.Heading.{Heading}
use Rattle.pf_convert.specs.List.Heading.{field_given, field_number, heading_from, names_after, needed_in}
use Rattle.pf_convert.specs.List.Times.{◌>>=◌}

pub or_nothing : (fields : List (List ℕ)) (i : ℕ) → unwrap_or (field_at fields i) [] ≡ get_or fields i []
unfolding field_at
or_nothing [] i = refl
or_nothing (f ∷ fs) zero = refl
or_nothing (f ∷ fs) (suc i) = or_nothing fs i

pub next_field : (fields : List (List ℕ)) (place : ℕ) (h more : Heading) → place < length fields → Ok more ≡ field_given place h (get_or fields place [])
    → heading_from place h (drop place fields) ≡ heading_from (place + 1) more (drop (place + 1) fields)
unfolding heading_from
next_field fields place h more lt given =
    at_drop_more (heading_from place h) fields place [] lt
    ∙ ap (λ r. r >>= λ m. heading_from (place + 1) m (drop (place + 1) fields)) (sym given)

pub bad_field : (fields : List (List ℕ)) (place : ℕ) (h : Heading) (fault : HeadingFault) → place < length fields
    → Err fault ≡ field_given place h (get_or fields place []) → heading_from place h (drop place fields) ≡ Err fault
unfolding heading_from
bad_field fields place h fault lt given =
    at_drop_more (heading_from place h) fields place [] lt
    ∙ ap (λ r. r >>= λ m. heading_from (place + 1) m (drop (place + 1) fields)) (sym given)

pub all_fields : (fields : List (List ℕ)) (place count : ℕ) (h : Heading) → count ≡ length fields → length fields ≤ place → place ≤ count
    → heading_from place h (drop place fields) ≡ needed_in (field_number count) h
unfolding heading_from
all_fields fields place count h e le within =
    at_drop_all (heading_from place h) fields place le ∙ ap (λ n. needed_in (field_number n) h) (omega (arith, e, le, within))

-- the fields of a heading, one more of them
pub name_pushed : (names : List (List ℕ)) (place : ℕ) (text : List ℕ) → place < length names
    → ((text ++ codes ",") ++ get_or names place []) ++ names_after (drop (place + 1) names) ≡ text ++ names_after (drop place names)
unfolding names_after
name_pushed names place text lt =
    let name = get_or names place [] in
    let rest = names_after (drop (place + 1) names) in
    append_assoc (text ++ codes ",") name rest
    ∙ append_assoc text (codes ",") (name ++ rest)
    ∙ sym (ap (λ v. text ++ v) (at_drop_more names_after names place [] lt))

pub names_pushed : (names : List (List ℕ)) (place : ℕ) (text : List ℕ) → length names ≤ place → text ++ names_after (drop place names) ≡ text
unfolding names_after
names_pushed names place text le = ap (λ v. text ++ v) (at_drop_all names_after names place le) ∙ append-nil text
