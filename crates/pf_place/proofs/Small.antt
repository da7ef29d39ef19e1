-- Places in small: a word gives back its place, and equal words are equal places.
use Rattle.std.proofs.Common.{◌≡◌, Option, Some, None, List, [], ◌∷◌, true, false, eqb, ap₂, sym, refl}
use Rattle.std.specs.Cmp.{first_so, second_so}
use Rattle.std.specs.Cmp.Lexicographic.{pointwise}
use Rattle.std.specs.Option.{option_eq}
use Rattle.std.proofs.lemmas.Bool.{eqb-true}
use Rattle.pf_order.specs.declared.pick.Pick.{Pick}
use Rattle.pf_place.specs.Same.{same_pick}

-- places that are found equal are equal
same_place : (x y : Option Pick) → option_eq same_pick x y ≡ true → y ≡ x
same_place None None is = refl
same_place None (Some q) is = absurd (let no : false ≡ true = is in cc)
same_place (Some p) None is = absurd (let no : false ≡ true = is in cc)
same_place (Some p) (Some q) is =
    let task = eqb-true p.task q.task (first_so (eqb p.task q.task) (eqb p.sub q.sub) is) in
    let sub = eqb-true p.sub q.sub (second_so (eqb p.task q.task) (eqb p.sub q.sub) is) in
    ap₂ (λ task sub. Some (let pick : Pick = record { task = task; sub = sub } in pick)) (sym task) (sym sub)

pub same_places : (xs ys : List (Option Pick)) → pointwise (option_eq same_pick) xs ys ≡ true → ys ≡ xs
same_places [] [] is = refl
same_places [] (y ∷ ys) is = absurd (let no : false ≡ true = is in cc)
same_places (x ∷ xs) [] is = absurd (let no : false ≡ true = is in cc)
same_places (x ∷ xs) (y ∷ ys) is =
    ap₂ (λ first others. first ∷ others)
    (same_place x y (first_so (option_eq same_pick x y) (pointwise (option_eq same_pick) xs ys) is))
    (same_places xs ys (second_so (option_eq same_pick x y) (pointwise (option_eq same_pick) xs ys) is))
