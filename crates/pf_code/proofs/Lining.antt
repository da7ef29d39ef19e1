-- The lines of the tasks, one after another.
use Rattle.std.proofs.Common.{◌≡◌, ◌∙◌, ℕ, suc, zero, ◌+◌, ◌<◌, ◌≤◌, cond, List, [], ◌∷◌, ◌++◌, codes, length, drop, map, count_by, get_or, append_assoc, refl, sym, ap, ap₂, arith}
use Rattle.std.specs.Fmt.{decimal}
use Rattle.std.specs.Str.{bytes_eq}
use Rattle.std.proofs.lemmas.Bool.{le-ltb, lt-ltb}
use Rattle.std.proofs.lemmas.List.{at_drop_more, get_or-map, length-map}
use Rattle.pf_run.specs.Inside.{Joined}
use Rattle.pf_vocabulary.specs.declared.names.named.Named.{Named}
use Rattle.pf_code.specs.Tasks.{comma_before, lines_among, own_symbol, symbol_of, task_line}
use Rattle.pf_code.specs.declared.outline.Outline.{Outline}

-- what stands at a place of two lists that are mapped alike
pub own_is : {X : Type 0} (f : X → List ℕ) (symbols : List X) (g : Joined → List ℕ) (tasks : List Joined) (at : ℕ) (x : X) (j : Joined) →
    map f symbols ≡ map g tasks → at < length tasks → x ≡ get_or symbols at x → j ≡ get_or tasks at j → f x ≡ g j
own_is f symbols g tasks at x j same lt of_x of_j =
    let long : length symbols ≡ length tasks = sym (length-map symbols f) ∙ ap length same ∙ length-map tasks g in
    ap f of_x ∙ sym (get_or-map f symbols at x [] (omega (arith, lt, long))) ∙ ap (λ ts. get_or ts at []) same ∙ get_or-map g tasks at j [] lt
    ∙ ap g (sym of_j)

module _ (names : List Named) (tasks : List Joined) (j : Joined) (symbols : List (List ℕ)) (own : List ℕ) (count : ℕ)
    (are : symbols ≡ map (own_symbol names) tasks) (is : own ≡ own_symbol names j) (counted : count ≡ count_by (bytes_eq own) symbols) where
  counted_alike : count ≡ count_by (bytes_eq (own_symbol names j)) (map (own_symbol names) tasks)
  counted_alike = counted ∙ ap₂ (λ o ss. count_by (bytes_eq o) ss) is are

  -- the symbol of a task that is not alone with its own, and of one that is
  pub number_chosen : 1 < count → decimal j.task ≡ symbol_of names tasks j
  number_chosen many =
      sym (ap (λ b. cond b (decimal j.task) (own_symbol names j)) (lt-ltb 1 _ (omega (arith, many, counted_alike))))

  pub own_chosen : count ≤ 1 → own ≡ symbol_of names tasks j
  own_chosen few =
      is ∙ sym (ap (λ b. cond b (decimal j.task) (own_symbol names j)) (le-ltb 1 _ (omega (arith, few, counted_alike))))

pub comma_some : (tasks : List Joined) (k : ℕ) → k < length tasks → codes "," ≡ comma_before (drop k tasks)
comma_some [] k lt = absurd (omega (arith, lt))
comma_some (j ∷ js) zero lt = refl
comma_some (j ∷ js) (suc k) lt = comma_some js k (omega (arith, lt))

pub comma_none : (tasks : List Joined) (k : ℕ) → length tasks ≤ k → [] ≡ comma_before (drop k tasks)
comma_none [] zero le = refl
comma_none [] (suc k) le = refl
comma_none (j ∷ js) zero le = absurd (omega (arith, le))
comma_none (j ∷ js) (suc k) le = comma_none js k (omega (arith, le))

-- Use: one line further.
pub line_next : (capitals : List ℕ) (o : Outline) (names : List Named) (all : List Joined) (at : ℕ) (j : Joined) (old new symbol comma : List ℕ) →
    at < length all → j ≡ get_or all at j → symbol ≡ symbol_of names all j → comma ≡ comma_before (drop (at + 1) all) →
    new ≡ old ++ task_line capitals o names symbol j comma →
    new ++ lines_among capitals o names all (drop (at + 1) all) ≡ old ++ lines_among capitals o names all (drop at all)
line_next capitals o names all at j old new symbol comma lt of_j of_symbol of_comma is =
    let rest = lines_among capitals o names all (drop (at + 1) all) in
    let line = task_line capitals o names (symbol_of names all j) j (comma_before (drop (at + 1) all)) in
    ap (λ t. t ++ rest) (is ∙ ap₂ (λ s k. old ++ task_line capitals o names s j k) of_symbol of_comma)
    ∙ append_assoc old line rest
    ∙ ap (λ t. old ++ t)
    (sym (at_drop_more (lines_among capitals o names all) all at j lt
    ∙ ap (λ first. lines_among capitals o names all (first ∷ drop (at + 1) all)) (sym of_j)))
