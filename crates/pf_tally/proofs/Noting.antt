-- Each row is noted of the tasks that sit in it.
use Rattle.std.proofs.Common.{◌≡◌, ◌≢◌, ℕ, zero, suc, ◌+◌, ◌<◌, ◌≤◌, true, false, ◌||◌, ◌==◌, cond, Option, None, Some, List, [], ◌∷◌, ◌++◌, length, take, get_or, All, Contains, ⊎_elim, refl, sym, ap, ap₂, ◌∙◌, subst, arith}
use Rattle.std.proofs.Math.Bool.{or-false}
use Rattle.std.specs.List.{slice_get}
use Rattle.std.specs.Option.{option_map_or}
use Rattle.std.proofs.lemmas.Bool.{cases_eq, ne_eqb, eq-eqb, or_from}
use Rattle.std.proofs.lemmas.Option.{get_or_from_slice_get}
use Rattle.std.proofs.lemmas.List.{append-nil, take_more, length-take-le}
use Rattle.std.proofs.lemmas.List.Folds.{list_any_more}
use Rattle.pf_order.specs.declared.pick.Pick.{Pick}
use Rattle.pf_place.specs.Occupancy.{sitter, sitters, is_seated, NoTaskTwice}
use Rattle.pf_run.proofs.Containing.{contains_head, contains_tail, pairs_head, pairs_tail}
use Rattle.pf_collections.specs.Table.Lists.{noted_of}
use Rattle.pf_tally.specs.Noted.{IsRow, AreNoted, IsTableOf}
use Rattle.pf_tally.proofs.Places.{places_push}

-- who sits on a place sits on none before it
sits_among : (row : List (Option Pick)) (p : ℕ) (pick : Pick) → p < length row → get_or row p None ≡ Some pick → Contains (sitters row) pick
sits_among [] p pick within is = absurd (omega arith)
sits_among (None ∷ row) zero pick within is = cc
sits_among (Some q ∷ row) zero pick within is = let same : q ≡ pick = cc in subst (Contains (q ∷ sitters row)) same (contains_head q (sitters row))
sits_among (None ∷ row) (suc p) pick within is = sits_among row p pick (omega arith) is
sits_among (Some q ∷ row) (suc p) pick within is = contains_tail q (sitters row) pick (sits_among row p pick (omega arith) is)

pub not_before : (row : List (Option Pick)) (p : ℕ) (pick : Pick) → NoTaskTwice (sitters row) → p < length row → get_or row p None ≡ Some pick →
    is_seated (take p row) pick.task ≡ false
not_before row zero pick once within is = refl
not_before [] (suc p) pick once within is = refl
not_before (None ∷ row) (suc p) pick once within is = not_before row p pick once (omega arith) is
not_before (Some q ∷ row) (suc p) pick once within is =
    or_from _ _
    (ne_eqb q.task pick.task (pairs_head (λ p q. p.task ≢ q.task) q (sitters row) pick once (sits_among row p pick (omega arith) is)))
    (not_before row p pick (pairs_tail (λ p q. p.task ≢ q.task) q (sitters row) once) (omega arith) is)

pub seated_more : (row : List (Option Pick)) (p : ℕ) (o : Option Pick) (task : ℕ) → p < length row → get_or row p None ≡ o →
    is_seated (take (p + 1) row) task ≡ (is_seated (take p row) task || option_map_or (λ q. q.task == task) o false)
seated_more row p o task within is =
    list_any_more (λ place. option_map_or (λ q. q.task == task) place false) row p None within
    ∙ ap (λ o. is_seated (take p row) task || option_map_or (λ q. q.task == task) o false) is

-- an idle place
pub idle_noted : (old new : List (List ℕ)) (row : List (Option Pick)) (t p : ℕ) → p < length row → None ≡ sitter row p →
    AreNoted old new (take p row) t → AreNoted old new (take (p + 1) row) t
idle_noted old new row t p within is before = record {
  each = λ task. before.each task
      ∙ ap (λ b. noted_of old task ++ cond b (t ∷ []) []) (sym (seated_more row p None task within (sym is) ∙ or-false (is_seated (take p row) task)));
}

-- a place with a pick
pub pick_noted : (old new : List (List ℕ)) (row : List (Option Pick)) (t p : ℕ) (pick : Pick) (after : List (List ℕ)) → NoTaskTwice (sitters row) →
    p < length row → Some pick ≡ sitter row p → AreNoted old new (take p row) t →
    ((task : ℕ) → noted_of after task ≡ noted_of new task ++ cond (pick.task == task) (t ∷ []) []) → AreNoted old after (take (p + 1) row) t
pick_noted old new row t p pick after once within is before noted = record {
  each = λ task. noted task ∙ ⊎_elim
      (λ same.
      let test = eq-eqb pick.task task same in
      let none : is_seated (take p row) task ≡ false = ap (is_seated (take p row)) (sym same) ∙ not_before row p pick once within (sym is) in
      let here : is_seated (take (p + 1) row) task ≡ true = seated_more row p (Some pick) task within (sym is) ∙ ap₂ (λ a b. a || b) none test in
      ap (λ b. noted_of new task ++ cond b (t ∷ []) []) test
      ∙ ap (λ xs. xs ++ t ∷ []) (before.each task ∙ ap (λ b. noted_of old task ++ cond b (t ∷ []) []) none ∙ append-nil (noted_of old task))
      ∙ ap (λ b. noted_of old task ++ cond b (t ∷ []) []) (sym here))
      (λ differ.
      let test = ne_eqb pick.task task differ in
      ap (λ b. noted_of new task ++ cond b (t ∷ []) []) test
      ∙ append-nil (noted_of new task)
      ∙ before.each task
      ∙ ap (λ b. noted_of old task ++ cond b (t ∷ []) [])
      (sym (seated_more row p (Some pick) task within (sym is) ∙ ap (λ b. is_seated (take p row) task || b) test ∙ or-false (is_seated (take p row) task))))
      (cases_eq pick.task task);
}

-- before any row, and after one more
pub no_table : (rows : List (List (Option Pick))) (table : List (List ℕ)) → ((task : ℕ) → noted_of table task ≡ []) → IsTableOf (take 0 rows) table
no_table rows table empty = record { each = empty }

pub table_more : (rows : List (List (Option Pick))) (old new : List (List ℕ)) (row : List (Option Pick)) (t : ℕ) → t < length rows → get_or rows t row ≡ row →
    IsTableOf (take t rows) old → AreNoted old new row t → IsTableOf (take (t + 1) rows) new
table_more rows old new row t within is table more =
    let P : List (List (Option Pick)) → Type 0 = λ rows. IsTableOf rows new in
    subst P (sym (take_more rows t row within ∙ ap (λ row. take t rows ++ row ∷ []) is)) (record {
      each = λ task.
          more.each task
          ∙ ap (λ slots. slots ++ cond (is_seated row task) (t ∷ []) []) (table.each task)
          ∙ sym (places_push (λ row. is_seated row task) 0 t (take t rows) row (omega (arith, length-take-le t rows (let h : t ≤ length rows = omega arith in h))));
    })

-- what a look-up gives
pub got_at : {X : Type 0} (xs : List X) (t : ℕ) (x : X) → Some x ≡ slice_get xs t → get_or xs t x ≡ x
got_at xs t x is = get_or_from_slice_get xs t x x (sym is)

pub got_none : {X : Type 0} (xs : List X) (t : ℕ) → t < length xs → None ≡ slice_get xs t → ⊥
got_none [] t within is = absurd (omega arith)
got_none (y ∷ xs) zero within is = cc
got_none (y ∷ xs) (suc t) within is = got_none xs t (omega arith) is

pub row_at : (m : ℕ) (rows : List (List (Option Pick))) (t : ℕ) (row : List (Option Pick)) → All (IsRow m) rows → t < length rows → get_or rows t row ≡ row → IsRow m row
row_at m rows t row all within is = let P : List (Option Pick) → Type 0 = IsRow m in subst P is (all t row within)
