-- On which processors a task runs.
use Rattle.std.proofs.Common.{◌≡◌, ℕ, ◌+◌, ◌<◌, ◌≤◌, ◌==◌, cond, Option, None, Some, List, [], ◌∷◌, ◌++◌, length, take, get_or, append_assoc, sym, ap, ◌∙◌, arith}
use Rattle.std.proofs.lemmas.List.{append-nil, flat_map_more, length-take-le, take_more}
use Rattle.pf_order.specs.declared.pick.Pick.{Pick}
use Rattle.pf_place.specs.Occupancy.{sitter}
use Rattle.pf_collections.specs.Table.Lists.{noted_of}
use Rattle.pf_tally.specs.Figures.{is_of, processors_in}
use Rattle.pf_tally.specs.Quanta.{places_from}
use Rattle.pf_tally.proofs.Places.{places_push}

place_more : (row : List (Option Pick)) (p : ℕ) (o : Option Pick) (task : ℕ) → p < length row → o ≡ sitter row p →
    places_from (is_of task) 0 (take (p + 1) row) ≡ places_from (is_of task) 0 (take p row) ++ cond (is_of task o) (p ∷ []) []
place_more row p o task within is =
    ap (places_from (is_of task) 0) (take_more row p None within)
    ∙ places_push (is_of task) 0 p (take p row) (get_or row p None) (omega (arith, length-take-le p row (let h : p ≤ length row = omega arith in h)))
    ∙ ap (λ o. places_from (is_of task) 0 (take p row) ++ cond (is_of task o) (p ∷ []) []) (sym is)

-- an idle place
pub idle_place : (old new : List (List ℕ)) (row : List (Option Pick)) (p : ℕ) → p < length row → None ≡ sitter row p →
    ((task : ℕ) → noted_of new task ≡ noted_of old task ++ places_from (is_of task) 0 (take p row)) →
    (task : ℕ) → noted_of new task ≡ noted_of old task ++ places_from (is_of task) 0 (take (p + 1) row)
idle_place old new row p within is before task =
    before task ∙ ap (λ ps. noted_of old task ++ ps) (sym (place_more row p None task within is ∙ append-nil (places_from (is_of task) 0 (take p row))))

-- a place with a pick
pub pick_place : (old new after : List (List ℕ)) (row : List (Option Pick)) (p : ℕ) (pick : Pick) → p < length row → Some pick ≡ sitter row p →
    ((task : ℕ) → noted_of new task ≡ noted_of old task ++ places_from (is_of task) 0 (take p row)) →
    ((task : ℕ) → noted_of after task ≡ noted_of new task ++ cond (pick.task == task) (p ∷ []) []) →
    (task : ℕ) → noted_of after task ≡ noted_of old task ++ places_from (is_of task) 0 (take (p + 1) row)
pick_place old new after row p pick within is before noted task =
    noted task
    ∙ ap (λ ps. ps ++ cond (pick.task == task) (p ∷ []) []) (before task)
    ∙ append_assoc (noted_of old task) (places_from (is_of task) 0 (take p row)) (cond (pick.task == task) (p ∷ []) [])
    ∙ ap (λ ps. noted_of old task ++ ps) (sym (place_more row p (Some pick) task within is))

-- one more row
pub row_placed : (rows : List (List (Option Pick))) (old new : List (List ℕ)) (row : List (Option Pick)) (t : ℕ) → t < length rows → get_or rows t row ≡ row →
    ((task : ℕ) → noted_of old task ≡ processors_in (take t rows) task) →
    ((task : ℕ) → noted_of new task ≡ noted_of old task ++ places_from (is_of task) 0 row) →
    (task : ℕ) → noted_of new task ≡ processors_in (take (t + 1) rows) task
row_placed rows old new row t within is before more task =
    more task
    ∙ ap (λ ps. ps ++ places_from (is_of task) 0 row) (before task)
    ∙ flat_map_more (λ row. places_from (is_of task) 0 row) [] (take t rows) row
    ∙ ap (λ rows. processors_in rows task) (sym (take_more rows t row within ∙ ap (λ row. take t rows ++ row ∷ []) is))
