-- A room that is filled from its front.
use Rattle.std.proofs.Common.{◌≡◌, ◌<◌, ◌≤◌, ◌+◌, ℕ, List, [], ◌∷◌, ◌++◌, length, get_or, slice_set, map, take, drop, sym, ap, ◌∙◌, arith, append_assoc}
use Rattle.std.proofs.lemmas.List.{drop_more, map_more, length-map, length-take-le, set_at}

-- Use: one value more was written.
pub filled_more : {X Y : Type 0} (raw : X → Y) (list : List X) (before room : List Y) (k : ℕ) (x : X) (y : Y) → k < length list
    → length list ≤ length before → x ≡ get_or list k x → y ≡ raw x → room ≡ map raw (take k list) ++ drop k before
    → slice_set room k y ≡ map raw (take (k + 1) list) ++ drop (k + 1) before
filled_more raw list before room k x y within long read made so =
    let front = map raw (take k list) in
    let rest = drop (k + 1) before in
    let next = drop_more before k y (omega (arith, within, long)) in
    let so_long : length front ≡ k = length-map (take k list) raw ∙ length-take-le k list (omega (arith, within)) in
    let more : map raw (take (k + 1) list) ≡ front ++ y ∷ [] =
    map_more raw list k x within ∙ ap (λ z. front ++ raw z ∷ []) (sym read) ∙ ap (λ z. front ++ z ∷ []) (sym made) in
    ap (λ r. slice_set r k y) (so ∙ ap (λ r. front ++ r) next)
    ∙ set_at front (get_or before k y) rest y k so_long
    ∙ sym (append_assoc front (y ∷ []) rest)
    ∙ ap (λ r. r ++ rest) (sym more)
