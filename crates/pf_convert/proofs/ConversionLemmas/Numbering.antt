-- Texts of things that are numbered, one after another.
use Rattle.std.proofs.Common.{◌≡◌, ℕ, ◌+◌, ◌<◌, ◌≤◌, ◌∙◌, List, [], ◌∷◌, ◌++◌, take, drop, length, get_or, sym, ap, append_assoc, append-nil}
use Rattle.std.proofs.lemmas.List.{at_drop_more, at_drop_all, flat_map_more, take_more}
use Rattle.std.specs.List.{flat_map}
use Rattle.pf_convert.specs.Conversion.Script.{numbered}

pub one_written : {X : Type 0} (line : ℕ → X → List ℕ) (xs : List X) (place n : ℕ) (d : X) (text longer whole : List ℕ) → place < length xs
    → longer ≡ text ++ line n (get_or xs place d) → text ++ numbered line n (drop place xs) ≡ whole
    → longer ++ numbered line (n + 1) (drop (place + 1) xs) ≡ whole
unfolding numbered
one_written line xs place n d text longer whole lt e h =
    let x = get_or xs place d in
    let rest = numbered line (n + 1) (drop (place + 1) xs) in
    let step : numbered line n (drop place xs) ≡ line n x ++ rest = at_drop_more (numbered line n) xs place d lt in
    ap (λ v. v ++ rest) e ∙ append_assoc text (line n x) rest ∙ ap (λ v. text ++ v) (sym step) ∙ h

pub all_written : {X : Type 0} (line : ℕ → X → List ℕ) (xs : List X) (place n : ℕ) (text whole : List ℕ) → length xs ≤ place
    → text ++ numbered line n (drop place xs) ≡ whole → text ≡ whole
unfolding numbered
all_written line xs place n text whole le h =
    let end : numbered line n (drop place xs) ≡ [] = at_drop_all (numbered line n) xs place le in
    sym (append-nil text) ∙ ap (λ v. text ++ v) (sym end) ∙ h

pub one_more : {X A : Type 0} (f : X → List A) (xs : List X) (i : ℕ) (x : X) → i < length xs → x ≡ get_or xs i x
    → flat_map f (take i xs) ++ f x ≡ flat_map f (take (i + 1) xs)
one_more f xs i x lt is =
    flat_map_more f [] (take i xs) x ∙ ap (flat_map f) (sym (take_more xs i x lt ∙ ap (λ y. take i xs ++ y ∷ []) (sym is)))
