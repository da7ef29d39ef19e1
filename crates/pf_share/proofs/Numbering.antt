-- Entries beside their callers' numbers.
use Rattle.std.proofs.Common.{◌≡◌, ℕ, suc, List, [], ◌∷◌, ◌++◌, length, refl, sym, ap, ◌∙◌}
use mathlib.Core.List.{IsPrefix}
use Rattle.pf_desk.specs.declared.entry.Entry.{Entry}
use Rattle.pf_share.specs.Histories.{numbered, entries_of}

pub entries_numbered : (log : List Entry) → entries_of (numbered log) ≡ log
entries_numbered [] = refl
entries_numbered (e ∷ log) = ap (λ l. e ∷ l) (entries_numbered log)

pub length_numbered : (log : List Entry) → length (numbered log) ≡ length log
length_numbered [] = refl
length_numbered (e ∷ log) = ap suc (length_numbered log)

pub entries_append : (xs ys : List (ℕ × Entry)) → entries_of (xs ++ ys) ≡ entries_of xs ++ entries_of ys
entries_append [] ys = refl
entries_append (x ∷ xs) ys = ap (λ l. x.1 ∷ l) (entries_append xs ys)

pub numbered_append : (xs ys : List Entry) → numbered (xs ++ ys) ≡ numbered xs ++ numbered ys
numbered_append [] ys = refl
numbered_append (x ∷ xs) ys = ap (λ l. (x.caller, x) ∷ l) (numbered_append xs ys)

pub entries_prefix : (xs ys : List (ℕ × Entry)) → IsPrefix xs ys → IsPrefix (entries_of xs) (entries_of ys)
entries_prefix xs ys p = (entries_of p.0, sym (entries_append xs p.0) ∙ ap entries_of p.1)
