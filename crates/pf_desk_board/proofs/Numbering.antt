-- Entries beside their callers' numbers.
use Rattle.std.proofs.Common.{◌≡◌, List, [], ◌∷◌, ◌++◌, refl, ap}
use Rattle.pf_desk.specs.declared.entry.Entry.{Entry}
use Rattle.pf_desk_board.specs.Histories.{numbered, entries_of}

pub entries_numbered : (log : List Entry) → entries_of (numbered log) ≡ log
entries_numbered [] = refl
entries_numbered (e ∷ log) = ap (λ l. e ∷ l) (entries_numbered log)

pub numbered_append : (xs ys : List Entry) → numbered (xs ++ ys) ≡ numbered xs ++ numbered ys
numbered_append [] ys = refl
numbered_append (x ∷ xs) ys = ap (λ l. (x.caller, x) ∷ l) (numbered_append xs ys)
