-- What differs between two tables, by key.
use Rattle.std.specs.Prelude.{ℕ, Bool, true, false, not, ◌==◌, Option, None, Some, List, [], ◌∷◌, map, filter}
use Rattle.std.specs.declared.cmp.Ordering.{Ordering}
use Rattle.std.specs.Ordering.{nat_cmp, int_eq, ordering_then}
use Rattle.std.specs.Map.{keys_of, lookup}
use Rattle.std.specs.BTreeMap.{insert_entry, is_at}
use Rattle.pf_admit.specs.Refusals.{denial_code}
use Rattle.pf_diff.specs.declared.finding.Finding.{Finding}
use Rattle.pf_diff.specs.declared.finding.Finding.TheVariants.{Lag, Ran, Never, Denied}
use Rattle.pf_diff.specs.declared.cell.Cell.{Cell}
use Rattle.pf_diff.specs.declared.change.Change.{Change}

-- keys go by their first number, then by their second
abbrev pub key_cmp : ℕ × ℕ → ℕ × ℕ → Ordering
key_cmp x y = ordering_then (nat_cmp x.0 y.0) (nat_cmp x.1 y.1)

-- a table by key with these cells more; of two with one key the later stands
abbrev pub noted : List ((ℕ × ℕ) × Finding) → List Cell → List ((ℕ × ℕ) × Finding)
noted table [] = table
noted table (c ∷ cs) = noted (insert_entry key_cmp table (c.first, c.second) c.finding) cs

-- these cells as a table by key
abbrev pub by_key : List Cell → List ((ℕ × ℕ) × Finding)
by_key cells = noted [] cells

-- what a table by key has at a key
abbrev pub finding_at : List ((ℕ × ℕ) × Finding) → ℕ × ℕ → Option Finding
finding_at table key = lookup (is_at (key_cmp key)) table

-- nothing is found twice, or the same
abbrev pub same_finding : Option Finding → Option Finding → Bool
same_finding None None = true
same_finding (Some (Lag x)) (Some (Lag y)) = int_eq x y
same_finding (Some (Ran x)) (Some (Ran y)) = x == y
same_finding (Some Never) (Some Never) = true
same_finding (Some (Denied x)) (Some (Denied y)) = denial_code x == denial_code y
same_finding x y = false

-- what two tables have at a key
abbrev pub change_at : List ((ℕ × ℕ) × Finding) → List ((ℕ × ℕ) × Finding) → ℕ × ℕ → Change
change_at before after key =
    record { first = key.0; second = key.1; before = finding_at before key; after = finding_at after key }

abbrev pub is_change : Change → Bool
is_change change = not (same_finding change.before change.after)

-- for each key of the one or the other, in order, what the two have there, where it differs
unfoldable pub changes_of : List Cell → List Cell → List Change
changes_of before after =
    filter is_change (map (change_at (by_key before) (by_key after)) (keys_of (noted (by_key before) after)))
