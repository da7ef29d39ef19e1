-- A journal at rest opens.
use Rattle.std.proofs.Common.{ℕ, Bool, IsTrue, List, [], ◌∷◌, refl, sym, subst}
use Rattle.std.specs.Cmp.Derive.{both_true}
use Rattle.pf_journal.specs.Crash.{IsAtRest, IsOpenable}
use Rattle.pf_journal.specs.Kept.{IsKept}
use Rattle.pf_journal.specs.declared.journal.Journal.{Journal}
use Rattle.pf_journal.proofs.States.{opens}

-- Use: whatever is known of its records.
pub rest_opens : (file : List ℕ) (gate : ℕ) → IsAtRest file gate → IsOpenable file
rest_opens file gate rest = opens rest.records (35 ∷ []) file (both_true refl rest.texts) refl refl rest.is

-- Use: so does what a crash leaves of one that is kept.
pub kept_opens : {D : Type 0} (seen : D → List ℕ) (may_leave : D → List ℕ → Type 0) (is_usable is_clean : D → Bool) (journal : Journal D)
    → IsKept seen may_leave is_usable is_clean journal → IsTrue (is_clean journal.disk) → (c : List ℕ) → may_leave journal.disk c → IsOpenable c
kept_opens seen may_leave is_usable is_clean journal kept clean c may =
    subst IsOpenable (sym (kept.settled.durable clean c may)) (rest_opens (seen journal.disk) journal.size (kept.at_rest clean))
