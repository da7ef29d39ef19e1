-- What a file has after its opening.
use Rattle.std.proofs.Common.{◌≡◌, ◌⊎◌, ℕ, Bool, List, [], ◌∷◌, ◌++◌, length, refl, sym, ◌∙◌, ap, arith, inl, inr}
use Rattle.std.proofs.lemmas.List.{append-nil}
use Rattle.pf_journal.specs.Crash.{IsBeforeOrAfter}
use Rattle.pf_journal.specs.Kept.{HasCause, IsUnkept}
use Rattle.pf_journal.specs.Recorder.Recording.{added_to, records_in}
use Rattle.pf_journal.specs.declared.journal_error.JournalError.{JournalError}
use Rattle.pf_journal.specs.declared.journal_error.JournalError.TheVariants.{OutOfMemory}
use Rattle.pf_journal.proofs.Adding.{cause_of}

pub added_new : (records : List (List ℕ)) (script : List ℕ) → length records ≡ 0 → added_to records script ≡ records_in script
added_new [] script none = refl
added_new (first ∷ rest) script none = absurd (omega (arith, none))

pub added_old : (records : List (List ℕ)) (script : List ℕ) → (length records ≡ 0 → ⊥) → records ≡ records ++ added_to records script
added_old [] script some = absurd (some refl)
added_old (first ∷ rest) script some = sym (append-nil (first ∷ rest))

pub same_choice : (before after more put : List (List ℕ)) (c : List ℕ) → before ≡ after → more ≡ put → IsBeforeOrAfter before more c
    → IsBeforeOrAfter after put c
same_choice before after more put c is same (inl none) = inl (none ∙ is)
same_choice before after more put c is same (inr all) =
    inr (all ∙ ap (λ (l : List (List ℕ)). l ++ more) is ∙ ap (λ (l : List (List ℕ)). after ++ l) same)

-- the lines of a script were not put into a file that was opened
pub unkept_of : {D : Type 0} (seen : D → List ℕ) (faults : D → ℕ) (is_clean : D → Bool) (bytes : List ℕ) (put lines : List (List ℕ)) (error : JournalError)
    (old mid new : D) → faults mid ≡ faults old → put ≡ lines → (error ≡ OutOfMemory) ⊎ HasCause seen faults is_clean put error mid new
    → IsUnkept seen faults is_clean bytes lines error old new
unkept_of seen faults is_clean bytes put lines error old mid new same is (inl memory) = inl memory
unkept_of seen faults is_clean bytes put lines error old mid new same is (inr cause) =
    inr (inr (rw (sym is) (cause_of seen faults is_clean put put error old mid new same (λ any. any) cause)))
