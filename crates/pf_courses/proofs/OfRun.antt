-- The rows and the denials of a run, where a call takes them by its arguments.
use Rattle.std.proofs.Common.{◌≡◌, ◌∙◌, ℕ, List, Option, length, ap, sym, subst}
use Rattle.pf_order.specs.declared.pick.Pick.{Pick}
use Rattle.pf_scenario.specs.Scenario.{Plan}
use Rattle.pf_run.specs.declared.denied.Denied.{Denied}
use Rattle.pf_run.specs.RunRows.{AreOfRun}
use Rattle.pf_tally.specs.Ledger.{IsLedger}
use Rattle.pf_tally.specs.declared.ledger.Ledger.{Ledger}
use Rattle.pf_tally.proofs.Turns.{rows_length}
use Rattle.pf_courses.specs.Listing.{counts_of, listings_of}

pub length-rows : {s : Plan} {n : ℕ} {rows : List (List (Option Pick))} {denials : List Denied} → AreOfRun s n rows denials → length rows ≡ n
length-rows {s} {n} are = ap length are.are_rows ∙ rows_length s n are.scenario

-- those of a run of n slots, and the same by the arguments of a call
module _ {s s' : Plan} {n : ℕ} {rows rows' : List (List (Option Pick))} {denials denials' : List Denied} (are : AreOfRun s n rows denials)
    (same_plan : s' ≡ s) (same_rows : rows' ≡ rows) (same_denials : denials' ≡ denials) where
  long : length rows' ≡ n
  long = ap length same_rows ∙ length-rows are

  pub of_run : AreOfRun s' (length rows') rows' denials'
  of_run =
      subst (λ x. AreOfRun x (length rows') rows' denials') (sym same_plan)
      (subst (λ m. AreOfRun s m rows' denials') (sym long)
      (subst (λ x. AreOfRun s n x denials') (sym same_rows)
      (subst (λ x. AreOfRun s n rows x) (sym same_denials) are)))

  -- the ledger that was made of them
  pub ledger_of : (ledger : Ledger) → IsLedger s' (length rows') ledger → IsLedger s n ledger
  ledger_of ledger known = subst (λ m. IsLedger s m ledger) long (subst (λ x. IsLedger x (length rows') ledger) same_plan known)

  pub same_listings : listings_of s' (length rows') rows' denials' ≡ listings_of s n rows denials
  same_listings = λ k. listings_of (same_plan k) (long k) (same_rows k) (same_denials k)

  pub same_counts : counts_of s' (length rows') rows' ≡ counts_of s n rows
  same_counts = λ k. counts_of (same_plan k) (long k) (same_rows k)
