-- How many processors are in use, one slot further.
use Rattle.std.proofs.Common.{◌≡◌, ℕ, suc, ◌+◌, ◌==◌, not, List, Option, length, map, filter, fold, refl, sym, ap, ap₂, ◌∙◌, arith}
use Rattle.std.specs.List.{list_any, range_with_len}
use Rattle.std.proofs.lemmas.List.Sums.{fold-append}
use Rattle.pf_order.specs.declared.pick.Pick.{Pick}
use Rattle.pf_scenario.specs.Scenario.{Plan, events_of, past}
use Rattle.pf_scenario.specs.declared.event.Numbered.{Numbered}
use Rattle.pf_run.specs.declared.denied.Denied.{Denied}
use Rattle.pf_run.specs.Record.{in_force}
use Rattle.pf_run.specs.Inside.{count_after, count_of}
use Rattle.pf_run.specs.RunRows.{AreOfRun, denials_in}
use Rattle.pf_tally.specs.Standing.{AreNumbersOf}
use Rattle.pf_tally.proofs.InForce.{kept_in_force, in_force-append}
use Rattle.pf_courses.specs.Built.{count_by_denials}
use Rattle.pf_courses.specs.Listing.{counts_of}

pub count_first : (m : ℕ) (s : Plan) (denials : List Denied) → m ≡ count_of m (in_force denials (past s 0))
unfolding count_of in_force
count_first m s denials = refl

-- the events of the next slot
pub count_more : (m : ℕ) (s : Plan) (denials : List Denied) (numbers used : List ℕ) (t before after : ℕ) (ys : List Numbered) → AreNumbersOf denials numbers → used ≡ numbers → ys ≡ events_of s t →
    after ≡ fold (λ count x. count_after count x.event) before (filter (λ x. not (list_any (λ n. n == x.id) used)) ys) →
    before ≡ count_of m (in_force denials (past s t)) → after ≡ count_of m (in_force denials (past s (t + 1)))
unfolding count_of
count_more m s denials numbers used t before after ys are same of_ys is so_far =
    let step : ℕ → Numbered → ℕ = λ count x. count_after count x.event in
    is
    ∙ ap₂ (fold step) so_far (ap (λ ns. filter (λ (x : Numbered). not (list_any (λ n. n == x.id) ns)) ys) same ∙ kept_in_force denials numbers ys are ∙ ap (in_force denials) of_ys)
    ∙ sym (fold-append step m (in_force denials (past s t)) (in_force denials (events_of s t)))
    ∙ ap (fold step m) (sym (in_force-append denials (past s t) (events_of s t)))
    ∙ ap (λ u. fold step m (in_force denials (past s u))) (let z : suc t ≡ t + 1 = omega arith in z)

-- Use: they are those of the definition.
pub counts_are : (s : Plan) (n m : ℕ) (rows : List (List (Option Pick))) (denials : List Denied) → m ≡ length rows → AreOfRun s n rows denials →
    map (count_by_denials s denials) (range_with_len 0 m) ≡ counts_of s n rows
unfolding denials_in
counts_are s n m rows denials of_rows are =
    ap₂ (λ ds k. map (λ t. count_of s.settings.processors (in_force ds (past s (t + 1)))) (range_with_len 0 k)) are.are_denials of_rows
