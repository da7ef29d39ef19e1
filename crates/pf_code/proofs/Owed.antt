-- What the tasks of a run are owed in the slots of a base, and of the span that is sought.
use Rattle.std.proofs.Common.{◌≡◌, ◌∙◌, ℕ, suc, zero, ◌+◌, ◌*◌, ◌%◌, ◌≤◌, ◌&&◌, true, Option, None, Some, List, [], ◌∷◌, find, filter_map, All, Contains, refl, sym, ap, ap₂, subst, arith}
use Rattle.std.specs.Int.{◌∣◌}
use Rattle.std.specs.List.{range_with_len}
use Rattle.std.specs.Option.{unwrap_or}
use Rattle.std.proofs.Math.Nat.{dvd-mul_left}
use Rattle.std.proofs.lemmas.Bool.{and_parts, eqb-true, eq-eqb}
use Rattle.std.proofs.lemmas.List.Elements.{All-cons, All-contains_itself, All-head, All-nil, All-tail, All-weaker}
use Rattle.std.proofs.lemmas.List.Sorted.{All-permutation, IsPermutation-sym}
use Rattle.std.proofs.lemmas.Nat.Gcd.{mod-eq-zero_of_dvd}
use Rattle.pf_lemmas.proofs.Finding.{found_all, found_passes}
use Rattle.pf_scenario.proofs.Sorting.{sorted_keeps}
use Rattle.pf_scenario.specs.Scenario.{Plan}
use Rattle.pf_scenario.specs.Edit.{IsScenario}
use Rattle.pf_scenario.specs.declared.event.Numbered.{Numbered}
use Rattle.pf_run.specs.Computed.{run_of}
use Rattle.pf_run.specs.Inside.{Joined, join_of}
use Rattle.pf_run.specs.Run.{events_in_force}
use Rattle.pf_run.specs.Record.{Slot}
use Rattle.pf_tally.specs.Lags.{by_task, task_cmp}
use Rattle.pf_tally.specs.Ledger.{IsLedger}
use Rattle.pf_tally.specs.declared.ledger.Ledger.{Ledger}
use Rattle.pf_laws.specs.Repetition.Synchronous.{IsSpan, tasks_in}
use Rattle.pf_laws.proofs.PromiseLemmas.Joining.{is_task}
use Rattle.pf_code.specs.Span.{are_owed_whole, is_owed_whole, least_span}

abbrev IsOwed : ℕ → Joined → Type 0
IsOwed span j = is_owed_whole span j.weight ≡ true

all_to : (span : ℕ) (tasks : List Joined) → All (IsOwed span) tasks → are_owed_whole tasks span ≡ true
all_to span [] all = refl
all_to span (j ∷ js) all =
    ap (λ b. b && are_owed_whole js span) (All-head (IsOwed span) j js all) ∙ all_to span js (All-tail (IsOwed span) j js all)

all_from : (span : ℕ) (tasks : List Joined) → are_owed_whole tasks span ≡ true → All (IsOwed span) tasks
all_from span [] is = All-nil (IsOwed span)
all_from span (j ∷ js) is =
    let parts = and_parts (is_owed_whole span j.weight) (are_owed_whole js span) is in
    All-cons (IsOwed span) j js parts.0 (all_from span js parts.1)

-- Use: each task of a run is owed whole quanta in as many slots as the base.
pub base_is_owed : (s : Plan) (r : List Slot) → IsScenario s → are_owed_whole (by_task (tasks_in s r)) s.settings.base ≡ true
base_is_owed s r scenario =
    all_to s.settings.base (by_task (tasks_in s r))
    (All-permutation (IsOwed s.settings.base) (tasks_in s r) (by_task (tasks_in s r)) (sorted_keeps task_cmp (tasks_in s r))
    (All-weaker (Contains (tasks_in s r)) (IsOwed s.settings.base)
    (λ j at.
    let task = is_task s scenario r j at in
    eq-eqb (j.weight.cost * s.settings.base % j.weight.period) 0
    (mod-eq-zero_of_dvd j.weight.period (subst (λ n. j.weight.period ∣ n) task.exact (dvd-mul_left j.weight.period j.weight.units))))
    (tasks_in s r) (All-contains_itself (tasks_in s r))))

from_one : (a n : ℕ) → 1 ≤ a → All (λ k. 1 ≤ k) (range_with_len a n)
from_one a zero some = All-nil (λ k. 1 ≤ k)
from_one a (suc n) some = All-cons (λ k. 1 ≤ k) a (range_with_len (a + 1) n) some (from_one (a + 1) n (omega arith))

pub record IsOwedWhole (tasks : List Joined) (span : ℕ) : Type 0 where
  pub some : 1 ≤ span
  pub whole : are_owed_whole tasks span ≡ true

-- what is sought owes whole quanta
least_is_owed : (base : ℕ) (tasks : List Joined) → 1 ≤ base → are_owed_whole tasks base ≡ true → IsOwedWhole tasks (least_span base tasks)
least_is_owed base tasks some whole = by (find (are_owed_whole tasks) (range_with_len 1 base)) refl
  where
    by : (o : Option ℕ) → find (are_owed_whole tasks) (range_with_len 1 base) ≡ o → IsOwedWhole tasks (unwrap_or o base)
    by None is = record { some = some; whole = whole }
    by (Some k) is = record {
      some = found_all (are_owed_whole tasks) (λ i. 1 ≤ i) (range_with_len 1 base) k is (from_one 1 base (omega arith));
      whole = found_passes (are_owed_whole tasks) (range_with_len 1 base) k is;
    }

-- Use: it is a span.
pub least_is_span : (s : Plan) (r : List Slot) → IsScenario s → IsSpan s r (least_span s.settings.base (by_task (tasks_in s r)))
least_is_span s r scenario =
    let tasks = by_task (tasks_in s r) in
    let span : ℕ = least_span s.settings.base tasks in
    let is = least_is_owed s.settings.base tasks scenario.settings.limits.base.some (base_is_owed s r scenario) in
    record {
      some = is.some;
      whole = All-weaker (IsOwed span) (λ j. j.weight.cost * span % j.weight.period ≡ 0)
          (λ j owed. eqb-true (j.weight.cost * span % j.weight.period) 0 owed)
          (tasks_in s r)
          (All-permutation (IsOwed span) tasks (tasks_in s r) (IsPermutation-sym (tasks_in s r) tasks (sorted_keeps task_cmp (tasks_in s r)))
          (all_from span tasks is.whole));
    }

-- Use: the tasks of a ledger are those of its run.
pub admitted_is : (s : Plan) (n : ℕ) (ledger : Ledger) (events : List Numbered) → IsLedger s n ledger → events ≡ ledger.events.items →
    by_task (filter_map (join_of ledger.settings.base) events) ≡ by_task (tasks_in s (run_of s n))
admitted_is s n ledger events known are =
    ap₂ (λ b xs. by_task (filter_map (join_of b) xs)) (ap (λ t. t.base) known.settings)
    (are ∙ known.events ∙ ap (events_in_force s (run_of s n)) (sym known.slots))
