-- Searches through lists, and the tasks inside after events in force.
use Rattle.std.proofs.Common.{◌≡◌, ℕ, ◌==◌, Bool, true, false, not, Option, None, Some, List, [], ◌∷◌, cond, find, filter_map, refl, sym, ap, ◌∙◌}
use Rattle.std.specs.List.{cons_option}
use Rattle.std.specs.Option.{option_and_then}
use Rattle.std.proofs.lemmas.Bool.{eqb-true}
use Rattle.pf_lemmas.proofs.Finding.{missed_any, find-filter}
use Rattle.pf_weight.specs.Share.{share_of}
use Rattle.pf_scenario.specs.Event.{is_join_of, is_leave_of}
use Rattle.pf_scenario.specs.declared.event.Event.{Event}
use Rattle.pf_scenario.specs.declared.event.Event.TheVariants.{Join, Leave, Delay, Limit}
use Rattle.pf_scenario.specs.declared.event.Numbered.{Numbered}
use Rattle.pf_run.specs.Inside.{Joined, joined_by, join_of, has_left, inside}
use Rattle.pf_notes.specs.Absence.{join_among, leave_among}
use Rattle.pf_notes.specs.Point.{joined_at}

brings : (base task : ℕ) (x : Numbered) (event : Event) (js : List Joined) (o : Option Numbered) → event ≡ x.event →
    find (λ j. j.task == task) js ≡ option_and_then (join_of base) o →
    find (λ j. j.task == task) (cons_option (joined_by base event) js) ≡ option_and_then (join_of base) (cond (is_join_of task event) (Some x) o)
brings base task x (Join slot task' cost period early) js o is e = one (task' == task)
  where
    j : Joined
    j = record { task = task'; slot = slot; weight = share_of base cost period; early = early }

    one : (b : Bool) → cond b (Some j) (find (λ j. j.task == task) js) ≡ option_and_then (join_of base) (cond b (Some x) o)
    one true = ap (joined_by base) is
    one false = e
brings base task x (Leave slot task') js o is e = e
brings base task x (Delay slot task' by) js o is e = e
brings base task x (Limit slot count) js o is e = e

-- the task among those that joined
joined_first : (base task : ℕ) (xs : List Numbered) →
    find (λ j. j.task == task) (filter_map (join_of base) xs) ≡ option_and_then (join_of base) (join_among task xs)
joined_first base task [] = refl
joined_first base task (x ∷ xs) =
    brings base task x x.event (filter_map (join_of base) xs) (join_among task xs) refl (joined_first base task xs)

joined_is : (base task : ℕ) (xs : List Numbered) →
    joined_at base xs task ≡ cond (not (has_left xs task)) (option_and_then (join_of base) (join_among task xs)) None
unfolding inside
joined_is base task xs =
    find-filter (λ j. j.task == task) (λ j. not (has_left xs j.task)) (not (has_left xs task))
    (λ j is. ap (λ t. not (has_left xs t)) (eqb-true j.task task is)) (filter_map (join_of base) xs)
    ∙ ap (λ o. cond (not (has_left xs task)) o None) (joined_first base task xs)

-- Use: a task with no leave is inside where it joined.
pub joined_stays : (base task : ℕ) (xs : List Numbered) → leave_among task xs ≡ None →
    option_and_then (join_of base) (join_among task xs) ≡ joined_at base xs task
joined_stays base task xs none =
    sym (joined_is base task xs
    ∙ ap (λ b. cond (not b) (option_and_then (join_of base) (join_among task xs)) None) (missed_any (λ x. is_leave_of task x.event) xs none))
