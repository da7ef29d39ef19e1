-- A task's windows and lags, one more at a time.
use Rattle.std.proofs.Common.{◌≡◌, ℕ, ◌+◌, ◌-◌, ◌≤◌, Bool, true, false, cond, List, [], ◌∷◌, ◌++◌, map, count_by, sym, ap, ap₂, ◌∙◌, arith}
use Rattle.std.specs.Prelude.{not}
use Rattle.std.specs.List.{range_with_len}
use Rattle.std.proofs.lemmas.Bool.{cond-true, cond-false}
use Rattle.std.proofs.lemmas.List.{append-nil}
use Rattle.std.proofs.lemmas.List.FromFn.{map-range_with_len_more, filter_of_map_range_with_len_more}
use Rattle.std.proofs.lemmas.List.Sums.{sum_by_push}
use Rattle.pf_lemmas.proofs.Ranges.{range_more}
use Rattle.pf_run.specs.Inside.{Joined}
use Rattle.pf_tally.specs.Clock.{Stop, is_stopped}
use Rattle.pf_tally.specs.declared.held.Held.{Held}
use Rattle.pf_courses.specs.Built.{window_by, windows_by, clock_by}
use Rattle.pf_courses.specs.Course.{is_drawn}
use Rattle.pf_courses.specs.declared.window.Window.{Window}

-- one subtask more
module _ (j : Joined) (ran on : List ℕ) (held : List Held) (end : ℕ) where
  windows_step : (i : ℕ) → 1 ≤ i → windows_by j ran on held end (i + 1 - 1)
      ≡ windows_by j ran on held end (i - 1) ++ cond (is_drawn end (window_by j ran on held end i)) (window_by j ran on held end i ∷ []) []
  windows_step i some =
      ap (windows_by j ran on held end) (let z : i + 1 - 1 ≡ (i - 1) + 1 = omega arith in z)
      ∙ filter_of_map_range_with_len_more (is_drawn end) (window_by j ran on held end) 1 (i - 1) i (omega arith)

  pub windows_drawn : (before after : List Window) (i : ℕ) (w : Window) → 1 ≤ i → w ≡ window_by j ran on held end i → is_drawn end w ≡ true → after ≡ before ++ w ∷ [] →
      before ≡ windows_by j ran on held end (i - 1) → after ≡ windows_by j ran on held end (i + 1 - 1)
  windows_drawn before after i w some is drawn push so_far =
      let v = window_by j ran on held end i in
      push ∙ ap₂ (λ ws w. ws ++ w ∷ []) so_far is
      ∙ ap (λ ws. windows_by j ran on held end (i - 1) ++ ws) (sym (cond-true (is_drawn end v) (v ∷ []) [] (ap (is_drawn end) (sym is) ∙ drawn)))
      ∙ sym (windows_step i some)

  pub windows_not_drawn : (before after : List Window) (i : ℕ) (w : Window) → 1 ≤ i → w ≡ window_by j ran on held end i → is_drawn end w ≡ false → after ≡ before →
      before ≡ windows_by j ran on held end (i - 1) → after ≡ windows_by j ran on held end (i + 1 - 1)
  windows_not_drawn before after i w some is drawn same so_far =
      let v = window_by j ran on held end i in
      same ∙ so_far ∙ sym (append-nil (windows_by j ran on held end (i - 1)))
      ∙ ap (λ ws. windows_by j ran on held end (i - 1) ++ ws) (sym (cond-false (is_drawn end v) (v ∷ []) [] (ap (is_drawn end) (sym is) ∙ drawn)))
      ∙ sym (windows_step i some)

-- one slot more
pub clock_more : (j : Joined) (stops : List Stop) (t : ℕ) → j.slot ≤ t → clock_by j stops (t + 1) ≡ clock_by j stops t + cond (not (is_stopped stops t)) 1 0
clock_more j stops t joined =
    let n = t - j.slot in
    let runs : ℕ → Bool = λ u. not (is_stopped stops u) in
    ap (λ n. count_by runs (range_with_len j.slot n)) (let z : t + 1 - j.slot ≡ t - j.slot + 1 = omega arith in z)
    ∙ ap (count_by runs) (range_more j.slot n)
    ∙ sum_by_push (λ u. cond (runs u) 1 0) (range_with_len j.slot n) (j.slot + n)
    ∙ ap (λ u. clock_by j stops t + cond (runs u) 1 0) (let z : j.slot + (t - j.slot) ≡ t = omega arith in z)

pub cells_more : {X : Type 0} (f : ℕ → X) (a t : ℕ) → a ≤ t → map f (range_with_len a (t + 1 - a)) ≡ map f (range_with_len a (t - a)) ++ f t ∷ []
cells_more f a t joined =
    ap (λ n. map f (range_with_len a n)) (let z : t + 1 - a ≡ t - a + 1 = omega arith in z)
    ∙ map-range_with_len_more f a (t - a) t (omega arith)

pub clock_runs : (j : Joined) (stops : List Stop) (t clock after : ℕ) → j.slot ≤ t → clock ≡ clock_by j stops t → not (is_stopped stops t) ≡ true → after ≡ clock + 1 →
    after ≡ clock_by j stops (t + 1)
clock_runs j stops t clock after joined is runs next = omega (arith, next, is, clock_more j stops t joined, ap {B = ℕ} (λ b. cond b 1 0) runs)

pub clock_stands : (j : Joined) (stops : List Stop) (t clock after : ℕ) → j.slot ≤ t → clock ≡ clock_by j stops t → not (is_stopped stops t) ≡ false → after ≡ clock →
    after ≡ clock_by j stops (t + 1)
clock_stands j stops t clock after joined is stands next = omega (arith, next, is, clock_more j stops t joined, ap {B = ℕ} (λ b. cond b 1 0) stands)
