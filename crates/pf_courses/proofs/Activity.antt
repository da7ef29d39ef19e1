-- What the cuts of a task's windows say of what it does in a slot.
use Rattle.std.proofs.Common.{◌≡◌, ℕ, ◌+◌, ◌<◌, ◌≤◌, Bool, true, false, ◌&&◌, ◌||◌, ◌==◌, nat_lt, nat_le, cond, List, [], ◌∷◌, Option, None, Some, length, get_or, find, refl, sym, ap, ap₂, ◌∙◌, arith}
use Rattle.std.specs.Prelude.{not, max, min, is_some}
use Rattle.std.specs.List.{list_any, slice_get}
use Rattle.std.specs.Option.{option_map_or, option_and_then}
use Rattle.std.specs.List.Sorted.{IsPartitionedBy}
use Rattle.std.proofs.lemmas.Bool.{cond-true, cond-false, le-ltb}
use Rattle.std.proofs.lemmas.Bool.Decides.{nat_tests}
use Rattle.pf_tally.specs.Clock.{Stop, is_stopped}
use Rattle.pf_courses.specs.Activity.{covers, running_in, is_behind, is_waiting}
use Rattle.pf_courses.specs.Course.{Track}
use Rattle.pf_courses.specs.Cut.{IsCut}
use Rattle.pf_courses.specs.Windows.{ran_below, processor_in}
use Rattle.pf_courses.specs.declared.window.Window.{Window}
use Rattle.pf_courses.specs.declared.quantum.Quantum.{Quantum}
use Rattle.pf_courses.proofs.Cuts.{any_between, find_behind, cut_either, kept, got_past, got_here}

-- slot t is before the end
not_over : (t d : ℕ) → nat_lt t d ≡ not (nat_le d t)
not_over t d = grind (arith, nat_tests)

pub stopped_between : (t : ℕ) (stops : List Stop) (a b : ℕ) → IsCut (λ s. nat_le s.start t) a stops → IsCut (λ s. nat_le s.end t) b stops → nat_lt b a ≡ is_stopped stops t
stopped_between t stops a b begun ended =
    sym (ap (λ f. list_any f stops) (λ k s. nat_le s.start t && not_over t s.end k) ∙ any_between (λ s. nat_le s.start t) (λ s. nat_le s.end t) stops a b begun ended)

runs_is : (t : ℕ) (w : Window) → is_some (processor_in t w) ≡ (ran_below (t + 1) w && not (ran_below t w))
runs_is t w = of_quantum w.ran
  where
    some_if : (b : Bool) (p : ℕ) → is_some (cond b (Some p) None) ≡ b
    some_if true p = refl
    some_if false p = refl

    only : (n : ℕ) → (n == t) ≡ (nat_lt n (t + 1) && not (nat_lt n t))
    only n = grind (arith, nat_tests)

    of_quantum : (o : Option Quantum) → is_some (option_and_then (λ q. cond (q.slot == t) (Some q.processor) None) o)
        ≡ (option_map_or (λ q. nat_lt q.slot (t + 1)) o false && not (option_map_or (λ q. nat_lt q.slot t) o false))
    of_quantum None = refl
    of_quantum (Some q) = some_if (q.slot == t) q.processor ∙ only q.slot

-- the subtask that runs in slot t is the first that did not run before
pub running_behind : (track : Track) (t b : ℕ) → IsPartitionedBy (ran_below (t + 1)) track.windows → IsCut (ran_below t) b track.windows →
    running_in track t ≡ kept (λ w. is_some (processor_in t w)) (slice_get track.windows b)
running_behind track t b parted done =
    ap (λ f. find f track.windows) (λ k w. runs_is t w k)
    ∙ find_behind (ran_below (t + 1)) (ran_below t) track.windows b parted done
    ∙ ap (λ f. kept f (slice_get track.windows b)) (λ k w. sym (runs_is t w) k)

module _ (track : Track) (t b : ℕ) (parted : IsPartitionedBy (ran_below (t + 1)) track.windows) (done : IsCut (ran_below t) b track.windows) where
  pub runs_none : length track.windows ≤ b → None ≡ running_in track t
  runs_none over = sym (running_behind track t b parted done ∙ ap (kept (λ w. is_some (processor_in t w))) (got_past track.windows b over))

  found_next : (w : Window) → b < length track.windows → w ≡ get_or track.windows b w → running_in track t ≡ cond (is_some (processor_in t w)) (Some w) None
  found_next w within is = running_behind track t b parted done ∙ ap (kept (λ w. is_some (processor_in t w))) (got_here track.windows b w within is)

  pub runs_next : (w : Window) → b < length track.windows → w ≡ get_or track.windows b w → is_some (processor_in t w) ≡ true → Some w ≡ running_in track t
  runs_next w within is runs = sym (found_next w within is ∙ cond-true (is_some (processor_in t w)) (Some w) None runs)

  pub runs_not : (w : Window) → b < length track.windows → w ≡ get_or track.windows b w → is_some (processor_in t w) ≡ false → None ≡ running_in track t
  runs_not w within is runs = sym (found_next w within is ∙ cond-false (is_some (processor_in t w)) (Some w) None runs)

pub behind_between : (track : Track) (t a b : ℕ) → IsCut (λ w. nat_le w.deadline t) a track.windows → IsCut (ran_below t) b track.windows → nat_lt b a ≡ is_behind track t
behind_between track t a b due done = sym (any_between (λ w. nat_le w.deadline t) (ran_below t) track.windows a b due done)

-- while the task is inside, a window covers slot t where it is released and not due by then
pub covers_is : (track : Track) (t : ℕ) → t < track.end → (w : Window) → covers track t w ≡ (nat_le w.release t && not (nat_le w.deadline t))
covers_is track t inside w = ap (λ b. nat_le w.release t && b) (let z : nat_lt t (min w.deadline track.end) ≡ not (nat_le w.deadline t) = grind (arith, nat_tests) in z)

pub covers_none : (track : Track) (t : ℕ) → track.end ≤ t → (w : Window) → covers track t w ≡ false
covers_none track t over w = none (nat_le w.release t) (nat_lt t (min w.deadline track.end)) (le-ltb t (min w.deadline track.end) (omega arith))
  where
    none : (a b : Bool) → b ≡ false → (a && b) ≡ false
    none true b f = f
    none false b f = refl

pub waiting_between : (track : Track) (t a b d : ℕ) → t < track.end → IsCut (λ w. nat_le w.release t) a track.windows → IsCut (ran_below (t + 1)) b track.windows →
    IsCut (λ w. nat_le w.deadline t) d track.windows → nat_lt (max b d) a ≡ is_waiting track t
waiting_between track t a b d inside released done due =
    sym (ap (λ f. list_any f track.windows) (λ k w. same w k)
    ∙ any_between (λ w. nat_le w.release t) (λ w. ran_below (t + 1) w || nat_le w.deadline t) track.windows a (max b d) released
    (cut_either (ran_below (t + 1)) (λ w. nat_le w.deadline t) track.windows b d done due))
  where
    either : (u v w : Bool) → ((u && not v) && not w) ≡ (u && not (w || v))
    either true true true = refl
    either true true false = refl
    either true false true = refl
    either true false false = refl
    either false v w = refl

    same : (w : Window) → (covers track t w && not (ran_below (t + 1) w)) ≡ (nat_le w.release t && not (ran_below (t + 1) w || nat_le w.deadline t))
    same w = ap (λ b. b && not (ran_below (t + 1) w)) (covers_is track t inside w) ∙ either (nat_le w.release t) (nat_le w.deadline t) (ran_below (t + 1) w)

pub waiting_over : (track : Track) (t : ℕ) → track.end ≤ t → is_waiting track t ≡ false
waiting_over track t over = none track.windows
  where
    none : (ws : List Window) → list_any (λ w. covers track t w && not (ran_below (t + 1) w)) ws ≡ false
    none [] = refl
    none (w ∷ ws) = ap₂ (λ b c. (b && not (ran_below (t + 1) w)) || c) (covers_none track t over w) (none ws)
