-- The shortest time that a job is due after, task by task.
use Rattle.std.proofs.Common.{◌≡◌, ℕ, ◌+◌, ◌<◌, ◌≤◌, min, List, [], ◌∷◌, drop, length, get_or, arith}
use Rattle.std.proofs.lemmas.List.{at_drop_more, at_drop_all}
use Rattle.pf_convert.specs.declared.list.listed.Listed.{Listed}
use Rattle.pf_convert.specs.declared.quantum.TheConstants.{LONGEST_QUANTUM}
use Rattle.pf_convert.specs.Slots.{due_of}
use Rattle.pf_convert.specs.Conversion.Series.{shortest_time}

pub shortest_short : (tasks : List Listed) → shortest_time tasks ≤ LONGEST_QUANTUM
unfolding shortest_time
shortest_short [] = omega arith
shortest_short (task ∷ tasks) = omega (arith, shortest_short tasks)

pub none_looked_at : (tasks : List Listed) → min LONGEST_QUANTUM (shortest_time tasks) ≡ shortest_time tasks
none_looked_at tasks = omega (arith, shortest_short tasks)

pub time_looked_at : (tasks : List Listed) (i shortest : ℕ) (d : Listed) → i < length tasks → min shortest (shortest_time (drop i tasks)) ≡ shortest_time tasks
    → min (min shortest (due_of (get_or tasks i d).times)) (shortest_time (drop (i + 1) tasks)) ≡ shortest_time tasks
unfolding shortest_time
time_looked_at tasks i shortest d lt h =
    let step : shortest_time (drop i tasks) ≡ min (due_of (get_or tasks i d).times) (shortest_time (drop (i + 1) tasks)) = at_drop_more shortest_time tasks i d lt in
    omega (arith, step, h)

pub all_times : (tasks : List Listed) (i shortest : ℕ) → length tasks ≤ i → shortest ≤ LONGEST_QUANTUM → min shortest (shortest_time (drop i tasks)) ≡ shortest_time tasks
    → shortest ≡ shortest_time tasks
unfolding shortest_time
all_times tasks i shortest le short h =
    let end : shortest_time (drop i tasks) ≡ LONGEST_QUANTUM = at_drop_all shortest_time tasks i le in
    omega (arith, h, end, short)
