-- One event of a slot, on what is kept: it is denied for the same reason, and what is kept then is what the events in
-- force then give.
use Rattle.std.proofs.Common.{◌≡◌, ℕ, ◌+◌, ◌-◌, ◌≤◌, Bool, true, false, not, ◌&&◌, ◌==◌, nat_le, cond, Option, Some, None, List, [], ◌∷◌, ◌++◌, length, map, filter, find, sum_by, count_by, option_map, refl, sym, ap, ap₂, ◌∙◌, arith}
use Rattle.std.proofs.lemmas.Bool.{le-leb}
use Rattle.std.proofs.lemmas.Bool.Decides.{nat_tests}
use Rattle.std.proofs.lemmas.List.{take_all, map-append}
use Rattle.std.proofs.lemmas.List.Sums.{sum_by_push}
use Rattle.pf_weight.specs.Share.{share_of}
use Rattle.pf_scenario.specs.System.{System}
use Rattle.pf_scenario.specs.declared.event.Event.{Event}
use Rattle.pf_scenario.specs.declared.event.Event.TheVariants.{Join, Leave, Delay, Limit}
use Rattle.pf_scenario.specs.declared.event.Numbered.{Numbered}
use Rattle.pf_admit.specs.Admission.{leave_denial, delay_denial}
use Rattle.pf_admit.specs.declared.member.Member.{Member}
use Rattle.pf_run.specs.Record.{Slot, runs, done, next_sub}
use Rattle.pf_run.specs.Inside.{Joined, inside, load_of, hold_back_of, shift_of, member_of, member_at}
use Rattle.pf_run.specs.Denials.{denial_of}
use Rattle.pf_engine.specs.Fits.{KeptTask, Kept, kept_task, kept_after}
use Rattle.pf_engine.specs.Points.{IsNewTask}
use Rattle.pf_engine.specs.Kept.{member_in, changed_task, units_of, new_task, member_after_delay, denial_at, kept_with_event}
use Rattle.pf_run.specs.Inside.{joins_of}
use Rattle.pf_run.proofs.Counting.{map_map, map_same, filter-map, find-map, found, sum_without}
use Rattle.pf_run.proofs.Points.{ShiftsNone, inside_push_other, inside_push_join, inside_push_leave, inside_count, count_push, shift_push, member_push_other}

-- the members kept are those inside
found_member : (r : List Slot) (xs : List Numbered) (o : Option Joined) →
    option_map (λ (k : KeptTask). k.member) (option_map (kept_task r xs) o) ≡ option_map (member_of r xs) o
found_member r xs None = refl
found_member r xs (Some j) = refl

pub member_same : (base : ℕ) (r : List Slot) (xs : List Numbered) (task : ℕ) →
    member_in (map (kept_task r xs) (inside base xs)) task ≡ member_at base r xs task
member_same base r xs task =
    ap (option_map (λ (k : KeptTask). k.member)) (find-map (λ k. k.task == task) (kept_task r xs) (inside base xs))
    ∙ found_member r xs (find (λ j. j.task == task) (inside base xs))

-- an event is denied for the same reason
pub denial_same : (s : System) (r : List Slot) (xs : List Numbered) (event : Event) →
    denial_at (kept_after s r xs) event ≡ denial_of s r xs event
unfolding kept_after
denial_same s r xs (Join slot task cost period early) = refl
denial_same s r xs (Leave slot task) = ap (leave_denial slot) (member_same s.base r xs task)
denial_same s r xs (Delay slot task by) = ap (delay_denial slot) (member_same s.base r xs task)
denial_same s r xs (Limit slot count) = refl

-- what is kept, by its parts
kept_parts : (s : System) (now : ℕ) (tasks tasks' : List KeptTask) (load load' count count' : ℕ) →
    tasks ≡ tasks' → load ≡ load' → count ≡ count' →
    ◌≡◌ {A = Kept} (record { settings = s; now = now; tasks = tasks; load = load; count = count })
    (record { settings = s; now = now; tasks = tasks'; load = load'; count = count' })
kept_parts s now tasks tasks' load load' count count' t l c =
    ap₂ (λ ts lo. record { settings = s; now = now; tasks = ts; load = lo; count = count }) t l
    ∙ ap (λ co. record { settings = s; now = now; tasks = tasks'; load = load'; count = co }) c

tasks_other : (r : List Slot) (xs : List Numbered) (x : Numbered) → ShiftsNone x.event → (js : List Joined) →
    map (kept_task r xs) js ≡ map (kept_task r (xs ++ x ∷ [])) js
tasks_other r xs x none js = map_same _ _
    (λ (j : Joined). ap (λ m. record { task = j.task; member = m }) (sym (member_push_other r xs x none j))) js

-- a limit
pub limit_step : (s : System) (r : List Slot) (xs : List Numbered) (id slot count : ℕ) →
    kept_with_event (kept_after s r xs) (Limit slot count) ≡ kept_after s r (xs ++ record { id = id; event = Limit slot count } ∷ [])
unfolding kept_after load_of
limit_step s r xs id slot count =
    let x : Numbered = record { id = id; event = Limit slot count } in
    let same = inside_push_other s.base xs x refl (λ _. refl) in
    kept_parts s (length r) _ _ _ _ _ _
    (tasks_other r xs x (λ q task i. refl) (inside s.base xs) ∙ ap (map (kept_task r (xs ++ x ∷ []))) (sym same))
    (ap (sum_by (λ j. j.weight.units)) (sym same))
    (sym (count_push s.processors xs x))

-- a leave
units_found : (r : List Slot) (xs : List Numbered) (o : Option Joined) →
    units_of (option_map (member_of r xs) o) ≡ found (λ (j : Joined). j.weight.units) o
unfolding member_of
units_found r xs None = refl
units_found r xs (Some j) = refl

pub leave_step : (s : System) (r : List Slot) (xs : List Numbered) (id slot task : ℕ) → joins_of task xs ≤ 1 →
    kept_with_event (kept_after s r xs) (Leave slot task) ≡ kept_after s r (xs ++ record { id = id; event = Leave slot task } ∷ [])
unfolding kept_after load_of
leave_step s r xs id slot task once =
    let x : Numbered = record { id = id; event = Leave slot task } in
    let js = inside s.base xs in
    let rest = inside_push_leave s.base xs id slot task in
    let units : units_of (member_in (map (kept_task r xs) js) task) ≡ found (λ (j : Joined). j.weight.units) (find (λ j. j.task == task) js) =
    ap units_of (member_same s.base r xs task) ∙ units_found r xs (find (λ j. j.task == task) js) in
    let sum = sum_without (λ (j : Joined). j.task == task) (λ j. j.weight.units) js (omega (arith, inside_count s.base task xs)) in
    kept_parts s (length r) _ _ _ _ _ _
    (filter-map (λ k. not (k.task == task)) (kept_task r xs) js
    ∙ tasks_other r xs x (λ q task' i. refl) (filter (λ j. not (j.task == task)) js)
    ∙ ap (map (kept_task r (xs ++ x ∷ []))) (sym rest))
    (let less : sum_by (λ (j : Joined). j.weight.units) js - units_of (member_in (map (kept_task r xs) js) task)
    ≡ sum_by (λ (j : Joined). j.weight.units) (filter (λ j. not (j.task == task)) js) = omega arith in
    less ∙ ap (sum_by (λ (j : Joined). j.weight.units)) (sym rest))
    (sym (count_push s.processors xs x))

-- a join
never_ran : (r : List Slot) (task : ℕ) → count_by (runs task) r ≡ 0 → done r task (length r) ≡ 0
unfolding done
never_ran r task idle = ap (count_by (runs task)) (take_all (length r) r (omega arith)) ∙ idle

unshifted : (r : List Slot) (xs : List Numbered) (j : Joined) (i : ℕ) →
    sum_by (λ x. hold_back_of r j.task i x.event) xs ≡ 0 → shift_of r xs j i ≡ j.slot
unfolding shift_of
unshifted r xs j i none = omega arith

join_new : (r : List Slot) (xs : List Numbered) (x : Numbered) (base slot task cost period early : ℕ) → ShiftsNone x.event →
    IsNewTask r xs task →
    new_task base slot task cost period early
    ≡ kept_task r (xs ++ x ∷ []) (record { task = task; slot = slot; weight = share_of base cost period; early = early })
unfolding member_of
join_new r xs x base slot task cost period early none new =
    let j : Joined = record { task = task; slot = slot; weight = share_of base cost period; early = early } in
    let zero_done = never_ran r task new.idle in
    let shift : shift_of r (xs ++ x ∷ []) j (next_sub r task) ≡ slot =
    omega (
      arith,
      shift_push r xs x j (next_sub r task),
      none r task (next_sub r task),
      unshifted r xs j (next_sub r task) (new.undelayed r (next_sub r task)),
    ) in
    let last : shift_of r (xs ++ x ∷ []) j (done r task (length r)) ≡ slot =
    omega (
      arith,
      shift_push r xs x j (done r task (length r)),
      none r task (done r task (length r)),
      unshifted r xs j (done r task (length r)) (new.undelayed r (done r task (length r))),
    ) in
    sym (ap₂ (λ d p. record { task = task; member = record { weight = share_of base cost period; joined = slot; early = early; done = d; shift = p; last = shift_of r (xs ++ x ∷ []) j (done r task (length r)) } })
    zero_done shift
    ∙ ap (λ l. record { task = task; member = record { weight = share_of base cost period; joined = slot; early = early; done = 0; shift = slot; last = l } }) last)

pub join_step : (s : System) (r : List Slot) (xs : List Numbered) (id slot task cost period early : ℕ) → IsNewTask r xs task →
    kept_with_event (kept_after s r xs) (Join slot task cost period early)
    ≡ kept_after s r (xs ++ record { id = id; event = Join slot task cost period early } ∷ [])
unfolding kept_after load_of
join_step s r xs id slot task cost period early new =
    let x : Numbered = record { id = id; event = Join slot task cost period early } in
    let js = inside s.base xs in
    let j : Joined = record { task = task; slot = slot; weight = share_of s.base cost period; early = early } in
    let none : ShiftsNone x.event = λ q task' i. refl in
    let more = inside_push_join s.base xs x j refl (λ _. refl) new.stays in
    kept_parts s (length r) _ _ _ _ _ _
    (ap₂ (λ ts k. ts ++ k ∷ []) (tasks_other r xs x none js) (join_new r xs x s.base slot task cost period early none new)
    ∙ sym (map-append (kept_task r (xs ++ x ∷ [])) js (j ∷ []))
    ∙ ap (map (kept_task r (xs ++ x ∷ []))) (sym more))
    (sym (ap (sum_by (λ (i : Joined). i.weight.units)) more ∙ sum_by_push (λ (i : Joined). i.weight.units) js j))
    (sym (count_push s.processors xs x))

-- a delay
le_itself : (n : ℕ) → nat_le n n ≡ true
le_itself n = le-leb n n (omega arith)

above_less : (n : ℕ) → nat_le (n + 1) n ≡ false
above_less n = grind (arith, nat_tests)

delay_cond : (b c : Bool) (by : ℕ) (n m l : ℕ) → b ≡ c → n ≡ m + cond (c && true) by 0 → n ≡ cond b (m + by) m
delay_cond b true by n m l e f = rw e (omega arith)
delay_cond b false by n m l e f = rw e (omega arith)

none_cond : (c : Bool) (by : ℕ) → cond (c && false) by 0 ≡ 0
none_cond true by = refl
none_cond false by = refl

changed_cond : (task : ℕ) (b : Bool) (by : ℕ) (m : Member) (shift last : ℕ) → shift ≡ cond b (m.shift + by) m.shift → last ≡ m.last →
    ◌≡◌ {A = KeptTask} (cond b (record { task = task; member = member_after_delay by m }) (record { task = task; member = m }))
    (record { task = task; member = record { weight = m.weight; joined = m.joined; early = m.early; done = m.done; shift = shift; last = last } })
changed_cond task true by m shift last e f = rw (e, f) refl
changed_cond task false by m shift last e f = rw (e, f) refl

task_after_delay : (r : List Slot) (xs : List Numbered) (id task by : ℕ) (j : Joined) →
    changed_task task (member_after_delay by) (kept_task r xs j)
    ≡ kept_task r (xs ++ record { id = id; event = Delay (length r) task by } ∷ []) j
unfolding member_of
task_after_delay r xs id task by j =
    let x : Numbered = record { id = id; event = Delay (length r) task by } in
    let n = done r j.task (length r) in
    let swap : (j.task == task) ≡ (task == j.task) = grind (arith, nat_tests) in
    changed_cond j.task (j.task == task) by (member_of r xs j)
    (shift_of r (xs ++ x ∷ []) j (next_sub r j.task)) (shift_of r (xs ++ x ∷ []) j n)
    (delay_cond (j.task == task) (task == j.task) by _ _ 0 swap
    (shift_push r xs x j (next_sub r j.task)
    ∙ ap (λ b. shift_of r xs j (next_sub r j.task) + cond ((task == j.task) && b) by 0) (le_itself (n + 1))))
    (let none : hold_back_of r j.task n x.event ≡ 0 =
    ap (λ b. cond ((task == j.task) && b) by 0) (above_less n) ∙ none_cond (task == j.task) by in
    omega (arith, shift_push r xs x j n))

pub delay_step : (s : System) (r : List Slot) (xs : List Numbered) (id slot task by : ℕ) → slot ≡ length r →
    kept_with_event (kept_after s r xs) (Delay slot task by) ≡ kept_after s r (xs ++ record { id = id; event = Delay slot task by } ∷ [])
unfolding kept_after load_of
delay_step s r xs id slot task by at =
    let x : Numbered = record { id = id; event = Delay slot task by } in
    let y : Numbered = record { id = id; event = Delay (length r) task by } in
    let js = inside s.base xs in
    let same = inside_push_other s.base xs x refl (λ _. refl) in
    kept_parts s (length r) _ _ _ _ _ _
    (map_map (changed_task task (member_after_delay by)) (kept_task r xs) js
    ∙ map_same _ _ (λ (j : Joined). task_after_delay r xs id task by j) js
    ∙ ap (λ t. map (kept_task r (xs ++ record { id = id; event = Delay t task by } ∷ [])) js) (sym at)
    ∙ ap (map (kept_task r (xs ++ x ∷ []))) (sym same))
    (ap (sum_by (λ (j : Joined). j.weight.units)) (sym same))
    (sym (count_push s.processors xs x))
