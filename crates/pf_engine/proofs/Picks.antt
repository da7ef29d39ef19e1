-- The picks of a slot, on what is kept.
use Rattle.std.proofs.Common.{◌≡◌, ℕ, ◌+◌, ◌≤◌, Bool, true, false, ◌||◌, ◌==◌, cond, List, [], ◌∷◌, ◌++◌, length, map, fold, All, refl, sym, ap, ap₂, ◌∙◌, arith}
use Rattle.std.specs.List.{list_any}
use Rattle.std.proofs.lemmas.Bool.{eqb-true}
use Rattle.std.proofs.lemmas.Bool.Decides.{nat_tests}
use Rattle.std.proofs.lemmas.List.{map-id, length_push}
use Rattle.std.proofs.lemmas.List.Elements.{All-head, All-tail}
use Rattle.pf_order.specs.declared.pick.Pick.{Pick}
use Rattle.pf_scenario.specs.System.{System}
use Rattle.pf_scenario.specs.Event.{slot_of}
use Rattle.pf_scenario.specs.declared.event.Numbered.{Numbered}
use Rattle.pf_admit.specs.declared.member.Member.{Member}
use Rattle.pf_run.specs.Record.{Slot, runs, done, next_sub}
use Rattle.pf_run.specs.Inside.{Joined, inside, load_of, count_of, shift_of, member_of}
use Rattle.pf_engine.specs.Fits.{KeptTask, kept_task, kept_after}
use Rattle.pf_engine.specs.Kept.{changed_task, changed_tasks, member_after_run, tasks_after_pick, kept_after_picks}
use Rattle.pf_run.proofs.Counting.{map_map, map_same}
use Rattle.pf_run.proofs.Later.{runs_push, done_all, shift_same, shift_later}

-- the picks are of the next subtasks
abbrev pub AreNext : List Slot → List Pick → Type 0
AreNext r picks = All (λ p. p.sub ≡ next_sub r p.task) picks

abbrev pub is_picked : ℕ → List Pick → Bool
is_picked task picks = list_any (λ p. p.task == task) picks

-- what one task becomes
abbrev pick_task : KeptTask → Pick → KeptTask
pick_task k p = changed_task p.task (member_after_run p.sub) k

picked_each : (tasks : List KeptTask) (picks : List Pick) → fold tasks_after_pick tasks picks ≡ map (λ k. fold pick_task k picks) tasks
picked_each tasks [] = sym (map-id tasks)
picked_each tasks (p ∷ picks) =
    picked_each (changed_tasks p.task (member_after_run p.sub) tasks) picks
    ∙ map_map (λ k. fold pick_task k picks) (changed_task p.task (member_after_run p.sub)) tasks

either_ran : (b c : Bool) (sub : ℕ) (m : Member) → cond c (member_after_run sub (cond b (member_after_run sub m) m)) (cond b (member_after_run sub m) m) ≡ cond (b || c) (member_after_run sub m) m
either_ran true true sub m = refl
either_ran true false sub m = refl
either_ran false c sub m = refl

one_pick : (task : ℕ) (m : Member) (p : Pick) (sub : ℕ) (b : Bool) → b ≡ (p.task == task) → (p.task ≡ task → p.sub ≡ sub) →
    ◌≡◌ {A = KeptTask} (cond b (record { task = task; member = member_after_run p.sub m }) (record { task = task; member = m }))
    (record { task = task; member = cond b (member_after_run sub m) m })
one_pick task m p sub true e next = ap (λ n. record { task = task; member = member_after_run n m }) (next (eqb-true p.task task (sym e)))
one_pick task m p sub false e next = refl

picked_task : (r : List Slot) (task : ℕ) (m : Member) (picks : List Pick) → AreNext r picks →
    fold pick_task (record { task = task; member = m }) picks
    ≡ record { task = task; member = cond (is_picked task picks) (member_after_run (next_sub r task) m) m }
picked_task r task m [] next = refl
picked_task r task m (p ∷ picks) next =
    let sub = next_sub r task in
    let swap : (task == p.task) ≡ (p.task == task) = grind (arith, nat_tests) in
    ap (λ k. fold pick_task k picks)
    (ap (λ b. cond b (record { task = task; member = member_after_run p.sub m }) (record { task = task; member = m })) swap
    ∙ one_pick task m p sub (p.task == task) refl
    (λ e. All-head (λ q. q.sub ≡ next_sub r q.task) p picks next ∙ ap (next_sub r) e))
    ∙ picked_task r task (cond (p.task == task) (member_after_run sub m) m) picks (All-tail (λ q. q.sub ≡ next_sub r q.task) p picks next)
    ∙ ap (λ n. record { task = task; member = n }) (either_ran (p.task == task) (is_picked task picks) sub m)

-- a member, one slot further
member_cond : (b : Bool) (m : Member) (sub done shift last : ℕ) → sub ≡ m.done + 1 → done ≡ m.done + cond b 1 0 →
    shift ≡ m.shift → last ≡ cond b m.shift m.last →
    ◌≡◌ {A = Member} (cond b (member_after_run sub m) m)
    (record { weight = m.weight; joined = m.joined; early = m.early; done = done; shift = shift; last = last })
member_cond true m sub done shift last s d h l = rw (s, d, h, l) refl
member_cond false m sub done shift last s d h l =
    let same : done ≡ m.done = omega arith in
    rw (same, h, l) refl

last_cond : (b : Bool) (f : ℕ → ℕ) (n n' : ℕ) → n' ≡ n + cond b 1 0 → f n' ≡ cond b (f (n + 1)) (f n)
last_cond true f n n' e = ap f e
last_cond false f n n' e = ap f (let same : n' ≡ n = omega arith in same)

cond_same : (b : Bool) (x x' y y' : ℕ) → x ≡ x' → y ≡ y' → cond b x y ≡ cond b x' y'
cond_same true x x' y y' e f = e
cond_same false x x' y y' e f = f

member_after : (r : List Slot) (d : Slot) (xs : List Numbered) (j : Joined) → All (λ x. slot_of x.event ≤ length r) xs →
    cond (runs j.task d) (member_after_run (next_sub r j.task) (member_of r xs j)) (member_of r xs j) ≡ member_of (r ++ d ∷ []) xs j
unfolding member_of
member_after r d xs j past =
    let r' = r ++ d ∷ [] in
    let n = done r j.task (length r) in
    let n' = done r' j.task (length r') in
    let more : n' ≡ n + cond (runs j.task d) 1 0 =
    omega (arith, done_all r j.task, done_all r' j.task, runs_push r d j.task) in
    let later : next_sub r j.task ≤ next_sub r' j.task = omega arith in
    member_cond (runs j.task d) (member_of r xs j) (next_sub r j.task) n'
    (shift_of r' xs j (next_sub r' j.task)) (shift_of r' xs j n') refl more
    (shift_same r d xs j (next_sub r' j.task) past ∙ shift_later r xs j (next_sub r' j.task) later)
    (last_cond (runs j.task d) (shift_of r' xs j) n n' more
    ∙ cond_same (runs j.task d) _ _ _ _ (shift_same r d xs j (n + 1) past) (shift_same r d xs j n past))

-- what is kept after the picks
pub kept_picked : (s : System) (r : List Slot) (d : Slot) (xs : List Numbered) → AreNext r d.picks →
    All (λ x. slot_of x.event ≤ length r) xs →
    kept_after_picks (kept_after s r xs) d.picks ≡ kept_after s (r ++ d ∷ []) xs
unfolding kept_after
kept_picked s r d xs next past =
    let js = inside s.base xs in
    let tasks : fold tasks_after_pick (map (kept_task r xs) js) d.picks ≡ map (kept_task (r ++ d ∷ []) xs) js =
    picked_each (map (kept_task r xs) js) d.picks
    ∙ map_map (λ k. fold pick_task k d.picks) (kept_task r xs) js
    ∙ map_same _ _
    (λ (j : Joined). picked_task r j.task (member_of r xs j) d.picks next
    ∙ ap (λ m. record { task = j.task; member = m }) (member_after r d xs j past)) js in
    ap₂ (λ n ts. record { settings = s; now = n; tasks = ts; load = load_of s.base xs; count = count_of s.processors xs })
    (sym (length_push r d)) tasks
