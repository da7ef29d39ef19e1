-- The tasks of a saved engine, as they come back one after another.
use Rattle.std.proofs.Common.{◌≡◌, ℕ, ◌+◌, ◌<◌, ◌≤◌, ◌==◌, true, None, Some, Ok, Option, List, [], ◌∷◌, ◌++◌, length, map, take, get_or, cond, All, refl, sym, ap, ap₂, ◌∙◌, subst, arith}
use Rattle.std.proofs.lemmas.Bool.{eq-eqb}
use Rattle.std.proofs.lemmas.List.{take_more, get_or-map, length-map}
use Rattle.std.proofs.lemmas.List.Elements.{All-head, All-tail, Contains-get_or}
use Rattle.std.proofs.lemmas.List.Sums.{count_by_more_yes, sum_by-take-le}
use Rattle.pf_weight.specs.Share.{Share, share_of}
use Rattle.pf_weight.specs.Weighed.{weight_fault, ok_unless}
use Rattle.pf_weight.specs.declared.fault.WeightFault.{WeightFault}
use Rattle.pf_scenario.specs.System.{System}
use Rattle.pf_engine.specs.Fits.{KeptTask, Kept}
use Rattle.pf_engine.specs.Kept.{member_in}
use Rattle.pf_engine.specs.Engines.{tasks_of, IsInside, IsWeighedOver, IsEngine}
use Rattle.pf_engine.specs.Saved.{SavedTask, saved_of, task_of, kept_of_saved}
use Rattle.pf_engine.proofs.Places.{no_member}
use Rattle.pf_engine.proofs.Agendas.{some_of}

-- a weight without a fault
no_fault : (o : Option WeightFault) (w v : Share) → ok_unless o w ≡ Ok v → o ≡ None
no_fault None w v e = refl
no_fault (Some fault) w v e = cc

same_share : (o : Option WeightFault) (w v : Share) → ok_unless o w ≡ Ok v → w ≡ v
same_share None w v e = cc
same_share (Some fault) w v e = cc

-- a task that is saved comes back
task_back : (base : ℕ) (k : KeptTask) → IsWeighedOver base k → task_of base (saved_of k) ≡ k
task_back base k over =
    let w = k.member.weight in
    let weight : share_of base w.cost w.period ≡ w =
    same_share (weight_fault base w.cost w.period) (share_of base w.cost w.period) w over in
    λ i. record { task = k.task; member = record k.member { weight = weight i } }

pub tasks_back : (base : ℕ) (tasks : List KeptTask) → All (IsWeighedOver base) tasks → map (task_of base) (map saved_of tasks) ≡ tasks
tasks_back base [] over = refl
tasks_back base (k ∷ ks) over =
    ap₂ (λ x xs. x ∷ xs) (task_back base k (All-head (IsWeighedOver base) k ks over)) (tasks_back base ks (All-tail (IsWeighedOver base) k ks over))

pub kept_back : (e : Kept) (tasks : List SavedTask) → All (IsWeighedOver e.settings.base) e.tasks → tasks ≡ map saved_of e.tasks →
    kept_of_saved e.settings e.now tasks e.load e.count ≡ e
kept_back e tasks over is =
    let back : map (task_of e.settings.base) tasks ≡ e.tasks = ap (map (task_of e.settings.base)) is ∙ tasks_back e.settings.base e.tasks over in
    λ i. record e { tasks = back i }

-- the engine made of them anew keeps the same
pub same_kept : (e : Kept) (settings : System) (now : ℕ) (saved : List SavedTask) (load count : ℕ) (tasks : List KeptTask) →
    kept_of_saved settings now saved load count ≡ e → tasks ≡ e.tasks →
    ◌≡◌ {A = Kept} (record { settings = settings; now = now; tasks = tasks; load = load; count = count }) e
same_kept e settings now saved load count tasks view same =
    let here : tasks ≡ map (task_of settings.base) saved = same ∙ sym (ap (λ (k : Kept). k.tasks) view) in
    (λ i. record { settings = settings; now = now; tasks = here i; load = load; count = count }) ∙ view

-- ---- the next task of a saved engine

abbrev pub no_task : SavedTask
no_task = record { task = 0; done = 0; cost = 0; period = 0; early = 0; joined = 0; shift = 0; last = 0 }

module _ (e : Kept) (base : ℕ) (saved : List SavedTask) (i : ℕ) (engine : IsEngine e) (over : base ≡ e.settings.base) (are : map (task_of base) saved ≡ e.tasks) (within : i < length saved) where
  abbrev pub next : KeptTask
  next = task_of base (get_or saved i no_task)

  inside : i < length e.tasks
  inside = omega (arith, length-map saved (task_of base), ap length are)

  stands : get_or e.tasks i next ≡ next
  stands = ap (λ tasks. get_or tasks i next) (sym are) ∙ get_or-map (task_of base) saved i no_task next within

  -- Use: it comes after those before it.
  pub next_comes : take (i + 1) e.tasks ≡ take i e.tasks ++ next ∷ []
  next_comes = take_more e.tasks i next inside ∙ ap (λ k. take i e.tasks ++ k ∷ []) stands

  pub next_inside : IsInside next
  next_inside = subst IsInside stands (engine.tasks i next inside)

  pub next_weight : weight_fault base next.member.weight.cost next.member.weight.period ≡ None
  next_weight =
      let w = next.member.weight in
      no_fault (weight_fault base w.cost w.period) w w
      (subst (λ b. IsWeighedOver b next) (sym over) (subst (IsWeighedOver e.settings.base) stands (engine.weights i next inside)))

  -- none before it is of its number
  alone : tasks_of next.task (take i e.tasks) ≡ 0
  alone =
      let number : ((get_or e.tasks i next).task == next.task) ≡ true = eq-eqb _ _ (ap (λ (k : KeptTask). k.task) stands) in
      omega (
        arith,
        count_by_more_yes (λ (k : KeptTask). k.task == next.task) e.tasks i next inside number,
        sum_by-take-le (λ (k : KeptTask). cond (k.task == next.task) 1 0) e.tasks (i + 1),
        engine.apart next.task,
      )

  pub next_absent : member_in (take i e.tasks) next.task ≡ None
  next_absent = sym (no_member (take i e.tasks) next.task (λ k d before same.
      let one = some_of (take i e.tasks) (get_or (take i e.tasks) k d) (Contains-get_or (take i e.tasks) k d before) in
      let here : 1 ≤ tasks_of next.task (take i e.tasks) = subst (λ t. 1 ≤ tasks_of t (take i e.tasks)) same one in
      absurd (omega (arith, here, alone))))
