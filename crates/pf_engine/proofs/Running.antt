-- One turn of the loop that runs the chosen subtasks.
use Rattle.std.proofs.Common.{◌≡◌, ◌≢◌, ℕ, zero, suc, ◌+◌, ◌^◌, ◌<◌, ◌≤◌, None, Some, Option, List, [], ◌∷◌, length, map, take, drop, get_or, fold, All, Contains, refl, sym, ap, ◌∙◌, subst, arith}
use Rattle.std.proofs.lemmas.List.{take_more, drop_more}
use Rattle.std.proofs.lemmas.List.Sums.{fold_push}
use Rattle.std.proofs.lemmas.List.Elements.{All-contains}
use Rattle.pf_weight.specs.declared.task.TheConstants.{LARGEST_TASK}
use Rattle.pf_order.specs.Priority.{Priority}
use Rattle.pf_order.specs.declared.pick.Pick.{Pick}
use Rattle.pf_calendar.specs.Queues.{Queues}
use Rattle.pf_admit.specs.declared.member.Member.{Member}
use Rattle.pf_run.specs.Run.{pick_of_key}
use Rattle.pf_engine.specs.Fits.{KeptTask}
use Rattle.pf_engine.specs.Kept.{member_in, tasks_after_pick}
use Rattle.pf_engine.specs.Engines.{IsInside}
use Rattle.pf_engine.specs.Agenda.{IsAgenda}
use Rattle.pf_engine.specs.Taking.{CanRun}
use Rattle.pf_engine.proofs.Places.{has_no_task}
use Rattle.pf_engine.proofs.Agendas.{found_in, others_apart}

-- the key at place i, whose pick this is
pub record IsKeyOf (keys : List Priority) (i : ℕ) (p : Pick) : Type 0 where
  pub key : Priority
  pub is : key ≡ get_or keys i key
  pub within : i < length keys
  pub pick : pick_of_key key ≡ p

key_at : (keys : List Priority) (i : ℕ) (d : Pick) → i < length (map pick_of_key keys) → IsKeyOf keys i (get_or (map pick_of_key keys) i d)
key_at [] i d within = absurd (omega arith)
key_at (k ∷ ks) zero d within = record { key = k; is = refl; within = omega arith; pick = refl }
key_at (k ∷ ks) (suc i) d within =
    let at = key_at ks i d (omega arith) in
    record { key = at.key; is = at.is; within = omega (arith, at.within); pick = at.pick }

pub key_of : (picks : List Pick) (keys : List Priority) (i : ℕ) (d : Pick) → picks ≡ map pick_of_key keys → i < length picks → IsKeyOf keys i (get_or picks i d)
key_of picks keys i d are within =
    subst (λ ps. IsKeyOf keys i (get_or ps i d)) (sym are) (key_at keys i d (omega (arith, within, ap length are)))

pub tasks_more : (start tasks tasks' : List KeptTask) (picks : List Pick) (i : ℕ) (d : Pick) → i < length picks →
    tasks ≡ fold tasks_after_pick start (take i picks) → tasks' ≡ tasks_after_pick tasks (get_or picks i d) → tasks' ≡ fold tasks_after_pick start (take (i + 1) picks)
tasks_more start tasks tasks' picks i d within so_far more =
    more
    ∙ ap (λ ts. tasks_after_pick ts (get_or picks i d)) so_far
    ∙ sym (fold_push tasks_after_pick start (take i picks) (get_or picks i d))
    ∙ ap (fold tasks_after_pick start) (sym (take_more picks i d within))

-- the first key that is away, and those after it
pub next_away : (q : Queues) (now : ℕ) (tasks : List KeptTask) (keys : List Priority) (i : ℕ) (k : Priority) → i < length keys → k ≡ get_or keys i k →
    IsAgenda q now tasks (drop i keys) → IsAgenda q now tasks (k ∷ drop (i + 1) keys)
next_away q now tasks keys i k within is a =
    subst (IsAgenda q now tasks) (drop_more keys i k within ∙ ap (λ x. x ∷ drop (i + 1) keys) (sym is)) a

pub behind_apart : (slot : ℕ) (tasks : List KeptTask) (keys : List Priority) (i : ℕ) (k : Priority) → CanRun slot tasks keys → i < length keys → k ≡ get_or keys i k →
    All (λ p. p.task ≢ k.task) (drop (i + 1) keys)
behind_apart slot tasks keys i k can within is =
    subst (λ (x : Priority). All (λ (p : Priority). p.task ≢ x.task) (drop (i + 1) keys)) (sym is) (others_apart keys i k can.differ within)

-- a key is of a task inside, and of no late subtask
pub key_small : (slot : ℕ) (tasks : List KeptTask) (keys : List Priority) (i : ℕ) (k : Priority) → CanRun slot tasks keys → i < length keys → k ≡ get_or keys i k → k.sub < 2 ^ 24
key_small slot tasks keys i k can within is =
    let n = can.next k (i, within, sym is) in
    omega (
      arith,
      ap (λ (x : Priority). x.sub) n.2,
      All-contains (λ (x : KeptTask). x.member.done ≤ slot) tasks n.0 can.done n.1,
      can.slot_within,
    )

-- its task is inside still
pub key_inside : (slot : ℕ) (start : List KeptTask) (keys : List Priority) (i : ℕ) (k : Priority) (tasks : List KeptTask) → CanRun slot start keys → i < length keys →
    k ≡ get_or keys i k → ((x : KeptTask) → Contains start x → member_in tasks x.task ≡ None → ⊥) → member_in tasks k.task ≡ None → ⊥
key_inside slot start keys i k tasks can within is stay none =
    let n = can.next k (i, within, sym is) in
    stay n.0 n.1 (ap (member_in tasks) (sym (ap (λ (x : Priority). x.task) n.2)) ∙ none)

some_member : (o : Option Member) → (o ≡ None → ⊥) → (m : Member) × (o ≡ Some m)
some_member None some = absurd (some refl)
some_member (Some m) some = (m, refl)

pub number_placed : {q : Queues} {now : ℕ} {away : List Priority} (tasks : List KeptTask) (task : ℕ) → IsAgenda q now tasks away → (member_in tasks task ≡ None → ⊥) → task < q.tasks
number_placed {q} tasks task a some =
    let m = some_member (member_in tasks task) some in
    All-contains (λ (k : KeptTask). k.task < q.tasks) tasks (record { task = task; member = m.0 }) a.numbers (found_in tasks task m.0 m.1)

-- each is inside at first
pub all_stay : (tasks : List KeptTask) (k : KeptTask) → Contains tasks k → member_in tasks k.task ≡ None → ⊥
all_stay tasks k at none = All-contains (λ (x : KeptTask). x.task ≢ k.task) tasks k (has_no_task tasks k.task none) at refl

-- a key is of a task with a number
pub key_numbered : (slot : ℕ) (tasks : List KeptTask) (keys : List Priority) (i : ℕ) (k : Priority) → CanRun slot tasks keys → i < length keys → k ≡ get_or keys i k →
    (1 ≤ k.task) × (k.task ≤ LARGEST_TASK)
key_numbered slot tasks keys i k can within is =
    let n = can.next k (i, within, sym is) in
    let inside = All-contains IsInside tasks n.0 can.inside n.1 in
    let task = ap (λ (x : Priority). x.task) n.2 in
    (omega (arith, task, inside.task_some), omega (arith, task, inside.task_within))
