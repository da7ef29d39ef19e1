use Rattle.std.proofs.Common.{◌≡◌, ◌+◌, ◌<◌, [], ◌∷◌, ◌++◌, length, map, max, get_or, refl, sym, ap, ap₂, ◌∙◌, subst, arith}
use Rattle.std.proofs.lemmas.List.{length-map, length-take-le, take_all}
use Rattle.pf_heap.proofs.Digits.{digits-mono}
use Rattle.pf_calendar.specs.Queues.{Queues, key_count}
use Rattle.pf_admit.specs.Member.{IsMember}
use Rattle.pf_run.specs.Inside.{eligible_from, next_key}
use Rattle.pf_engine.specs.Fits.{KeptTask, Kept}
use Rattle.pf_engine.specs.Kept.{member_in}
use Rattle.pf_engine.specs.Engines.{IsEngine}
use Rattle.pf_engine.specs.Agenda.{IsAgenda, with_put}
use Rattle.pf_engine.specs.Saved.{task_of}
use Rattle.pf_engine.proofs.Agendas.{agenda_none, agenda_seen, agenda_joined, absent_task, no_keys}
use Rattle.pf_engine.proofs.Costs.{none_made, turn, turns}
use Rattle.pf_engine.proofs.Saving.{next_comes, next_inside, next_weight, next_absent, same_kept, no_task}
use Rattle.pf_engine.proofs.saved_engine.SavedEngine.engine.Goals.{After-deref-saved-items, After-base, After-member-member, In_ok-reserve_task-2}
use Rattle.pf_engine.proofs.saved_engine.SavedEngine.engine.Goals as goal

pub reserve_room-requires : goal.reserve_room-requires
reserve_room-requires c = record {
  few = omega (
    arith,
    ap key_count c.in_ok-calendar.ensures,
    no_keys,
    c.len-2.ensures,
    c.self.inside.tasks.ok.0,
    length-map c.self.inside.tasks.items (task_of c.self.inside.settings.base),
    c.self.invariant.few,
  );
}

pub loop-saved-init : goal.loop-saved-init
loop-saved-init c =
    let long : length c.self.inside.tasks.items ≡ length c.args.self.now.tasks =
    sym (length-map c.self.inside.tasks.items (task_of c.self.inside.settings.base)) ∙ ap (λ (k : Kept). length k.tasks) c.self.view_is in
    record {
      tasks = c.reserve.ensures.tasks ∙ c.new-tasks.ensures;
      agenda = agenda_seen c.in_ok-reserve_room.ensures.ready c.in_ok-reserve_room.ensures.waiting (omega (arith, c.in_ok-reserve_room.ensures.tasks))
          (agenda_none c.in_ok-calendar.calendar c.args.self.now.now c.reserve.new.self.tasks c.in_ok-calendar.ensures (c.reserve.ensures.tasks ∙ c.new-tasks.ensures));
      spare = omega (arith, long, c.in_ok-reserve.ensures.room, c.len.ensures, c.self.inside.tasks.ok.0);
      key_spare = omega (arith, long, c.in_ok-reserve_room.ensures.ok, c.len-2.ensures, c.self.inside.tasks.ok.0);
      comparisons = none_made _ c.args.meter.now;
    }

-- ---- the loop

-- what is saved is what the engine kept
is_engine : (c : After-deref-saved-items) → IsEngine c.args.self.now
is_engine c = subst IsEngine c.self.view_is c.self.invariant

are : (c : After-deref-saved-items) → map (task_of c.self.inside.settings.base) c.deref-saved-items.result.now ≡ c.args.self.now.tasks
are c = ap (map (task_of c.self.inside.settings.base)) c.deref-saved-items.ensures.value ∙ ap (λ (k : Kept). k.tasks) c.self.view_is

over : (c : After-deref-saved-items) → c.self.inside.settings.base ≡ c.args.self.now.settings.base
over c = ap (λ (k : Kept). k.settings.base) c.self.view_is

long : (c : After-deref-saved-items) → length c.deref-saved-items.result.now ≡ length c.args.self.now.tasks
long c = sym (length-map c.deref-saved-items.result.now (task_of c.self.inside.settings.base)) ∙ ap length (are c)

pub member-member-requires : goal.member-member-requires
member-member-requires c =
    let g = (goal.at.member-member-requires c).After-deref-saved-items in
    rw c.base.ensures.value (next_weight _ _ c.deref-saved-items.result.now c.loop-saved.saved-index (is_engine g) (over g) (are g) (omega arith))

pub reserve_task-requires : goal.reserve_task-requires
reserve_task-requires c =
    let g = (goal.at.reserve_task-requires c).After-deref-saved-items in
    omega (
      arith,
      (next_inside _ _ c.deref-saved-items.result.now c.loop-saved.saved-index (is_engine g) (over g) (are g) (omega arith)).task_within,
    )

pub returns-in_err-reserve_task-clause-comparisons : goal.returns-in_err-reserve_task-clause-comparisons
returns-in_err-reserve_task-clause-comparisons c =
    let g = (goal.at.returns-in_err-reserve_task-clause-comparisons c).After-deref-saved-items in
    turns c.loop-saved.saved-index _ _ (omega (arith, long g)) c.loop-saved.invariant.comparisons

pub returns-in_err-reserve_task-2-clause-comparisons : goal.returns-in_err-reserve_task-2-clause-comparisons
returns-in_err-reserve_task-2-clause-comparisons c =
    let g = (goal.at.returns-in_err-reserve_task-2-clause-comparisons c).After-deref-saved-items in
    turns c.loop-saved.saved-index _ _ (omega (arith, long g)) c.loop-saved.invariant.comparisons

pub push-requires-clause-absent : goal.push-requires-clause-absent
push-requires-clause-absent c =
    let g = (goal.at.push-requires-clause-absent c).After-deref-saved-items in
    ap (λ tasks. member_in tasks (get_or c.deref-saved-items.result.now c.loop-saved.saved-index no_task).task)
    (c.in_ok-reserve_task.ensures.tasks ∙ c.loop-saved.invariant.tasks)
    ∙ next_absent _ _ c.deref-saved-items.result.now c.loop-saved.saved-index (is_engine g) (over g) (are g) (omega arith)

pub push-requires-clause-room : goal.push-requires-clause-room
push-requires-clause-room c =
    omega (arith, long (goal.at.push-requires-clause-room c).After-deref-saved-items, c.in_ok-reserve_task.ensures.spare, c.loop-saved.invariant.spare)

pub push-requires-clause-few : goal.push-requires-clause-few
push-requires-clause-few c =
    let g = (goal.at.push-requires-clause-few c).After-deref-saved-items in
    omega (
      arith,
      long g,
      ap length (c.in_ok-reserve_task.ensures.tasks ∙ c.loop-saved.invariant.tasks),
      length-take-le c.loop-saved.saved-index c.args.self.now.tasks (omega (arith, long g)),
      (is_engine g).few,
    )

pub put_next-requires-clause-some : goal.put_next-requires-clause-some
put_next-requires-clause-some c =
    let g = (goal.at.put_next-requires-clause-some c).After-deref-saved-items in
    omega (
      arith,
      (next_inside _ _ c.deref-saved-items.result.now c.loop-saved.saved-index (is_engine g) (over g) (are g) (omega arith)).task_some,
    )

member_is : (c : After-member-member) →
    c.member-member.result ≡ (task_of c.self.inside.settings.base (get_or c.deref-saved-items.result.now c.loop-saved.saved-index no_task)).member
member_is c =
    c.member-member.ensures
    ∙ ap (λ b. (task_of b (get_or c.deref-saved-items.result.now c.loop-saved.saved-index no_task)).member) c.base.ensures.value

pub put_next-requires-clause-member : goal.put_next-requires-clause-member
put_next-requires-clause-member c =
    let at = goal.at.put_next-requires-clause-member c in
    let g = at.After-deref-saved-items in
    subst IsMember (sym (member_is at.After-member-member))
    (next_inside _ _ c.deref-saved-items.result.now c.loop-saved.saved-index (is_engine g) (over g) (are g) (omega arith)).member

pub put_next-requires-clause-room : goal.put_next-requires-clause-room
put_next-requires-clause-room c =
    omega (
      arith,
      long (goal.at.put_next-requires-clause-room c).After-deref-saved-items,
      ap (λ (q : Queues). q.spare) c.in_ok-reserve_task-2.ensures.ok,
      c.loop-saved.invariant.key_spare,
    )

-- there is room for the key of its number
roomy : (c : In_ok-reserve_task-2) → c.reserve_task-in-loop-saved.new.self ≡ record c.loop-saved.calendar { tasks = max c.loop-saved.calendar.tasks ((get_or c.deref-saved-items.result.now c.loop-saved.saved-index no_task).task + 1) } → IsAgenda c.reserve_task-in-loop-saved.new.self c.args.self.now.now c.loop-saved.tasks.tasks []
roomy c ok =
    agenda_seen (ap (λ (q : Queues). q.ready) ok) (ap (λ (q : Queues). q.waiting) ok) (omega (arith, ap (λ (q : Queues). q.tasks) ok)) c.loop-saved.invariant.agenda

pub put_next-requires-clause-absent : goal.put_next-requires-clause-absent
put_next-requires-clause-absent c =
    let at = goal.at.put_next-requires-clause-absent c in
    let g = at.After-deref-saved-items in
    let task = (get_or c.deref-saved-items.result.now c.loop-saved.saved-index no_task).task in
    absent_task task
    (ap (λ tasks. member_in tasks task) c.loop-saved.invariant.tasks
    ∙ next_absent _ _ c.deref-saved-items.result.now c.loop-saved.saved-index (is_engine g) (over g) (are g) (omega arith))
    (roomy at.In_ok-reserve_task-2 c.in_ok-reserve_task-2.ensures.ok)

pub loop-saved-preserved : goal.loop-saved-preserved
loop-saved-preserved c =
    let at = goal.at.loop-saved-preserved c in
    let g = at.After-deref-saved-items in
    let i = c.loop-saved.saved-index in
    let within : i < length c.deref-saved-items.result.now = omega arith in
    let task = (get_or c.deref-saved-items.result.now c.loop-saved.saved-index no_task).task in
    let new : KeptTask = record { task = task; member = c.member-member.result } in
    let pushed = c.push.ensures.tasks ∙ ap (λ ts. ts ++ new ∷ []) c.in_ok-reserve_task.ensures.tasks in
    let ok = c.in_ok-reserve_task-2.ensures.ok in
    let before = roomy at.In_ok-reserve_task-2 ok in
    let now : c.self.inside.slots ≡ c.args.self.now.now = ap (λ (k : Kept). k.now) c.self.view_is in
    record {
      tasks = pushed
          ∙ ap₂ (λ ts k. ts ++ k ∷ []) c.loop-saved.invariant.tasks (λ j. record { task = task; member = member_is at.After-member-member j })
          ∙ sym (next_comes _ _ c.deref-saved-items.result.now i (is_engine g) (over g) (are g) within);
      agenda = subst (λ ts. IsAgenda c.put_next.new.calendar c.args.self.now.now ts []) (sym pushed)
          (agenda_joined c.reserve_task-in-loop-saved.new.self c.put_next.new.calendar c.args.self.now.now _ c.loop-saved.tasks.tasks new refl
          (c.put_next.ensures.put
          ∙ ap (λ n. with_put c.reserve_task-in-loop-saved.new.self (max (eligible_from c.member-member.result) n) (next_key task c.member-member.result)) now)
          c.put_next.ensures.counted c.put_next.ensures.some
          (omega (arith, ap (λ (q : Queues). q.tasks) ok)) before);
      spare = omega (arith, c.push.ensures.spare, c.in_ok-reserve_task.ensures.spare, c.loop-saved.invariant.spare);
      key_spare = omega (
        arith,
        long g,
        ap (λ (q : Queues). q.spare) c.put_next.ensures.put,
        ap (λ (q : Queues). q.spare) ok,
        c.loop-saved.invariant.key_spare,
      );
      comparisons = turn i _ _
          (digits-mono (key_count c.reserve_task-in-loop-saved.new.self + 1) (length c.args.self.now.tasks) (omega (
            arith,
            before.count,
            ap length c.loop-saved.invariant.tasks,
            length-take-le i c.args.self.now.tasks (omega (arith, long g)),
            long g,
          )))
          c.loop-saved.invariant.comparisons c.put_next.ensures.comparisons;
    }

-- ---- all of them

pub invariant_of-result : goal.invariant_of-result
invariant_of-result c =
    let g = (goal.at.invariant_of-result c).After-deref-saved-items in
    let all = c.loop-saved.invariant.tasks ∙ take_all c.loop-saved.saved-index c.args.self.now.tasks (omega (arith, long g)) in
    record {
      engine = subst IsEngine (sym (same_kept c.args.self.now _ _ c.self.inside.tasks.items _ _ c.loop-saved.tasks.tasks c.self.view_is all)) (is_engine g);
      agenda = subst (λ n. IsAgenda c.loop-saved.calendar n c.loop-saved.tasks.tasks []) (sym (ap (λ (k : Kept). k.now) c.self.view_is)) c.loop-saved.invariant.agenda;
    }

pub returns-clause-engine : goal.returns-clause-engine
returns-clause-engine c =
    let g = (goal.at.returns-clause-engine c).After-deref-saved-items in
    let all = c.loop-saved.invariant.tasks ∙ take_all c.loop-saved.saved-index c.args.self.now.tasks (omega (arith, long g)) in
    same_kept c.args.self.now _ _ c.self.inside.tasks.items _ _ c.loop-saved.tasks.tasks c.self.view_is all

pub returns-clause-comparisons : goal.returns-clause-comparisons
returns-clause-comparisons c =
    let g = (goal.at.returns-clause-comparisons c).After-deref-saved-items in
    turns c.loop-saved.saved-index _ _ (omega (arith, long g)) c.loop-saved.invariant.comparisons
