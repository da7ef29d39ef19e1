-- A slot of an engine, once its events were taken.
use Rattle.std.proofs.Common.{◌≡◌, ◌+◌, ◌≤◌, ◌⊎◌, [], None, List, length, arith}
use Rattle.std.specs.FinSet as set
use Rattle.pf_order.specs.Priority.{Priority}
use Rattle.pf_order.specs.First.{AreFirst}
use Rattle.pf_calendar.specs.Queues.{Queues, EachTaskOnce, NoneEmpty, key_count}
use Rattle.pf_run.proofs.Firsts.{first_differ}
use Rattle.pf_run.proofs.Within.{horizon_within}
use Rattle.pf_engine.specs.Fits.{Kept}
use Rattle.pf_engine.specs.Kept.{ready_keys}
use Rattle.pf_engine.specs.Points.{IsAt}
use Rattle.pf_engine.specs.Engines.{IsEngine}
use Rattle.pf_engine.specs.Taking.{CanRun}
use Rattle.pf_engine.specs.Agenda.{IsAgenda, TakesFirst}
use Rattle.pf_engine.proofs.Bounding.{engine_at}
use Rattle.pf_engine.proofs.Advancing.{ready_differ, done_at}
use Rattle.pf_engine.proofs.NextKeys.{IsAdvanced, ready_advanced}
use Rattle.pf_engine.proofs.Chosen.{first_taken}
use Rattle.pf_engine.proofs.Agendas.{differ_tasks, next_all, agenda_advanced, agenda_chosen}

-- what a calendar is before the slot, once what is due is ready, and once the first keys were taken out
module _ (e : Kept) (q q' q'' : Queues) (keys : List Priority) (at : IsAt e []) (before : IsAgenda q e.now e.tasks [])
    (advanced : IsAdvanced q q' e.now) (counted : key_count q' ≡ key_count q) (some : NoneEmpty q'.waiting) (once : EachTaskOnce q')
    (takes : TakesFirst q' q'' keys) where
  engine : IsEngine e
  engine = engine_at e [] at

  ready_agenda : IsAgenda q' (e.now + 1) e.tasks []
  ready_agenda = agenda_advanced q q' e.now e.tasks advanced counted some before

  -- the keys are the first of the eligible ones
  pub are_first : (length keys ≡ e.count) ⊎ (q''.ready ≡ set.empty) → length keys ≤ e.count → AreFirst e.count (ready_keys e) keys
  are_first enough few =
      first_taken e.count e q' q'' keys (ready_advanced q q' e advanced (differ_tasks e.tasks engine.apart) (next_all before)) (ready_differ e [] at) takes enough few

  pub left_agenda : IsAgenda q'' (e.now + 1) e.tasks keys
  left_agenda = agenda_chosen q' q'' (e.now + 1) e.tasks keys takes once ready_agenda

  -- their subtasks can be run
  pub can_run : (length keys ≡ e.count) ⊎ (q''.ready ≡ set.empty) → length keys ≤ e.count → CanRun e.now e.tasks keys
  can_run enough few = record {
    slot_within = omega (arith, engine.now, horizon_within e.settings engine.settings);
    inside = engine.tasks;
    apart = engine.apart;
    done = done_at e [] at;
    next = λ k among. let o = (next_all ready_agenda).only None k (takes.taken k among) in (o.kept, o.among, o.is);
    differ = first_differ e.count (ready_keys e) keys (ready_differ e [] at) (are_first enough few);
  }
