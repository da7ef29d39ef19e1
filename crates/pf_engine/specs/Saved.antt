-- What a saved engine keeps of each task, and what it is made of anew.
use Rattle.std.specs.Prelude.{ℕ, List, map}
use Rattle.pf_weight.specs.Share.{share_of}
use Rattle.pf_scenario.specs.System.{System}
use Rattle.pf_engine.specs.Fits.{KeptTask, Kept}
pub use Rattle.pf_engine.specs.declared.saved_task.SavedTask.{SavedTask}

-- a task as it is saved: without the units of its weight
abbrev pub saved_of : KeptTask → SavedTask
saved_of k = record {
  task = k.task;
  done = k.member.done;
  cost = k.member.weight.cost;
  period = k.member.weight.period;
  early = k.member.early;
  joined = k.member.joined;
  shift = k.member.shift;
  last = k.member.last;
}

-- the task that was saved, where weights are over this base
abbrev pub task_of : ℕ → SavedTask → KeptTask
task_of base t = record {
  task = t.task;
  member = record {
    weight = share_of base t.cost t.period;
    joined = t.joined;
    early = t.early;
    done = t.done;
    shift = t.shift;
    last = t.last;
  };
}

-- what the engine kept that was saved
abbrev pub kept_of_saved : System → ℕ → List SavedTask → ℕ → ℕ → Kept
kept_of_saved settings now tasks load count =
    record { settings = settings; now = now; tasks = map (task_of settings.base) tasks; load = load; count = count }
