use Rattle.std.proofs.Common.{◌≡◌, ℕ, ◌<◌, length, get_or}
use Rattle.pf_convert.specs.declared.fit.shown_task.ShownTask.{ShownTask}
use Rattle.pf_convert.specs.declared.list.listed.Listed.{Listed}
use Rattle.pf_convert.specs.declared.margins.margin.Margin.{Margin}
use Rattle.pf_convert.specs.declared.slotted.Slotted.{Slotted}
use Rattle.pf_convert.specs.Fit.Answers.{IsShownAs}
use Rattle.pf_convert.proofs.fit.fit.shown_tasks.Given as goal

abbrev pub invariant-loop-place : goal.invariant-loop-place
invariant-loop-place l = record {
  as_many : length l.tasks.items ≡ l.place;
  each : (k : ℕ) (t : ShownTask) → k < length l.tasks.items → (listed : Listed) (slots : Slotted) (margin : Margin)
      → IsShownAs (get_or l.listed k listed) (get_or l.plan.tasks.items k slots) (get_or l.margins.tasks.items k margin) (get_or l.tasks.items k t);
}
