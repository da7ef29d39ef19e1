use Rattle.std.proofs.Common.{◌≡◌, ◌++◌, drop}
use Rattle.pf_fit_text.specs.Json.{tasks_from}
use Rattle.pf_fit_text.proofs.tasks_json.tasks_json.Given as goal

-- after the tasks so far those that are left
abbrev pub invariant-loop-k : goal.invariant-loop-k
invariant-loop-k l = l.text.items ++ tasks_from l.names l.grows l.k (drop l.k l.figures) ≡ tasks_from l.names l.grows 0 l.figures
