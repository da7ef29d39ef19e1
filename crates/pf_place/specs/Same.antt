-- Which picks, and so which rows, are equal.
use Rattle.std.specs.Prelude.{Bool, ◌&&◌, ◌==◌}
use Rattle.pf_order.specs.declared.pick.Pick.{Pick}

-- whether both are the same subtask of the same task
abbrev pub same_pick : Pick → Pick → Bool
same_pick a b = (a.task == b.task) && (a.sub == b.sub)
