use Rattle.std.proofs.Common.{◌≡◌, ◌+◌, ◌≤◌, ◌++◌, length, max, subst, arith}
use Rattle.std.specs.Prelude.{replicate, OnOk}
use Rattle.std.proofs.lemmas.Result.{on_ok_weaker}
use Rattle.pf_weight.specs.declared.task.TheConstants.{LARGEST_TASK}
use Rattle.pf_heap.specs.declared.node.Node.{Node}
use Rattle.pf_heap.specs.Memory.{idle_node}
use Rattle.pf_heap.proofs.Whole.{now_tasks}
use Rattle.pf_heap.proofs.Grown.{arena_either, grown_view}
use Rattle.pf_heap.proofs.arena.Arena.reserve_task.Goals.{After-grow}
use Rattle.pf_heap.proofs.arena.Arena.reserve_task.Goals as goal

-- the nodes are as many as there were, or as many as the task's number wants
few : (c : After-grow) → length c.self.inside.nodes.items + c.saturating_sub-more.result ≤ LARGEST_TASK + 1
few c = omega (arith, c.self.invariant.few, c.requires, c.len.ensures, c.saturating_sub-more.ensures, c.self.inside.nodes.ok.0)

many : (c : After-grow) → length c.self.inside.nodes.items + c.saturating_sub-more.result ≡ max c.args.self.now.tasks (c.args.task + 1)
many c = omega (arith, now_tasks c.self.invariant c.self.view_is, c.len.ensures, c.saturating_sub-more.ensures, c.self.inside.nodes.ok.0)

-- the nodes that come are idle, all with one key
longer : (c : After-grow) → OnOk c.grow.result (c.grow.new.list.items ≡ c.self.inside.nodes.items ++ replicate c.saturating_sub-more.result (idle_node c.idle_node.ensures.0))
longer c =
    subst (λ (n : Node). OnOk c.grow.result (c.grow.new.list.items ≡ c.self.inside.nodes.items ++ replicate c.saturating_sub-more.result n)) c.idle_node.ensures.1
    c.grow.ensures.ok

pub invariant_of-self : goal.invariant_of-self
invariant_of-self c =
    arena_either c.self.invariant c.saturating_sub-more.result c.idle_node.ensures.0 (few c) c.grow.result (longer (goal.at.invariant_of-self c).After-grow) c.grow.ensures.err

pub returns-clause-ok : goal.returns-clause-ok
returns-clause-ok c =
    on_ok_weaker c.grow.result (λ e. grown_view c.self.invariant c.saturating_sub-more.result c.idle_node.ensures.0 (few c) e c.self.view_is (many c))
    (longer (goal.at.returns-clause-ok c).After-grow)
