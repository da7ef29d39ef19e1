use Rattle.std.proofs.Common.{◌∙◌, ◌++◌, ap, arith}
use Rattle.pf_fit_text.specs.Json.{task_json, tasks_from}
use Rattle.pf_fit_text.proofs.Listed.{task_next, tasks_all}
use Rattle.pf_fit_text.proofs.tasks_json.tasks_json.Goals as goal

pub loop-k-init : goal.loop-k-init
loop-k-init c = ap (λ t. t ++ tasks_from c.args.names.now c.args.grows.now 0 c.args.figures.now) c.new-text.ensures.items

pub loop-k-preserved : goal.loop-k-preserved
loop-k-preserved c =
    task_next c.args.names.now c.args.grows.now c.loop-k.k c.args.figures.now _ _ c.loop-k.text.items c.push_comma.new.text.items
    c.extend_from_slice.new.self.items c.deref.result.now (omega arith) c.in_ok-push_comma.ensures c.in_ok-extend_from_slice.ensures.items
    (c.deref.ensures.value ∙ c.in_ok-object.ensures ∙ ap (task_json c.args.names.now _) c.grow_at.ensures) c.loop-k.invariant

pub returns : goal.returns
returns c =
    tasks_all c.args.names.now c.args.grows.now c.loop-k.k c.args.figures.now c.loop-k.text.items _ (omega arith) c.loop-k.invariant
