use Rattle.std.proofs.Common.{◌++◌, List, length, map, refl, ap, ap₂, ◌∙◌}
use Rattle.pf_desk.specs.declared.entry.Entry.{Entry}
use Rattle.pf_desk.specs.Recorded.{Recorded}
use Rattle.pf_desk.specs.Laid.{settled_of, briefs_from, entries_laid}
use Rattle.pf_desk.proofs.Laying.{all_entered, commands_laid}
use Rattle.pf_desk.proofs.history.History.enter_all.Goals as goal

pub invariant_of-self-2 : goal.invariant_of-self-2
invariant_of-self-2 c =
    let inside = c.self.inside in
    let are = c.self.invariant in
    let entries = c.args.entries.now in
    let briefs = c.settle.ensures.briefs ∙ ap₂ (λ bs k. bs ++ briefs_from k entries) c.in_ok-reserve.ensures.items (ap length c.in_ok-reserve_for.ensures.items) in
    let commands = c.settle.ensures.commands ∙ ap (λ xs. xs ++ map settled_of entries) c.in_ok-reserve_for.ensures.items in
    rw (briefs, commands)
    (commands_laid inside.processors inside.slots inside.briefs.items inside.settled.items inside.rows _ _ are.laid are.taken (length inside.settled.items) entries refl c.requires are.kept)

pub returns-clause-ok : goal.returns-clause-ok
returns-clause-ok c =
    let inside = c.self.inside in
    let are = c.self.invariant in
    let entries = c.args.entries.now in
    let briefs = c.settle.ensures.briefs ∙ ap₂ (λ bs k. bs ++ briefs_from k entries) c.in_ok-reserve.ensures.items (ap length c.in_ok-reserve_for.ensures.items) in
    let commands = c.settle.ensures.commands ∙ ap (λ xs. xs ++ map settled_of entries) c.in_ok-reserve_for.ensures.items in
    let entered = ap₂ (λ xs bs. entries_laid xs inside.rows bs) commands briefs
    ∙ all_entered inside.slots inside.briefs.items inside.settled.items inside.rows are.laid (length inside.settled.items) entries refl c.requires in
    ap (λ (es : List Entry). let h : Recorded = record { entries = es; processors = inside.processors; spare = 0 } in h) entered
    ∙ ap (λ (h : Recorded). let after : Recorded = record { entries = h.entries ++ entries; processors = h.processors; spare = 0 } in after) c.self.view_is
