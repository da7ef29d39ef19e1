use Rattle.std.proofs.Common.{◌∷◌, [], ◌++◌, ap, sym, ◌∙◌}
use Rattle.pf_desk.specs.Settled.{Listed}
use Rattle.pf_desk.proofs.Settling.{kept_apart}
use Rattle.pf_desk.proofs.settlements.Settlements.push_reserved.Goals as goal

pub returns-in-None-clause-items : goal.returns-in-None-clause-items
returns-in-None-clause-items c =
    let inside = c.self.inside in
    rw (c.push_reserved-in-None-2.ensures.items, c.push_reserved-in-None.ensures.items)
    (kept_apart inside.wide.items c.args.settled inside.kept.items c.len-index.result c.self.invariant (sym (c.len-index.ensures ∙ inside.wide.ok.0))
    ∙ ap (λ (listed : Listed). listed.items ++ c.args.settled ∷ []) c.self.view_is)
