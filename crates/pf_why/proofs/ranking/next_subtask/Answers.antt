use Rattle.std.proofs.Common.{◌∙◌, ◌+◌, ap, ap₂, sym, subst, List, All, sum_by}
use Rattle.pf_scenario.specs.declared.settings.TheConstants.{WIDE_HORIZON}
use Rattle.pf_tally.specs.Held.{AreSuccessive, IsSmall}
use Rattle.pf_tally.specs.Late.{hold_of}
use Rattle.pf_tally.specs.declared.held.Held.{Held}
use Rattle.pf_tally.proofs.Ledgers.{can_miss}
use Rattle.pf_why.specs.Ranking.{subtask_of}
use Rattle.pf_why.proofs.ranking.next_subtask.Goals as goal

pub subtask-requires-clause-chain : goal.subtask-requires-clause-chain
subtask-requires-clause-chain c =
    let P : List Held → Type 0 = AreSuccessive 0 c.args.task.slot in
    let can = can_miss c.args.task c.args.ran.now c.args.events.now WIDE_HORIZON c.in_ok-delays.delays.items c.requires c.in_ok-delays.ensures in
    subst P (sym c.deref.ensures.value) can.chain

pub subtask-requires-clause-small : goal.subtask-requires-clause-small
subtask-requires-clause-small c =
    let P : List Held → Type 0 = All IsSmall in
    let can = can_miss c.args.task c.args.ran.now c.args.events.now WIDE_HORIZON c.in_ok-delays.delays.items c.requires c.in_ok-delays.ensures in
    subst P (sym c.deref.ensures.value) can.small

pub returns : goal.returns
returns c =
    let j = c.args.task in
    c.subtask.ensures
    ∙ ap₂ (λ i held. subtask_of j i (j.slot + sum_by (hold_of i) held)) (ap (λ n. n + 1) c.slots_below.ensures.value)
    (c.deref.ensures.value ∙ c.in_ok-delays.ensures)
