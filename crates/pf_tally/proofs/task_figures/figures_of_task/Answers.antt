use Rattle.std.proofs.Common.{◌-◌, ◌++◌, length, None, refl, ap, sym, ◌∙◌}
use Rattle.pf_run.specs.Computed.{run_of}
use Rattle.pf_tally.specs.Figures.{extremes_of, extremes_upto, last_slot, preemptions_behind}
use Rattle.pf_tally.specs.Misses.{misses_of_task}
use Rattle.pf_tally.specs.Ranges.{lag_by}
use Rattle.pf_tally.proofs.Figured.{can_fewer, told_is, figures_known, last_own}
use Rattle.pf_tally.proofs.Ledgers.{can_miss, ran_of_run}
use Rattle.pf_tally.proofs.task_figures.figures_of_task.Goals as goal

pub responses-requires-clause-can : goal.responses-requires-clause-can
responses-requires-clause-can c =
    let run = c.args.run.now in
    can_fewer c.args.task c.delays-delays.result.now run.journal.now (length c.args.ran.now)
    (can_miss c.args.task c.args.ran.now run.journal.events.items run.journal.now c.delays-delays.result.now c.requires.can (c.delays-delays.ensures ∙ c.requires.delays)) c.requires.can.ran_within

pub lag_range-requires-clause-chain : goal.lag_range-requires-clause-chain
lag_range-requires-clause-chain c =
    let run = c.args.run.now in
    let can = can_miss c.args.task c.args.ran.now run.journal.events.items run.journal.now c.delays-delays.result.now c.requires.can (c.delays-delays.ensures ∙ c.requires.delays) in
    can.chain

pub lag_range-requires-clause-small : goal.lag_range-requires-clause-small
lag_range-requires-clause-small c =
    let run = c.args.run.now in
    let can = can_miss c.args.task c.args.ran.now run.journal.events.items run.journal.now c.delays-delays.result.now c.requires.can (c.delays-delays.ensures ∙ c.requires.delays) in
    can.small

pub returns : goal.returns
returns c = λ s rows denials known of_ran.
    let run = c.args.run.now in
    let j = c.args.task in
    let n = run.journal.now in
    let r = run_of s (length rows) in
    let held = c.delays-delays.result.now in
    let of_held = c.delays-delays.ensures ∙ c.requires.delays in
    let responses = c.in_ok-responses.responses.items in
    let misses = c.deref-2.result.now in
    let of_misses = c.deref-2.ensures.value ∙ c.in_ok-note_misses.ensures s rows denials known ∙ ap (λ ms. ms ++ misses_of_task r run.journal.events.items j) c.new-misses.ensures.items in
    let last = c.last_slot-last.ensures ∙ ap (λ xs. last_slot xs j n) (c.diary.ensures ∙ known.journal.diaries.each j.task) ∙ last_own run.journal.events.items j n in
    figures_known j c.args.ran.now run.journal.events.items n c.requires.can r (sym (of_ran ∙ ran_of_run s rows denials j.task known.of_run)) held of_held c.args.processors.now responses misses _
    (known.journal.slots ∙ sym known.journal.now) of_misses
    c.in_ok-responses.ensures
    (told_is j c.args.processors.now c.args.ran.now responses misses _ _
    (c.number_of.ensures ∙ ap (λ j. j.task) c.task.view_is)
    (c.cost.ensures.value ∙ ap (λ j. j.weight.cost) c.task.view_is)
    (c.period.ensures.value ∙ ap (λ j. j.weight.period) c.task.view_is)
    refl
    c.migrations.ensures
    (c.preemptions.ensures ∙ ap (λ cost. preemptions_behind cost 0 None c.args.ran.now) (c.cost-2.ensures.value ∙ ap (λ j. j.weight.cost) c.task.view_is))
    (c.len.ensures ∙ sym c.deref.ensures.len ∙ ap length c.deref.ensures.value)
    (c.extremes_of.ensures ∙ ap extremes_of c.deref.ensures.value)
    (c.len-2.ensures ∙ sym c.deref-2.ensures.len)
    c.greatest_tardiness.ensures
    (c.lag_range.ensures ∙ ap (λ last. extremes_upto (lag_by j c.args.ran.now held) j.slot (last - j.slot)) last))
