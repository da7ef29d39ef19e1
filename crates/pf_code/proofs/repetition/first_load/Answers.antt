use Rattle.std.proofs.Common.{◌∙◌, ap, ap₂, length, get_or, arith}
use Rattle.pf_run.specs.Computed.{run_of}
use Rattle.pf_tally.specs.Load.{load_in}
use Rattle.pf_courses.proofs.OfRun.{length-rows, of_run}
use Rattle.pf_code.specs.Repetition.{first_load}
use Rattle.pf_code.proofs.repetition.first_load.Goals as goal

pub levels-requires-clause-of_run : goal.levels-requires-clause-of_run
levels-requires-clause-of_run c =
    of_run c.now-now.ensures.of_run c.scenario.ensures c.rows.ensures c.denials.ensures

pub levels-requires-clause-within : goal.levels-requires-clause-within
levels-requires-clause-within c =
    omega (arith, c.requires, length-rows c.now-now.ensures.of_run, ap length c.rows.ensures)

pub returns : goal.returns
unfolding first_load
returns c =
    ap (λ l. l.load) c.index.ensures
    ∙ ap (λ ls. (get_or ls 0 c.index.result.now).load) c.in_ok-levels.ensures
    ∙ ap₂ (λ s n. load_in s (run_of s n) 0) c.scenario.ensures (ap length c.rows.ensures ∙ length-rows c.now-now.ensures.of_run)
