use Rattle.std.proofs.Common.{◌≡◌, ◌-◌, refl, ap, arith}
use Rattle.pf_text.proofs.Recorded.{record_written, table_written}
use Rattle.pf_stats.specs.Processors.{processor_record, processors_text}
use Rattle.pf_stats.proofs.Using.{first_left, none_left}
use Rattle.pf_stats.proofs.processors.processors_csv.Goals as goal

pub loop-processor-init : goal.loop-processor-init
unfolding processors_text
loop-processor-init c =
    let table = c.in_ok-push_texts.ensures in
    let m = c.args.snapshot.now.state.plan.settings.processors in
    let all : m - 0 ≡ m = omega arith in
    record { whole = rw (table, c.new-table.ensures, all) refl; at_record = rw table refl }

pub loop-processor-preserved : goal.loop-processor-preserved
loop-processor-preserved c =
    let seen = c.args.snapshot.now in
    let first = first_left (processor_record seen.rows) c.loop-processor.processor seen.state.plan.settings.processors
    (omega (arith, ap (λ s. s.processors) c.settings.ensures, c.processors-processor-end.ensures)) in
    let table = c.in_ok-push_processor.ensures in
    record { whole = rw table (record_written _ _ _ _ _ first c.loop-processor.invariant.whole); at_record = rw table refl }

pub returns : goal.returns
returns c =
    let seen = c.args.snapshot.now in
    let none = none_left (processor_record seen.rows) c.loop-processor.processor seen.state.plan.settings.processors
    (omega (arith, ap (λ s. s.processors) c.settings.ensures, c.processors-processor-end.ensures)) in
    rw (table_written _ _ _ none c.loop-processor.invariant.whole) at c.finish.ensures
