use Rattle.std.proofs.Common.{arith}
use Rattle.pf_tally.proofs.Noting.{no_table, table_more, got_at, got_none, row_at}
use Rattle.pf_tally.proofs.quanta.quanta_by_task.Goals as goal

pub loop-t-init : goal.loop-t-init
loop-t-init c = no_table c.args.rows.now _ c.new-table.ensures

pub note_row-requires : goal.note_row-requires
note_row-requires c = row_at _ c.args.rows.now c.loop-t.t _ c.requires (omega arith) (got_at c.args.rows.now c.loop-t.t _ c.in-Some.ensures)

pub unreachable-requires : goal.unreachable-requires
unreachable-requires c = got_none c.args.rows.now c.loop-t.t (omega arith) c.in-None.ensures

pub loop-t-preserved : goal.loop-t-preserved
loop-t-preserved c =
    table_more c.args.rows.now _ _ _ _ (omega arith) (got_at c.args.rows.now c.loop-t.t _ c.in-Some.ensures) c.loop-t.invariant c.in_ok-note_row-in-Some.ensures
