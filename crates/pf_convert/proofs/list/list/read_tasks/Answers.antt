use Rattle.std.proofs.Common.{◌≡◌, ◌∙◌, ◌+◌, sym, ap, subst, arith}
use Rattle.std.proofs.lemmas.Result.{on_ok_weaker}
use Rattle.pf_weight.specs.declared.task.TheConstants.{LARGEST_TASK}
use Rattle.csv.specs.Records.{fields_of}
use Rattle.pf_text.specs.Rows.Rows.{Row, TakesRow}
use Rattle.pf_convert.specs.List.List.{tasks_told, with_fault}
use Rattle.pf_convert.proofs.ListLemmas.Told.{row_noted, one_too_many, no_more_rows, no_rows}
use Rattle.pf_convert.proofs.list.list.read_tasks.Goals as goal

pub returns-in-End : goal.returns-in-End
returns-in-End c =
    let ended = subst (λ n. TakesRow n (fields_of c.next.new.row) c.loop-count.rows c.next.new.self) c.in-End.is c.in_ok-line.ensures in
    on_ok_weaker c.push_fault.result
    (λ e. e
    ∙ ap (with_fault c.loop-count.list) c.in_ok-no_task_message-in-End.ensures
    ∙ sym (no_rows c.args.head.now c.loop-count.count c.loop-count.list c.loop-count.rows c.in-End.line c.if-count-eq0.true ended)
    ∙ c.loop-count.invariant.told)
    c.push_fault.ensures

pub returns-in-End-2 : goal.returns-in-End-2
returns-in-End-2 c =
    let ended = subst (λ n. TakesRow n (fields_of c.next.new.row) c.loop-count.rows c.next.new.self) c.in-End-2.is c.in_ok-line.ensures in
    sym (no_more_rows c.args.head.now c.loop-count.count c.loop-count.list c.loop-count.rows _ (omega (arith, c.if-count-eq0.false)) ended)
    ∙ c.loop-count.invariant.told

pub loop-count-preserved : goal.loop-count-preserved
loop-count-preserved c =
    let found = subst (λ n. TakesRow n (fields_of c.next.new.row) c.loop-count.rows c.next.new.self) c.in-Found.is c.in_ok-line.ensures in
    let row : Row = record { line = c.in-Found.line; fields = fields_of c.next.new.row } in
    record {
      told =
          ap (λ told. tasks_told c.args.head.now (c.loop-count.count + 1) told c.next.new.self.end c.next.new.self.rows) c.in_ok-note-in-Found.ensures.told
          ∙ sym (row_noted c.args.head.now c.loop-count.count c.loop-count.list c.loop-count.rows c.next.new.self row c.loop-count-test.true found)
          ∙ c.loop-count.invariant.told;
      few = omega (arith, c.in_ok-note-in-Found.ensures.few, c.loop-count.invariant.few);
    }

pub returns-in_ok-too_many_message-in-Found-2 : goal.returns-in_ok-too_many_message-in-Found-2
returns-in_ok-too_many_message-in-Found-2 c =
    let full : c.loop-count.count ≡ LARGEST_TASK = omega (arith, c.loop-count-test.false, c.loop-count.auto.count-end) in
    let row : Row = record { line = c.in-Found-2.line; fields = fields_of c.next-2.new.row } in
    let found = subst (λ n. TakesRow n (fields_of c.next-2.new.row) c.loop-count.rows c.next-2.new.self) c.in-Found-2.is c.in_ok-line-2.ensures in
    on_ok_weaker c.push_fault-in-Found-2.result
    (λ e. e
    ∙ ap (with_fault c.loop-count.list) c.in_ok-too_many_message-in-Found-2.ensures
    ∙ sym (one_too_many c.args.head.now c.loop-count.count c.loop-count.list c.loop-count.rows c.next-2.new.self row full found)
    ∙ c.loop-count.invariant.told)
    c.push_fault-in-Found-2.ensures

pub returns-in-End-3 : goal.returns-in-End-3
returns-in-End-3 c =
    let full : c.loop-count.count ≡ LARGEST_TASK = omega (arith, c.loop-count-test.false, c.loop-count.auto.count-end) in
    let ended = subst (λ n. TakesRow n (fields_of c.next-2.new.row) c.loop-count.rows c.next-2.new.self) c.in-End-3.is c.in_ok-line-2.ensures in
    sym (no_more_rows c.args.head.now c.loop-count.count c.loop-count.list c.loop-count.rows _ (omega (arith, full)) ended)
    ∙ c.loop-count.invariant.told
