use Rattle.std.proofs.Common.{◌∙◌, ◌+◌, ◌++◌, ap, sym, drop, length, arith}
use Rattle.pf_text.specs.Page.{table_text}
use Rattle.pf_text.specs.Sheets.{records_behind}
use Rattle.pf_text.proofs.Filled.{left_at, passed_to, within_start}
use Rattle.pf_text.proofs.sheets.SheetPiecesPieces.next_piece.Goals as goal

pub invariant_of-self : goal.invariant_of-self
invariant_of-self g c = c.loop-next.invariant.kept

pub returns-then-to-count-clause-text : goal.returns-then-to-count-clause-text
returns-then-to-count-clause-text g c =
    let rest = g.S.Sheet.rest in
    let sheets = c.loop-next.self-inside.sheets.items in
    let next = c.loop-next.next in
    let filled = c.in_ok-to.ensures in (
      sym (left_at rest sheets next c.index-sheet.result.now (omega arith) c.index-sheet.ensures _ c.in_ok-to.to c.loop-next.table
          c.fill.new.table _ filled.text c.loop-next.invariant.text)
          ∙ ap (λ t. t ++ table_text (records_behind rest c.in_ok-to.to (drop next sheets))) (sym c.in_ok-finish.ensures),
      omega (arith, ap length c.in_ok-finish.ensures, filled.some (omega (arith, c.if-to-count.true, c.count.ensures.value))),
    )

pub loop-next-preserved : goal.loop-next-preserved
loop-next-preserved g c =
    let rest = g.S.Sheet.rest in
    let sheets = c.loop-next.self-inside.sheets.items in
    let next = c.loop-next.next in
    let sheet = c.index-sheet.result.now in
    let filled = c.in_ok-to.ensures in
    record {
      text =
          passed_to rest sheets next sheet (omega arith) c.index-sheet.ensures _ c.in_ok-to.to c.loop-next.table c.fill.new.table _ filled.text
          c.loop-next.invariant.text
          (ap (rest sheet) (omega (arith, c.if-to-count.false, filled.within, c.count.ensures.value)) ∙ c.count.ensures.end);
      fields = filled.fields;
      kept = c.loop-next.invariant.kept;
      within = within_start rest g.S.Sheet.count (drop (next + 1) sheets);
    }
