use Rattle.std.proofs.Common.{◌≡◌, ◌≤◌, ◌++◌, [], drop, length}
use Rattle.pf_text.specs.Sheets.{IsWithinSheet, records_behind}
use Rattle.pf_text.specs.Page.{table_text}
use Rattle.pf_text.proofs.sheets.SheetPiecesPieces.next_piece.Given as goal

-- what the table has and the records left are what there was
abbrev pub invariant-loop-next : goal.invariant-loop-next
invariant-loop-next g l = record {
  text : l.table.text ++ table_text (records_behind g.S.Sheet.rest l.from (drop l.next l.self-inside.sheets.items)) ≡ l.fn.self;
  fields : l.table.fields ≡ [];
  kept : l.self-inside.next ≤ length l.self-inside.sheets.items
      × IsWithinSheet g.S.Sheet.count l.self-inside.at (drop l.self-inside.next l.self-inside.sheets.items);
  within : IsWithinSheet g.S.Sheet.count l.from (drop l.next l.self-inside.sheets.items);
}
