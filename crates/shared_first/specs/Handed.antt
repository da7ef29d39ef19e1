-- What becomes of the quanta of a shared desk.
use Rattle.std.specs.Prelude.{◌≡◌, List, ◌++◌}
use Rattle.atomic_table.specs.Seated.{TableId}
use Rattle.pf_scenario.specs.System.{System}
use Rattle.pf_desk.specs.declared.entry.Entry.{Entry}
use Rattle.pf_board.specs.declared.quantum.Quantum.{Quantum}
use Rattle.pf_board.specs.Passes.{Passing}
use Rattle.pf_board.specs.Quanta.{issues, HasSame, IsOnceEach}
use Rattle.pf_share.specs.Histories.{numbered, quanta_of}

-- a pass of the board, which took these quanta
abbrev pub Took : TableId → List Quantum → Passing Entry System → Type 0
Took board quanta p = (p.board ≡ board) × (p.taken ≡ quanta)

-- the quanta that the history's steps issued are those left and those that the two handed out, and none is among these twice
pub record AreHandedOut (history : List Entry) (left first second : List Quantum) : Type 0 where
  pub all : HasSame (issues quanta_of (numbered history)) (left ++ (first ++ second))
  pub once : IsOnceEach (left ++ (first ++ second))
