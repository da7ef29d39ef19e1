-- Whatever a shared desk answers, a pass stays of its board.
use Rattle.std.proofs.Common.{◌≡◌, ℕ, ap}
use Rattle.pf_scenario.specs.System.{System}
use Rattle.pf_desk.specs.declared.entry.Entry.{Entry}
use Rattle.pf_board.specs.declared.take.Take.{Take}
use Rattle.pf_board.specs.declared.take.Take.TheVariants.{Got, Empty, Gone, NoProcessor}
use Rattle.pf_board.specs.Passes.{Passing}
use Rattle.pf_board.specs.Takes.{Takes}
use Rattle.pf_share.specs.Histories.{IsHistory, quanta_of}

pub takes_on : (m p : ℕ) (v w : Passing Entry System) (t : Take) → Takes IsHistory quanta_of m p v t w → w.board ≡ v.board
takes_on m p v w (Got q) takes = ap (λ (x : Passing Entry System). x.board) takes.1.pass
takes_on m p v w Empty takes = ap (λ (x : Passing Entry System). x.board) takes.1
takes_on m p v w Gone takes = ap (λ (x : Passing Entry System). x.board) takes.1.4
takes_on m p v w NoProcessor takes = ap (λ (x : Passing Entry System). x.board) takes.1
