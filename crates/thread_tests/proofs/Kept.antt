-- Whatever a board answers, a pass stays of it.
use Rattle.std.proofs.Common.{◌≡◌, ℕ, List, ap}
use Rattle.pf_board.specs.declared.quantum.Quantum.{Quantum}
use Rattle.pf_board.specs.declared.take.Take.{Take}
use Rattle.pf_board.specs.declared.take.Take.TheVariants.{Got, Empty, Gone, NoProcessor}
use Rattle.pf_board.specs.Passes.{Passing}
use Rattle.pf_board.specs.Takes.{Takes}

module _ {E T : Type 0} (legal : T → List (ℕ × E) → Type 0) (quanta : E → List Quantum) where
  pub takes_on : (m p : ℕ) (v w : Passing E T) (t : Take) → Takes legal quanta m p v t w → w.board ≡ v.board
  takes_on m p v w (Got q) takes = ap (λ (x : Passing E T). x.board) takes.1.pass
  takes_on m p v w Empty takes = ap (λ (x : Passing E T). x.board) takes.1
  takes_on m p v w Gone takes = ap (λ (x : Passing E T). x.board) takes.1.4
  takes_on m p v w NoProcessor takes = ap (λ (x : Passing E T). x.board) takes.1
