use Rattle.pf_board.proofs.Showing.{board_shows}
use Rattle.pf_board.proofs.laws.board_shows_the_machine.Goals as goal

pub returns : goal.returns
returns g c = board_shows g.I.Issues.quanta g.I.Issues.steps g.I.Issues.legal
