use Rattle.pf_fit_command.proofs.Made.{stops_unwritten}
use Rattle.pf_fit_command.proofs.fit.fit.Goals as goal
