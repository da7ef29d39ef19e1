use Rattle.pf_fit_command.proofs.Listed.{counted_array}
use Rattle.pf_fit_command.proofs.items.late_array.Goals as goal
