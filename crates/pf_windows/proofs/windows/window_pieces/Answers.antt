use Rattle.std.proofs.Common.{rules}
use Rattle.csv.specs.Writing.{fields_text, is_blank}
use Rattle.pf_windows.specs.Windows.{windows_text}
use Rattle.pf_windows.proofs.windows.window_pieces.Goals as goal

pub returns : goal.returns
unfolding windows_text fields_text is_blank
returns c = search rules
