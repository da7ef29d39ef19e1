use Rattle.std.proofs.Common.{rules}
use Rattle.csv.specs.Writing.{fields_text, is_blank}
use Rattle.pf_drill.specs.Taken.{taken_text_of}
use Rattle.pf_drill.proofs.taken.taken_pieces.Goals as goal

pub returns : goal.returns
unfolding taken_text_of fields_text is_blank
returns c = search rules
