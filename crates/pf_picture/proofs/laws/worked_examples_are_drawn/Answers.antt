use Rattle.pf_picture.proofs.Examples.{worked_pictures}
use Rattle.pf_picture.proofs.laws.worked_examples_are_drawn.Goals as goal

pub returns : goal.returns
returns c = worked_pictures
