use Rattle.pf_timeline.proofs.Past.{timelines_rest_on_past}
use Rattle.pf_timeline.proofs.laws.timelines_rest_on_the_past.Goals as goal

pub returns : goal.returns
returns c = timelines_rest_on_past
