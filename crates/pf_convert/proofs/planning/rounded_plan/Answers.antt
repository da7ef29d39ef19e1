use Rattle.std.proofs.Common.{subst}
use Rattle.std.specs.Prelude.{MatchOption}
use Rattle.pf_convert.specs.Rounding.{HasNoBase, IsBestBase}
use Rattle.pf_convert.proofs.Powers.{smooth_some}
use Rattle.pf_convert.proofs.planning.rounded_plan.Goals as goal

pub divisors_of-requires-clause-some : goal.divisors_of-requires-clause-some
divisors_of-requires-clause-some c =
    let best : IsBestBase c.args.tasks.now c.in-Some.best =
    subst (λ o. MatchOption o (HasNoBase c.args.tasks.now) (IsBestBase c.args.tasks.now)) c.in-Some.is c.in_ok-best.ensures in
    smooth_some c.in-Some.best.base best.smooth
