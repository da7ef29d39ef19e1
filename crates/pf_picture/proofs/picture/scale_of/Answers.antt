use Rattle.std.proofs.Common.{ap, arith}
use Rattle.pf_desk.proofs.Places.{length-rows}
use Rattle.pf_picture.proofs.picture.scale_of.Goals as goal

pub returns-clause-within : goal.returns-clause-within
returns-clause-within c =
    let seen = c.args.snapshot.now in
    omega (arith, c.requires.within, ap (λ s. s.to) c.new.ensures, length-rows seen.state.plan _ seen.rows seen.denials c.now-now.ensures.of_run)
