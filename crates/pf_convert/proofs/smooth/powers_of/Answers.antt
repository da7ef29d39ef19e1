use Rattle.std.proofs.Common.{◌*◌, sym, subst}
use Rattle.pf_convert.proofs.Powers.{ArePowersSoFar, power_pushed, all_powers}
use Rattle.pf_convert.proofs.smooth.powers_of.Goals as goal

pub powers-preserved : goal.powers-preserved
powers-preserved c =
    subst (ArePowersSoFar c.args.number c.args.factor (c.powers.power * c.args.factor)) (sym c.in_ok-push.ensures.items)
    (power_pushed c.args.number c.args.factor c.powers.power c.powers.powers.items c.requires.factor c.powers-test.true c.powers.invariant)

pub returns : goal.returns
returns c = all_powers c.args.number c.args.factor c.powers.power c.powers.powers.items c.requires.factor c.powers-test.false c.powers.invariant
