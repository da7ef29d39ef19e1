use Rattle.std.proofs.Common.{subst}
use Rattle.pf_plain_script.specs.Plain.{MakesPlain, plain}
use Rattle.pf_session_views.proofs.Shown.{plan_shows}
use Rattle.pf_session_views.proofs.show.script_shown.Goals as goal

pub returns-in-Some : goal.returns-in-Some
returns-in-Some c =
    plan_shows c.args.now c.in-Some.plain c.args.wanted.now c.args.script.now c.show_plan.result
    (subst (λ made. MakesPlain made (plain c.args.script.now)) c.in-Some.is c.in_ok-plain.ensures) c.show_plan.ensures
