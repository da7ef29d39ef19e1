use Rattle.std.proofs.Common.{◌≡◌, ◌<◌, ◌-◌, length, get_or, ap, sym, ◌∙◌, rules, arith}
use Rattle.pf_desk.specs.Runs.{brief_of_run}
use Rattle.pf_desk.proofs.Runs.{brief_of_last}
use Rattle.pf_desk.proofs.briefs.goes_on.Goals as goal

pub returns-in-Some-clause-brief : goal.returns-in-Some-clause-brief
returns-in-Some-clause-brief c same before =
    let runs = c.args.runs.now in
    let run = c.in-Some.run'.now in
    let count = c.args.count in
    let some : 0 < length runs = search rules in
    let at : get_or runs (length runs - 1) run ≡ run = search rules in
    let eq : c.brief.result ≡ c.args.brief = search rules in
    brief_of_last before runs count (length runs) run (λ m l. omega (arith, c.requires m run l)) (λ m l u. absurd (omega arith)) some (omega arith)
    ∙ ap (λ r. brief_of_run r count) at
    ∙ sym c.brief.ensures
    ∙ eq
