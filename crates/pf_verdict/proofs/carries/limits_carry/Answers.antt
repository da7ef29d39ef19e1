use Rattle.std.proofs.Common.{rules, ◌≡◌, ◌∙◌, sym, ap, true, false, [], ◌∷◌, ◌&&◌, List}
use Rattle.std.specs.List.{list_all}
use Rattle.pf_scenario.specs.declared.event.Numbered.{Numbered}
use Rattle.pf_verdict.specs.Carries.{carries_with}
use Rattle.pf_verdict.proofs.carries.limits_carry.Goals as goal

pub loop-numbered-preserved : goal.loop-numbered-preserved
loop-numbered-preserved c =
    let split : c.loop-numbered.numbered-iterator ≡ c.in-Some.numbered ∷ c.next.new.self = search rules in
    let carries : carries_with c.args.settings c.in-Some.numbered.event ≡ true = search rules in
    let rest = list_all (λ (x : Numbered). carries_with c.args.settings x.event) c.next.new.self in
    sym (ap (λ (xs : List Numbered). list_all (λ x. carries_with c.args.settings x.event) xs) split ∙ ap (λ b. b && rest) carries)
    ∙ c.loop-numbered.invariant

pub returns-then-not-carries_with-clause-value : goal.returns-then-not-carries_with-clause-value
returns-then-not-carries_with-clause-value c =
    let split : c.loop-numbered.numbered-iterator ≡ c.in-Some.numbered ∷ c.next.new.self = search rules in
    let carries : carries_with c.args.settings c.in-Some.numbered.event ≡ false = search rules in
    let rest = list_all (λ (x : Numbered). carries_with c.args.settings x.event) c.next.new.self in
    sym (ap (λ (xs : List Numbered). list_all (λ x. carries_with c.args.settings x.event) xs) split ∙ ap (λ b. b && rest) carries)
    ∙ c.loop-numbered.invariant

pub returns-clause-value : goal.returns-clause-value
returns-clause-value c =
    let done : c.loop-numbered.numbered-iterator ≡ [] = search rules in
    sym (ap (λ (xs : List Numbered). list_all (λ x. carries_with c.args.settings x.event) xs) done) ∙ c.loop-numbered.invariant
