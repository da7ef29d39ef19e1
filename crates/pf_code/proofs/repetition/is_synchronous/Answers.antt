use Rattle.std.proofs.Common.{rules, ◌≡◌, ◌∙◌, sym, ap, true, false, [], ◌∷◌, ◌&&◌, List}
use Rattle.std.specs.List.{list_all}
use Rattle.pf_scenario.specs.declared.event.Numbered.{Numbered}
use Rattle.pf_code.specs.Repetition.{joins_at_start}
use Rattle.pf_code.proofs.repetition.is_synchronous.Goals as goal

pub loop-numbered-preserved : goal.loop-numbered-preserved
loop-numbered-preserved c =
    let split : c.loop-numbered.numbered-iterator ≡ c.in-Some.numbered ∷ c.next.new.self = search rules in
    let joins : joins_at_start c.in-Some.numbered.event ≡ true = search rules in
    let rest = list_all (λ (x : Numbered). joins_at_start x.event) c.next.new.self in
    sym (ap (λ (xs : List Numbered). list_all (λ x. joins_at_start x.event) xs) split ∙ ap (λ b. b && rest) joins)
    ∙ c.loop-numbered.invariant

pub returns-then-not-joins_at_start : goal.returns-then-not-joins_at_start
returns-then-not-joins_at_start c =
    let split : c.loop-numbered.numbered-iterator ≡ c.in-Some.numbered ∷ c.next.new.self = search rules in
    let joins : joins_at_start c.in-Some.numbered.event ≡ false = search rules in
    let rest = list_all (λ (x : Numbered). joins_at_start x.event) c.next.new.self in
    sym (ap (λ (xs : List Numbered). list_all (λ x. joins_at_start x.event) xs) split ∙ ap (λ b. b && rest) joins)
    ∙ c.loop-numbered.invariant

pub returns : goal.returns
returns c =
    let done : c.loop-numbered.numbered-iterator ≡ [] = search rules in
    sym (ap (λ (xs : List Numbered). list_all (λ x. joins_at_start x.event) xs) done) ∙ c.loop-numbered.invariant
