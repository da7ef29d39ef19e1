use Rattle.std.proofs.Common.{List, ℕ, map, refl, subst, sym}
use Rattle.pf_arguments.specs.Asked.{IsShownTo}
use Rattle.pf_cli.proofs.WordsAnswered.{desk_answers, desk_reads, no_memory_at_any_desk, refusal_answers, text_answers}
use Rattle.pf_cli.proofs.program.main_words.Goals as goal

pub returns-in-Ok-Show-clause-streams : goal.returns-in-Ok-Show-clause-streams
returns-in-Ok-Show-clause-streams g c =
    text_answers (map g.S.AsStr.text c.args.words.now) c.as_str.result.now _ c.show.result _ _ _ _
    (subst (λ (t : List ℕ). IsShownTo (map g.S.AsStr.text c.args.words.now) t) (sym c.as_str.ensures.value) (rw c.in-Ok-Show.field-0-is at c.in-Ok-Show.ensures.asked))
    refl refl c.show.ensures.shown

pub returns-in-Err-clause-streams : goal.returns-in-Err-clause-streams
returns-in-Err-clause-streams g c =
    refusal_answers (map g.S.AsStr.text c.args.words.now) c.in-Err.fault _ c.refuse.result _ _ _ c.in-Err.ensures.asked c.refuse.ensures.status
    c.refuse.ensures.told (λ four told desk. no_memory_at_any_desk _ _ _ _ _ desk.journal desk _ _ c.refuse.result _ _ four told refl refl refl refl)

pub returns-in-Ok-Sit-clause-streams : goal.returns-in-Ok-Sit-clause-streams
returns-in-Ok-Sit-clause-streams g c =
    desk_answers (map g.S.AsStr.text c.args.words.now) c.in-Ok-Sit.desk _ _ _ _ _ _ (rw c.in-Ok-Sit.field-0-is at c.in-Ok-Sit.ensures.asked)
    c.hold_desk.ensures

pub returns-in-Ok-Sit-clause-unread : goal.returns-in-Ok-Sit-clause-unread
returns-in-Ok-Sit-clause-unread g c =
    let asked = rw c.in-Ok-Sit.field-0-is at c.in-Ok-Sit.ensures.asked in
    λ unread. absurd (desk_reads (map g.S.AsStr.text c.args.words.now) _ unread asked.0 asked.1 asked.2)
