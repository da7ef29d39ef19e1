use Rattle.std.proofs.Common.{◌≡◌, ℕ, List, [], ◌∷◌, ◌++◌, sym, ap, subst, ◌∙◌}
use Rattle.pf_board.specs.Passes.{IsIn, below}
use Rattle.pf_board.proofs.Known.{checked_all}
use Rattle.thread_tests.specs.Entries.{step_of}
use Rattle.thread_tests.proofs.Stepping.{issues_one}
use Rattle.thread_tests.proofs.steps.enter.Goals as goal

pub note-count-requires-clause-step : goal.note-count-requires-clause-step
note-count-requires-clause-step c =
    let old = c.args.keeper.now in
    let m = c.args.board.now.processors in
    let turn = c.turn-turn.ensures.turn in
    let none = c.in-None.ensures.none in
    let empty : c.turn-turn.result.empty ≡ old.empty ++ below m = ap (λ t. t.empty) turn ∙ ap (λ k. k.empty) none in
    λ _. (ap (λ t. t.left) turn ∙ (ap (λ k. k.left) none ∙ c.requires.here.1), λ p lt. subst (λ (xs : List ℕ). IsIn xs p) (sym empty) (checked_all old.empty m p lt))

pub issue-requires-clause-unissued : goal.issue-requires-clause-unissued
issue-requires-clause-unissued c =
    let old = c.args.keeper.now in
    let q = c.args.quantum in
    let me = c.args.pass.now.me in
    let turn = c.turn-turn.ensures.turn in
    let none = c.in-None.ensures.none in
    let noted = c.note-count.ensures.keeper in
    let whole : c.turn-turn.result.whole ≡ old.seen = ap (λ t. t.whole) turn ∙ ap (λ k. k.seen) none in
    let seen : c.note-count.new.keeper.seen ≡ old.seen ++ (me, step_of q) ∷ [] = ap (λ k. k.seen) noted ∙ ap (λ l. l ++ (me, step_of q) ∷ []) whole in
    let nothing : c.turn-turn.result.left ≡ [] = ap (λ t. t.left) turn ∙ (ap (λ k. k.left) none ∙ c.requires.here.1) in
    let left : c.note-count.new.keeper.left ≡ q ∷ [] = ap (λ k. k.left) noted ∙ ap (λ l. l ++ q ∷ []) nothing in
    rw (seen, left) (issues_one q old.seen me c.requires.fresh)

pub issue-requires-clause-empty : goal.issue-requires-clause-empty
issue-requires-clause-empty c =
    let old = c.args.keeper.now in
    let m = c.args.board.now.processors in
    let empty : c.note-count.new.keeper.empty ≡ old.empty ++ below m = ap (λ k. k.empty) c.note-count.ensures.keeper ∙ (ap (λ t. t.empty) c.turn-turn.ensures.turn ∙ ap (λ k. k.empty) c.in-None.ensures.none) in
    subst (λ (xs : List ℕ). IsIn xs c.args.quantum.processor) (sym empty) (checked_all old.empty m c.args.quantum.processor c.requires.fits.1)
