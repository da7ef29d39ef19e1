-- A planner's command, entered where nobody else enters any.
use Rattle.std.proofs.Common.{◌≡◌, ℕ, ◌+◌, ◌-◌, List, [], ◌∷◌, ◌++◌, length, map, refl, ap, ap₂, sym, subst, ◌∙◌, arith, length-append}
use Rattle.std.specs.Prelude.{Result, Ok, Err, IfOk}
use mathlib.Core.List.{IsPrefix}
use Rattle.atomic_table.specs.Seated.{TableId}
use Rattle.pf_lemmas.proofs.Prefixes.{prefix_whole}
use Rattle.pf_scenario.specs.System.{System}
use Rattle.pf_desk.specs.declared.command.Command.{Command}
use Rattle.pf_desk.specs.declared.entry.Entry.{Entry}
use Rattle.pf_desk.specs.Desk.{entry_of}
use Rattle.pf_board.specs.Passes.{Passing}
use Rattle.pf_board.specs.Quanta.{issues}
use Rattle.pf_share.specs.declared.done.Done.{Done}
use Rattle.pf_share.specs.Entered.{Enters}
use Rattle.pf_share.specs.Histories.{quanta_of, quanta_of_reply}
use Rattle.pf_drill.specs.declared.planner.Planner.{Planner}
use Rattle.pf_drill.specs.Rounds.{GoesOn, IsInStep, commands_given}
use Rattle.pf_drill.proofs.Issued.{issues_push}

-- Use: the pass's command was answered, whatever its loads found before.
pub goes_on : (settings : System) (command : Command) (v u w : Passing Entry System) (done : Done) → u ≡ record v { loads = u.loads }
    → Enters settings command u done w → GoesOn settings command v done w
goes_on settings command v u w done same e = record {
  before = e.before;
  begins = subst (λ (l : List (ℕ × Entry)). IsPrefix l e.before) (ap (λ p. p.seen) same) e.begins;
  answer = e.answer;
  seen = ap (λ p. p.seen) e.pass ∙ ap (λ p. e.before ++ (p.me, entry_of p.me command done.reply) ∷ []) same;
  history = e.is_legal;
  front = e.front;
  board = ap (λ p. p.board) e.pass ∙ ap (λ p. p.board) same;
}

pub goes_on_if : {F : Type 0} (settings : System) (command : Command) (v w : Passing Entry System) (r : Result Done F)
    → IfOk r (λ done. Enters settings command v done w) → IfOk r (λ done. GoesOn settings command v done w)
goes_on_if settings command v w (Ok done) e = goes_on settings command v v w done refl e
goes_on_if settings command v w (Err fault) e = tt

commands_push : (xs : List (ℕ × Entry)) (x : ℕ × Entry) → map (λ e. e.1.command) (xs ++ x ∷ []) ≡ map (λ e. e.1.command) xs ++ x.1.command ∷ []
commands_push [] x = refl
commands_push (y ∷ xs) x = ap (λ l. y.1.command ∷ l) (commands_push xs x)

-- Use: the planner's command was entered, and nobody else's before.
pub entered : (board : TableId) (settings : System) (command : Command) (old new : Planner) (done : Done) → IsInStep board settings old
    → GoesOn settings command old.pass done new.pass → done.front - 1 ≡ old.answered → new.answered ≡ done.front
    → new.issued.items ≡ old.issued.items ++ quanta_of_reply done.reply
    → IsInStep board settings new × (commands_given new ≡ commands_given old ++ command ∷ [])
entered board settings command old new done was on alone answered issued =
    let x : ℕ × Entry = (old.pass.me, entry_of old.pass.me command done.reply) in
    let long : length new.pass.seen ≡ length on.before + 1 = ap length on.seen ∙ length-append on.before (x ∷ []) in
    let same : old.pass.seen ≡ on.before = prefix_whole old.pass.seen on.before on.begins (omega (arith, long, on.front, alone, was.answered)) in
    let seen : new.pass.seen ≡ old.pass.seen ++ x ∷ [] = on.seen ∙ ap (λ l. l ++ x ∷ []) (sym same) in (
      record {
        board_is = on.board ∙ was.board_is;
        history = on.history;
        answered = sym on.front ∙ sym answered;
        issued = issued
            ∙ (ap (λ qs. qs ++ quanta_of_reply done.reply) was.issued
            ∙ (sym (issues_push quanta_of old.pass.seen x) ∙ ap (issues quanta_of) (sym seen)));
      },
      ap (map (λ e. e.1.command)) seen ∙ commands_push old.pass.seen x,
    )
