-- The planner and the passes of a desk that was just opened, and what is shown at the end.
use Rattle.std.proofs.Common.{◌≡◌, ℕ, zero, suc, ◌+◌, Option, Some, List, [], ◌∷◌, ◌++◌, length, map, refl, ap, ap₂, sym, subst, ◌∙◌, arith, length-append}
use Rattle.std.specs.Prelude.{option_to_list}
use Rattle.atomic_table.specs.Seated.{TableId}
use Rattle.pf_scenario.specs.System.{System}
use Rattle.pf_desk.specs.declared.entry.Entry.{Entry}
use Rattle.pf_desk.specs.Desk.{Seen}
use Rattle.pf_board.specs.Passes.{Passing, new_pass, new_passes}
use Rattle.pf_board.specs.Quanta.{issues}
use Rattle.pf_share.specs.Histories.{IsHistory, entries_of, quanta_of}
use Rattle.pf_drill.specs.declared.planner.Planner.{Planner}
use Rattle.pf_drill.specs.Drilled.{IsDrill, drill_text}
use Rattle.pf_drill.specs.Rounds.{AreOfBoard, IsInStep, ShowsPlan, commands_given}
use Rattle.pf_drill.proofs.Gated.{all_snoc}

-- the last of a list, taken off
snoc_same : {A : Type 0} (ys xs : List A) (p a : A) → ys ++ p ∷ [] ≡ xs ++ a ∷ [] → (ys ≡ xs) × (p ≡ a)
snoc_same [] [] p a e = (refl, cc)
snoc_same [] (x ∷ xs) p a e = absurd (omega (arith, ap length e, length-append xs (a ∷ [])))
snoc_same (y ∷ ys) [] p a e = absurd (omega (arith, ap length e, length-append ys (p ∷ [])))
snoc_same (y ∷ ys) (x ∷ xs) p a e =
    let rest = snoc_same ys xs p a (cc e) in
    let head : y ≡ x = cc e in
    (ap₂ (λ h t. h ∷ t) head rest.0, rest.1)

next_pass : (board : TableId) (settings : System) (n : ℕ) → new_passes {E = Entry} board settings (n + 1) ≡ new_passes board settings n ++ new_pass board settings n ∷ []
next_pass board settings n = let one : n + 1 ≡ suc n = omega arith in ap (new_passes board settings) one

of_board : (board : TableId) (settings : System) (n : ℕ) → AreOfBoard board (new_passes board settings n)
of_board board settings zero = λ k d lt. absurd (omega arith)
of_board board settings (suc n) =
    all_snoc (λ p. p.board ≡ board) (new_passes board settings n) (new_passes board settings (suc n)) (new_pass board settings n) refl (of_board board settings n) refl

-- Use: the last pass is the planner's, and the others are of the board.
pub passes_apart : (board : TableId) (settings : System) (m : ℕ) (all rest : List (Passing Entry System)) (last : Option (Passing Entry System)) (pass : Passing Entry System)
    → all ≡ new_passes board settings (m + 1) → all ≡ rest ++ option_to_list last → last ≡ Some pass
    → AreOfBoard board rest × (pass ≡ new_pass board settings pass.me)
passes_apart board settings m all rest last pass is split some =
    let same : rest ++ pass ∷ [] ≡ new_passes board settings m ++ new_pass board settings m ∷ [] =
    ap (λ o. rest ++ option_to_list o) (sym some) ∙ (sym split ∙ (is ∙ next_pass board settings m)) in
    let parts = snoc_same rest (new_passes board settings m) pass (new_pass board settings m) same in (
      subst (λ (ps : List (Passing Entry System)). AreOfBoard board ps) (sym parts.0) (of_board board settings m),
      parts.1 ∙ ap (new_pass board settings) (sym (ap (λ p. p.me) parts.1)),
    )

-- Use: a planner that gave nothing.
pub begun : (board : TableId) (settings : System) (planner : Planner) (me : ℕ) → planner.pass ≡ new_pass board settings me → planner.answered ≡ 0
    → planner.issued.items ≡ [] → IsInStep board settings planner × (commands_given planner ≡ [])
begun board settings planner me is answered issued =
    let seen : planner.pass.seen ≡ [] = ap (λ p. p.seen) is in
    let history : IsHistory settings [] = record { is_legal = tt; callers = refl } in (
      record {
        board_is = ap (λ p. p.board) is;
        history = subst (λ (l : List (ℕ × Entry)). IsHistory settings l) (sym seen) history;
        answered = ap length seen ∙ sym answered;
        issued = issued ∙ sym (ap (issues quanta_of) seen);
      },
      ap (map (λ x. x.1.command)) seen,
    )

commands_same : (log : List (ℕ × Entry)) → map (λ e. e.command) (entries_of log) ≡ map (λ x. x.1.command) log
commands_same [] = refl
commands_same (x ∷ log) = ap (λ l. x.1.command ∷ l) (commands_same log)

-- Use: the text at the end is the drill's.
pub drilled : (board : TableId) (settings : System) (planner : Planner) (seen : Seen) (text : List ℕ) → IsInStep board settings planner
    → ShowsPlan settings planner seen → text ≡ drill_text seen planner.issued.items → IsDrill settings (commands_given planner) planner.issued.items text
drilled board settings planner seen text step shown is = record {
  history = entries_of planner.pass.seen;
  is_legal = shown.is_legal;
  commands_are = commands_same planner.pass.seen;
  taken_are = step.issued ∙ ap (issues quanta_of) step.history.callers;
  text_is = is ∙ ap (λ s. drill_text s planner.issued.items) shown.shown;
}
