use Rattle.std.proofs.Common.{◌≡◌, ℕ, List, IfOk, subst, sym}
use Rattle.pf_arguments.proofs.HintsLemmas.Mapped.{several}
use Rattle.pf_arguments.proofs.hints.script.several_hint.Goals as goal

pub returns-in_default : goal.returns-in_default
returns-in_default c =
    subst (λ (e : List ℕ). IfOk c.from_slice.result (λ text. text.items ≡ e)) (sym (several (λ s. s.now) c.args.scripts.now c.in_default.len_at_least))
    c.from_slice.ensures.items
