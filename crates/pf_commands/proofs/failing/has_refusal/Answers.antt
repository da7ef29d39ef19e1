use Rattle.std.proofs.Common.{◌≡◌, ◌+◌, ◌∙◌, true, false, sym, ap, drop}
use Rattle.std.specs.Prelude.{◌||◌}
use Rattle.pf_desk.specs.Views.{lent_entry}
use Rattle.pf_report.specs.Replies.{is_refusal}
use Rattle.pf_replies.proofs.Batches.{next_entry}
use Rattle.pf_replies.proofs.Courses.{has_refusal}
use Rattle.pf_commands.proofs.failing.has_refusal.Goals as goal

pub loop-k-preserved : goal.loop-k-preserved
loop-k-preserved c =
    let k = c.loop-k.k in
    let entries = c.history-history.result.now.entries in
    let e = lent_entry c.in-Some.entry in
    let no : is_refusal e.reply ≡ false = sym c.is_refusal.ensures ∙ c.if-is_refusal.false in
    ap (λ b. b || has_refusal (drop (k + 1) entries)) (sym no) ∙ sym (ap has_refusal (next_entry entries k e c.in-Some.ensures)) ∙ c.loop-k.invariant

pub returns-then-is_refusal : goal.returns-then-is_refusal
returns-then-is_refusal c =
    let k = c.loop-k.k in
    let entries = c.history-history.result.now.entries in
    let e = lent_entry c.in-Some.entry in
    let yes : is_refusal e.reply ≡ true = sym c.is_refusal.ensures ∙ c.if-is_refusal.true in
    ap (λ b. b || has_refusal (drop (k + 1) entries)) (sym yes) ∙ sym (ap has_refusal (next_entry entries k e c.in-Some.ensures)) ∙ c.loop-k.invariant
    ∙ ap has_refusal c.history-history.ensures.value
