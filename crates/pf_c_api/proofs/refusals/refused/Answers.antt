use Rattle.std.proofs.Common.{◌++◌, ◌+◌, ◌∙◌, ap, sym, drop, append_assoc}
use Rattle.pf_desk.specs.Views.{lent_entry, lent_reply}
use Rattle.pf_c_api.specs.Refused.{refusal_in, refusals_from}
use Rattle.pf_c_api.proofs.Entries.{next_entry}
use Rattle.pf_c_api.proofs.refusals.refused.Goals as goal

pub loop-k-preserved : goal.loop-k-preserved
loop-k-preserved c =
    let k = c.loop-k.k in
    let entries = c.args.history.now.entries in
    let list = c.loop-k.refusals.items in
    let one = refusal_in (k + 1) (lent_reply c.in-Some.entry.reply) in
    let behind = refusals_from (k + 1 + 1) (drop (k + 1) entries) in
    ap (λ more. more ++ behind) c.in_ok-push_refusal.ensures
    ∙ append_assoc list one behind
    ∙ ap (λ es. list ++ refusals_from (k + 1) es) (sym (next_entry entries k (lent_entry c.in-Some.entry) c.in-Some.ensures))
    ∙ c.loop-k.invariant
