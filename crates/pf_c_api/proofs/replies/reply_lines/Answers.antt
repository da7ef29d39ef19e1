use Rattle.std.proofs.Common.{◌++◌, ◌+◌, ◌∙◌, All, ap, sym, subst, drop, append_assoc}
use Rattle.std.specs.List.{flat_map}
use Rattle.std.proofs.lemmas.List.Elements.{All-head, All-tail}
use Rattle.pf_desk.specs.Views.{lent_entry}
use Rattle.pf_report.specs.Replies.{HasFewPlaces, reply_line}
use Rattle.pf_c_api.proofs.Entries.{next_entry}
use Rattle.pf_c_api.proofs.replies.reply_lines.Goals as goal

pub push_reply-requires : goal.push_reply-requires
push_reply-requires c =
    let entries = c.args.history.now.entries in
    let e = lent_entry c.in-Some.entry in
    All-head (λ e. HasFewPlaces e.reply) e (drop (c.loop-k.k + 1) entries)
    (subst (All (λ e. HasFewPlaces e.reply)) (next_entry entries c.loop-k.k e c.in-Some.ensures) c.loop-k.invariant.places)

pub loop-k-preserved : goal.loop-k-preserved
loop-k-preserved c =
    let k = c.loop-k.k in
    let entries = c.args.history.now.entries in
    let e = lent_entry c.in-Some.entry in
    let next = next_entry entries k e c.in-Some.ensures in
    let lines = flat_map (λ e. reply_line e.reply) in
    record {
      places = All-tail (λ e. HasFewPlaces e.reply) e (drop (k + 1) entries) (subst (All (λ e. HasFewPlaces e.reply)) next c.loop-k.invariant.places);
      text = ap (λ t. t ++ lines (drop (k + 1) entries)) c.in_ok-push_reply.ensures
          ∙ append_assoc c.loop-k.text.items (reply_line e.reply) (lines (drop (k + 1) entries))
          ∙ ap (λ es. c.loop-k.text.items ++ lines es) (sym next)
          ∙ c.loop-k.invariant.text;
    }
