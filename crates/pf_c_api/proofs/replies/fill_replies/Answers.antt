use Rattle.std.proofs.Common.{All, drop, subst, sym}
use Rattle.pf_report.specs.Replies.{HasFewPlaces}
use Rattle.pf_c_api.proofs.Entries.{few_left}
use Rattle.pf_c_api.proofs.replies.fill_replies.Goals as goal

pub reply_lines-requires : goal.reply_lines-requires
reply_lines-requires c =
    subst (λ es. All (λ e. HasFewPlaces e.reply) (drop c.args.first es)) (sym c.history.ensures.value)
    (few_left c.args.desk.now c.args.first c.history.ensures.desk)
