use Rattle.std.proofs.Common.{◌≡◌, ◌++◌, All, drop}
use Rattle.std.specs.List.{flat_map}
use Rattle.pf_report.specs.Replies.{HasFewPlaces, reply_line}
use Rattle.pf_c_api.proofs.replies.reply_lines.Given as goal

-- the lines to come are those of the entries left
abbrev pub invariant-loop-k : goal.invariant-loop-k
invariant-loop-k l = record {
  places : All (λ e. HasFewPlaces e.reply) (drop l.k l.history.entries);
  text : l.text.items ++ flat_map (λ e. reply_line e.reply) (drop l.k l.history.entries)
      ≡ flat_map (λ e. reply_line e.reply) (drop l.first l.history.entries);
}
