-- The replies that a desk has given.
use Rattle.std.specs.Prelude.{ℕ, List, drop}
use Rattle.std.specs.List.{flat_map}
use Rattle.pf_desk.specs.Desk.{Shown}
use Rattle.pf_report.specs.Replies.{reply_line}

-- the reply lines of the commands from the first of these on
abbrev pub replies_from : ℕ → Shown → List ℕ
replies_from first d = flat_map (λ e. reply_line e.reply) (drop first d.history)
