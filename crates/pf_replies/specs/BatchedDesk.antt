-- The parts of a desk with edits that wait.
use Rattle.std.specs.Prelude.{◌≤◌, All, drop, length}
use Rattle.pf_desk.specs.Plain.{IsPlain}
use Rattle.pf_replies.specs.declared.batching_desk.BatchingDesk.TheInside.{Inside}
use Rattle.pf_replies.specs.Batched.{Batched}
use Rattle.pf_replies.specs.Course.{course_at}
use Rattle.pf_report.specs.Replies.{HasFewPlaces}

abbrev pub batched_by : Inside → Batched
batched_by d = record { answered = course_at d.desk; waiting = d.waiting.items; unshown = drop d.shown d.desk.history }

pub record AreBatched (d : Inside) : Type 0 where
  pub plain : All IsPlain d.waiting.items
  pub within : d.shown ≤ length d.desk.history
  pub places : All (λ e. HasFewPlaces e.reply) (drop d.shown d.desk.history)
