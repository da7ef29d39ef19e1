use Rattle.std.proofs.Common.{◌≡◌, drop}
use Rattle.pf_why.specs.Upcoming.{brought_in}
use Rattle.pf_why.proofs.upcoming.brought_in.Given as goal

-- none of the events so far brings the task
abbrev pub invariant-loop-numbered : goal.invariant-loop-numbered
invariant-loop-numbered l = brought_in l.settings.base (drop l.numbered-index l.events) l.task ≡ brought_in l.settings.base l.events l.task
