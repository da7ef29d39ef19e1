use Rattle.std.proofs.Common.{subst}
use Rattle.pf_journal.specs.Kept.{disk_of}
use Rattle.pf_journal.proofs.Resting.{kept_opens}
use Rattle.pf_journal.proofs.journal.Journal.add_line.Goals as goal
use Rattle.pf_journal.proofs.journal.Journal.add_line.Goals.{then-not-has_room+in_ok-put, else-not-has_room}

pub returns-clause-opens : goal.returns-clause-opens
returns-clause-opens g c mixing clean left may = elim c.if-not-has_room.branch [
  | then-not-has_room+in_ok-put w ↦
      w.put.ensures.opens mixing clean left (subst (λ s. g.D.Disk.may_leave (disk_of s) left) w.self-is may)
  | else-not-has_room w ↦
      kept_opens _ _ _ _ c.args.self.now c.requires.kept clean left (subst (λ s. g.D.Disk.may_leave (disk_of s) left) w.self-is may)
]
