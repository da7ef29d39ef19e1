use Rattle.std.proofs.Common.{not, ℕ, List, [], ◌∷◌, ◌∙◌}
use Rattle.std.specs.Prelude.{IsTrue}
use Rattle.std.proofs.lemmas.Result.{on_ok_weaker}
use Rattle.pf_journal.specs.Batches.{has_room}
use Rattle.pf_journal.specs.Kept.{disk_of}
use Rattle.pf_journal.specs.Texts.{whole_lines}
use Rattle.pf_journal.proofs.Adding.{added_so, cause_of, midway_end, midway_leaves, midway_line, midway_long}
use Rattle.pf_journal.proofs.journal.Journal.put_lines.Goals as goal

pub returns-in-Err-clause-crash : goal.returns-in-Err-clause-crash
returns-in-Err-clause-crash g c clean left may =
    midway_leaves _ _ _ _ _ _ left c.loop-line.invariant.midway clean (c.add_line.ensures.crash (c.loop-line.invariant.calm ∙ clean) left may)

pub returns-in-Err-clause-failed : goal.returns-in-Err-clause-failed
returns-in-Err-clause-failed g c =
    cause_of g.D.Disk.seen g.D.Disk.faults g.D.Disk.is_clean (whole_lines c.args.text.now) (c.in-Some.line.now ∷ []) _ (disk_of c.args.self.now)
    (disk_of c.loop-line.self) (disk_of c.add_line.new.self) c.loop-line.invariant.faults
    (midway_long _ _ _ _ _ c.loop-line.rest.now c.in-Some.line.now _ (λ (l : List ℕ). not (has_room [] l)) c.loop-line.invariant.midway c.in-Some.ensures)
    c.in-Err.ensures.failed

pub loop-line-preserved : goal.loop-line-preserved
loop-line-preserved g c = record {
  kept = c.in-Ok.ensures.kept;
  calm = c.add_line.ensures.calm ∙ c.loop-line.invariant.calm;
  faults = c.in-Ok.ensures.faults ∙ c.loop-line.invariant.faults;
  midway = midway_line _ _ _ _ _ _ _ _ _ _ c.loop-line.invariant.midway c.in-Some.ensures
      (added_so _ _ _ _ _ _ _ (λ (p : IsTrue (g.D.Disk.is_clean (disk_of c.args.self.now))). c.loop-line.invariant.calm ∙ p) c.in-Ok.ensures.added);
}

pub returns-clause-acknowledged : goal.returns-clause-acknowledged
returns-clause-acknowledged g c =
    on_ok_weaker c.put.result
    (λ had clean. midway_end _ _ _ _ _ _ _ c.loop-line.invariant.midway c.in_default.ensures clean (had (c.loop-line.invariant.calm ∙ clean))) c.put.ensures.acknowledged

pub returns-clause-crash : goal.returns-clause-crash
returns-clause-crash g c clean left may =
    midway_leaves _ _ _ _ _ _ left c.loop-line.invariant.midway clean (c.put.ensures.crash (c.loop-line.invariant.calm ∙ clean) left may)
