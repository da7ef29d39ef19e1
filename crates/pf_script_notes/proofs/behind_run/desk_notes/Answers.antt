use Rattle.std.proofs.Common.{ap}
use Rattle.pf_desk.specs.Desk.{Seen}
use Rattle.pf_script.specs.Told.{told}
use Rattle.pf_script_notes.proofs.Seen.{seen_behind}
use Rattle.pf_script_notes.proofs.behind_run.desk_notes.Goals as goal

pub returns : goal.returns
returns c = record {
  seen = c.in_ok-snapshot.snapshot;
  behind = seen_behind (told c.args.script.now) c.args.desk.now c.in_ok-snapshot.snapshot c.requires c.in_ok-snapshot.ensures.stands
      (ap (λ (s : Seen). s.state) c.in_ok-snapshot.ensures.shown);
  came = c.in_ok-recount.recount;
  counted = c.in_ok-recount.ensures;
  is = c.in_ok-text.ensures;
}
