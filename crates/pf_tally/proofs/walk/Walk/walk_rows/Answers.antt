use Rattle.std.proofs.Common.{arith, subst, ◌≡◌, ℕ}
use Rattle.pf_place.specs.Lent.{lent_row}
use Rattle.pf_tally.specs.Walk.{HasWalked}
use Rattle.pf_tally.proofs.Noting.{got_at, got_none, row_at}
use Rattle.pf_tally.proofs.Walks.{none_walked, rows_walked}
use Rattle.pf_tally.proofs.walk.Walk.walk_rows.Goals as goal

pub loop-t-init : goal.loop-t-init
loop-t-init c = none_walked c.args.rows.now c.args.from c.args.self.now

pub note_row-requires : goal.note_row-requires
note_row-requires c = record {
  row = row_at c.args.processors c.args.rows.now c.loop-t.t (lent_row c.in-Some.row) c.requires.rows (omega arith) (got_at c.args.rows.now c.loop-t.t (lent_row c.in-Some.row) c.in-Some.ensures);
  within = c.loop-t.invariant.within _ c.requires.within;
  slot = omega arith;
}

pub unreachable-requires : goal.unreachable-requires
unreachable-requires c = got_none c.args.rows.now c.loop-t.t (omega arith) c.in-None.ensures

pub loop-t-preserved : goal.loop-t-preserved
loop-t-preserved c =
    rows_walked c.args.rows.now c.args.from c.loop-t.t (lent_row c.in-Some.row) c.args.self.now c.loop-t.self _ (omega arith) (omega arith)
    (got_at c.args.rows.now c.loop-t.t (lent_row c.in-Some.row) c.in-Some.ensures) c.loop-t.invariant c.in_ok-note_row-in-Some.ensures

pub returns : goal.returns
returns c =
    let same : c.loop-t.t ≡ c.args.to = omega arith in
    let P : ℕ → Type 0 = λ t. HasWalked c.args.rows.now c.args.from t c.args.self.now c.loop-t.self in
    subst P same c.loop-t.invariant
