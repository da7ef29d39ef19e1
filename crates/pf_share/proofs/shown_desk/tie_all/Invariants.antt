use Rattle.std.proofs.Common.{◌≡◌, ℕ, ◌<◌}
use Rattle.std.specs.Prelude.{slice_index_or}
use mathlib.Core.List.{IsPrefix}
use Rattle.pf_board.specs.Passes.{calls_by}
use Rattle.pf_share.proofs.shown_desk.tie_all.Given as goal

-- all are as before, and the passes so far have seen a beginning
abbrev pub invariant-loop-pass : goal.invariant-loop-pass
invariant-loop-pass l = record {
  same : l.passes ≡ l.fn.passes;
  keeper : l.keeper ≡ l.fn.keeper;
  tied : (k : ℕ) (d : _) → k < l.pass-index → IsPrefix (slice_index_or l.fn.passes k d).seen l.fn.keeper.seen
      × ((slice_index_or l.fn.passes k d).mine ≡ calls_by (slice_index_or l.fn.passes k d).me l.fn.keeper.seen);
}
