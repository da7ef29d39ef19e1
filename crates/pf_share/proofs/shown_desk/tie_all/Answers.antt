use Rattle.std.proofs.Common.{◌≡◌, ◌<◌, ◌∙◌, List, ap, sym, arith, length, subst}
use Rattle.std.specs.Prelude.{slice_set, slice_index_or}
use Rattle.std.proofs.lemmas.List.{set-get_or}
use mathlib.Core.List.{IsPrefix}
use Rattle.pf_scenario.specs.System.{System}
use Rattle.pf_desk.specs.declared.entry.Entry.{Entry}
use Rattle.pf_board.specs.Passes.{AreOf, Keeping, Passing, calls_by}
use Rattle.pf_share.proofs.Tying.{at_place, at_some, so_far}
use Rattle.pf_share.proofs.shown_desk.tie_all.Goals as goal

pub tie-requires-clause-board : goal.tie-requires-clause-board
tie-requires-clause-board c =
    let inv = c.loop-pass.invariant in
    let within : c.loop-pass.pass-index < length c.loop-pass.passes = omega (arith, c.loop-pass-test.true, c.loop-pass.auto.passes) in
    let all : AreOf c.args.board.now.id c.loop-pass.passes = subst (λ (l : List (Passing Entry System)). AreOf c.args.board.now.id l) (sym inv.same) c.requires.board.1 in (
      ap (λ k. k.board) inv.keeper ∙ c.requires.board.0,
      all c.loop-pass.pass-index _ (at_place c.loop-pass.passes c.loop-pass.pass-index c.pass-item.result within),
    )

pub loop-pass-preserved : goal.loop-pass-preserved
loop-pass-preserved c =
    let inv = c.loop-pass.invariant in
    let ps = c.loop-pass.passes in
    let i = c.loop-pass.pass-index in
    let within : i < length ps = omega (arith, c.loop-pass-test.true, c.loop-pass.auto.passes) in
    record {
      same = ap (slice_set ps i) c.tie.ensures.pass ∙ set-get_or ps i c.pass-item.result ∙ inv.same;
      keeper = c.tie.ensures.keeper ∙ inv.keeper;
      tied = so_far {X = Passing Entry System} (λ p. IsPrefix p.seen c.args.keeper.now.seen × (p.mine ≡ calls_by p.me c.args.keeper.now.seen)) c.args.passes.now ps i c.pass-item.result inv.same within inv.tied
          (subst (λ (k : Keeping Entry System). IsPrefix (slice_index_or ps i c.pass-item.result).seen k.seen × ((slice_index_or ps i c.pass-item.result).mine ≡ calls_by (slice_index_or ps i c.pass-item.result).me k.seen)) inv.keeper (c.tie.ensures.tied, c.tie.ensures.mine));
    }

pub returns-clause-tied : goal.returns-clause-tied
returns-clause-tied c k p at =
    let inv = c.loop-pass.invariant in
    let got = at_some c.args.passes.now k p at in
    subst (λ (x : Passing Entry System). IsPrefix x.seen c.args.keeper.now.seen × (x.mine ≡ calls_by x.me c.args.keeper.now.seen)) got.1
    (inv.tied k p (omega (arith, got.0, c.loop-pass-test.false)))
