use Rattle.std.proofs.Common.{length, sym, ap, subst, arith}
use Rattle.std.specs.Prelude.{MatchOption, All}
use Rattle.std.proofs.lemmas.List.Sorted.{All-permutation, length_permutation}
use Rattle.pf_convert.specs.Rounding.{HasNoBase, IsBestBase}
use Rattle.pf_convert.specs.Slots.{IsSlotted}
use Rattle.pf_convert.proofs.Stretches.{best_of_moved}
use Rattle.pf_convert.proofs.best_base.best_base.Goals as goal

pub best_of-requires-clause-slotted : goal.best_of-requires-clause-slotted
best_of-requires-clause-slotted c =
    subst (λ ts. All IsSlotted ts) (sym c.deref-2.ensures.value)
    (All-permutation IsSlotted c.args.tasks.now c.in_ok-sorted.sorted.items c.in_ok-sorted.ensures.permutation c.requires.slotted)

pub best_of-requires-clause-few : goal.best_of-requires-clause-few
best_of-requires-clause-few c =
    omega (
      arith,
      c.requires.few,
      length_permutation c.args.tasks.now c.in_ok-sorted.sorted.items c.in_ok-sorted.ensures.permutation,
      ap length c.deref-2.ensures.value,
    )

pub returns : goal.returns
returns c =
    best_of_moved c.args.tasks.now c.in_ok-sorted.sorted.items c.best_of.result c.in_ok-sorted.ensures.permutation
    (subst (λ ts. MatchOption c.best_of.result (HasNoBase ts) (IsBestBase ts)) c.deref-2.ensures.value c.best_of.ensures)
