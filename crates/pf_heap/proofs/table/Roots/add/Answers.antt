use Rattle.std.proofs.Common.{◌≢◌, ◌+◌, refl, sym, ap, subst, arith}
use Rattle.std.proofs.lemmas.List.{get_or_default}
use Rattle.std.proofs.lemmas.Nat.{pow_below}
use Rattle.std.specs.Int.{bit_at}
use Rattle.pf_heap.specs.Forest.{nowhere}
use Rattle.pf_heap.specs.declared.table.Roots.{Roots}
use Rattle.pf_heap.specs.Table.{IsTable}
use Rattle.pf_heap.proofs.Tables.{ranks_low, shifted, one_tree}
use Rattle.pf_heap.proofs.AddedTrees.{carried_begun, carried_in, carried_on, carried_node, carried_low, there_node}
use Rattle.pf_heap.proofs.table.Roots.add.Goals as goal

pub loop-now-init : goal.loop-now-init
loop-now-init c = record { same = refl; carried = λ can. carried_begun _ _ _ _ _ can }

pub overflow_add-self : goal.overflow_add-self
overflow_add-self c =
    let can = c.requires.can in
    let t : IsTable c.loop-now.self can.trees = subst (λ (r : Roots). IsTable r can.trees) (sym c.loop-now.invariant.same) can.table_is in
    omega (arith, ranks_low t, shifted c.args.rank c.requires.low, pow_below c.args.rank 16 c.requires.low)

pub returns-then-not-has : goal.returns-then-not-has
returns-then-not-has c = λ can.
    let t : IsTable c.loop-now.self can.trees = subst (λ (r : Roots). IsTable r can.trees) (sym c.loop-now.invariant.same) can.table_is in
    let vacant : bit_at c.loop-now.self.ranks c.loop-now.now ≢ 1 = λ z. let no = c.if-not-has.ensures.1 z in cc in
    carried_in t (c.loop-now.invariant.carried can) (omega arith) vacant c.args.rank _ can.is_tree (one_tree can.added can.added_is can.some_tree)
    (ap (λ x. c.loop-now.self.ranks + x) (shifted c.args.rank c.requires.low))

pub join-carry-requires-clause-first : goal.join-carry-requires-clause-first
join-carry-requires-clause-first c =
    let can = c.requires.can in
    let t : IsTable c.loop-now.self can.trees = subst (λ (r : Roots). IsTable r can.trees) (sym c.loop-now.invariant.same) can.table_is in
    (there_node t (c.loop-now.invariant.carried can) (omega arith) (c.if-not-has.ensures.0 refl) _
    (get_or_default c.loop-now.self.trees c.loop-now.now 0 nowhere (omega (arith, t.places)))).1

pub join-carry-requires-clause-second : goal.join-carry-requires-clause-second
join-carry-requires-clause-second c =
    let can = c.requires.can in
    let t : IsTable c.loop-now.self can.trees = subst (λ (r : Roots). IsTable r can.trees) (sym c.loop-now.invariant.same) can.table_is in
    (carried_node t (c.loop-now.invariant.carried can)).0

pub join-carry-requires-clause-first_rank : goal.join-carry-requires-clause-first_rank
join-carry-requires-clause-first_rank c =
    let can = c.requires.can in
    let t : IsTable c.loop-now.self can.trees = subst (λ (r : Roots). IsTable r can.trees) (sym c.loop-now.invariant.same) can.table_is in
    omega (
      arith,
      (there_node t (c.loop-now.invariant.carried can) (omega arith) (c.if-not-has.ensures.0 refl) _
          (get_or_default c.loop-now.self.trees c.loop-now.now 0 nowhere (omega (arith, t.places)))).2,
    )

pub join-carry-requires-clause-second_rank : goal.join-carry-requires-clause-second_rank
join-carry-requires-clause-second_rank c =
    let can = c.requires.can in
    let t : IsTable c.loop-now.self can.trees = subst (λ (r : Roots). IsTable r can.trees) (sym c.loop-now.invariant.same) can.table_is in
    omega (arith, (carried_node t (c.loop-now.invariant.carried can)).1)

pub loop-now-preserved : goal.loop-now-preserved
loop-now-preserved c = record {
  same = c.loop-now.invariant.same;
  carried = λ can.
      let t : IsTable c.loop-now.self can.trees = subst (λ (r : Roots). IsTable r can.trees) (sym c.loop-now.invariant.same) can.table_is in
      let m = c.loop-now.invariant.carried can in
      carried_on t m (omega arith) (c.if-not-has.ensures.0 refl)
      (get_or_default c.loop-now.self.trees c.loop-now.now 0 nowhere (omega (arith, t.places)))
      c.join-carry.ensures.joined c.join-carry.ensures.counted (omega (arith, m.small));
}

pub returns : goal.returns
returns c = λ can. absurd (omega (arith, carried_low can.table_is (c.loop-now.invariant.carried can)))
