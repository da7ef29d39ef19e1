-- Whether some heap has a key of a task: the rank of the task's node tells.
use Rattle.std.proofs.Common.{◌≡◌, ℕ, ◌<◌, ◌≤◌, false, List, length, get_or, eqb, sym, ap, ◌∙◌, arith}
use Rattle.std.specs.Prelude.{◌↔◌, IsTrue, not}
use Rattle.std.proofs.lemmas.Bool.{not-true, not_from_false, eqb-false, ne_eqb}
use Rattle.std.proofs.lemmas.List.{get_or_read}
use Rattle.pf_heap.specs.declared.node.Node.{Node}
use Rattle.pf_heap.specs.declared.table.Roots.{Roots}
use Rattle.pf_heap.specs.Forest.{idle}
use Rattle.pf_heap.specs.Memory.{no_node, node_at}
use Rattle.pf_heap.specs.Keys.{Heaps, all_lists, IsHeld}
use Rattle.pf_heap.specs.View.{lists_at, main_at}
use Rattle.pf_heap.specs.Invariant.{IsArena}
use Rattle.pf_heap.proofs.Whole.{held_from_node, node_from_held}

module _ {nodes : List Node} {heads : List ℕ} {main : Roots} {room : ℕ} (a : IsArena nodes heads main room) {now : Heaps}
    (seen : ◌≡◌ {A = Heaps} (record { main = main_at nodes main; lists = lists_at nodes heads; spare = room; tasks = length nodes }) now)
    {lent : List Node} (e : lent ≡ nodes) where
  low : {t : ℕ} → t < length lent → t < length nodes
  low within = omega (arith, within, ap length e)

  rank_read : {t : ℕ} {node : Node} → t < length lent → node ≡ get_or lent t node → node.rank ≡ (node_at nodes t).rank
  rank_read {t} {node} within found =
      ap (λ (n : Node). n.rank) (get_or_read lent t node within found no_node ∙ ap (λ ns. node_at ns t) e)

  -- a node that is there
  pub held_by_rank : {t : ℕ} {node : Node} → t < length lent → node ≡ get_or lent t node → IsTrue (not (eqb node.rank idle)) ↔ IsHeld (all_lists now) t
  held_by_rank {t} {node} within found =
      let read : node.rank ≡ (node_at nodes t).rank = rank_read within found in (
        λ busy. held_from_node a seen t (low within) (λ is. eqb-false node.rank idle (not-true (eqb node.rank idle) busy) (read ∙ is)),
        λ held. not_from_false (eqb node.rank idle) (ne_eqb node.rank idle (λ is. (node_from_held a seen t held).1 (sym read ∙ is))),
      )

  -- and one that isn't
  pub not_held_past : {t : ℕ} → length lent ≤ t → IsTrue false ↔ IsHeld (all_lists now) t
  not_held_past {t} past =
      (λ z. cc, λ held. absurd (omega (arith, past, ap length e, (node_from_held a seen t held).0)))
