use Rattle.std.proofs.Common.{◌≡◌, ◌+◌, ◌*◌, ◌++◌, ◌∷◌, [], ap, ap₂, sym, ◌∙◌, append_assoc, arith}
use Rattle.pf_place.specs.Packed.{even_ends}
use Rattle.pf_place.proofs.Packed.{even_more, end_within}
use Rattle.pf_place.proofs.packed_rows.push_ends.Goals as goal

pub overflow_add-end : goal.overflow_add-end
overflow_add-end c =
    omega (arith, c.loop-k.invariant.end, end_within c.loop-k._k c.args.count c.args.width (omega arith), c.requires.small)

pub loop-k-preserved : goal.loop-k-preserved
loop-k-preserved c =
    let old = c.args.ends.now.items in
    let n = c.args.width in
    let k = c.loop-k._k in
    let invariant = c.loop-k.invariant in
    let end : c.loop-k.end + n ≡ 0 + (k * n + n) = omega (arith, invariant.end) in
    record {
      items = c.push_reserved.ensures.items
          ∙ ap₂ (λ ends end. ends ++ end ∷ []) invariant.items end
          ∙ append_assoc old (even_ends 0 n k) ((0 + (k * n + n)) ∷ [])
          ∙ ap (λ ends. old ++ ends) (sym (even_more 0 n k));
      end = (let next : k * n + n ≡ (k + 1) * n = grind arith in omega (arith, invariant.end, next));
      within = omega arith;
      many = omega (arith, invariant.many);
      room = omega (arith, invariant.room);
    }
