use Rattle.std.proofs.Common.{◌≡◌, ◌∙◌, ◌+◌, ◌-◌, ◌++◌, ◌∷◌, [], length, ap, append_assoc, arith}
use Rattle.std.specs.Prelude.{replicate}
use Rattle.std.proofs.lemmas.List.{replicate_more}
use Rattle.pf_chart.proofs.line.push_line.Goals as goal

pub loop-place-preserved : goal.loop-place-preserved
loop-place-preserved c =
    let label = c.args.label.now in
    let n = c.loop-place.place - length label in
    record {
      padded =
          c.in_ok-push.ensures.items
          ∙ ap (λ xs. xs ++ 32 ∷ []) c.loop-place.invariant.padded
          ∙ append_assoc label (replicate n 32) (32 ∷ [])
          ∙ ap (λ xs. label ++ xs) (replicate_more n 32)
          ∙ ap (λ n. label ++ replicate n 32) (let z : c.loop-place.place - length label + 1 ≡ c.loop-place.place + 1 - length label = omega arith in z);
      short = omega (arith, c.loop-place-test.true);
    }
