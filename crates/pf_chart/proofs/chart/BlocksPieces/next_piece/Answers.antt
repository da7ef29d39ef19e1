use Rattle.std.proofs.Common.{◌∙◌, ◌+◌, ◌-◌, ◌++◌, min, ap, sym, arith}
use Rattle.std.specs.List.{range_with_len}
use Rattle.pf_chart.specs.Chart.{block_of, blocks_text}
use Rattle.pf_chart.proofs.Blocks.{blocks_next, block_some}
use Rattle.pf_chart.proofs.chart.BlocksPieces.next_piece.Goals as goal

pub returns-clause-text : goal.returns-clause-text
returns-clause-text c =
    let inside = c.self.inside in
    let seen = inside.snapshot.now in
    let labels = inside.labels in
    let listed = inside.listed.items in
    let end = inside.from + c.min.result in
    let slots = range_with_len inside.from (end - inside.from) in
    let is = c.in_ok-text.ensures ∙ ap (λ ls. block_of seen labels ls inside.from slots) c.deref.ensures.value in (
      sym c.self.view_is ∙ blocks_next seen labels listed inside.from inside.to end (omega (arith, c.if-self.false)) (ap (λ n. inside.from + n) (c.min.ensures ∙ ap (min (inside.to - inside.from)) c.block_length.ensures))
          ∙ ap (λ t. t ++ blocks_text seen labels listed end inside.to) (sym is),
      block_some seen labels listed inside.from slots c.in_ok-text.text.items is,
    )
