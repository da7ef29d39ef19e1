use Rattle.std.proofs.Common.{◌≡◌, ◌∙◌, ap}
use Rattle.std.proofs.lemmas.Result.{IfOk-weaker}
use Rattle.pf_report.specs.Tables.{lags_table, lags_text, misses_table, misses_text}
use Rattle.pf_formats.proofs.tables.tables_pieces.Goals as goal

pub returns : goal.returns
unfolding lags_text misses_text
returns c =
    let seen = c.args.snapshot.now in
    let titles = c.args.titles.now in
    let tally = c.in_ok-lags.field-0 in
    let lags = IfOk-weaker c.pieces_of_lags.result (λ p. p ≡ lags_table tally.lags.items titles) (λ p. p ≡ lags_text seen titles)
    (λ p is. is ∙ ap (λ l. lags_table l titles) c.in_ok-lags.ensures.lags) c.pieces_of_lags.ensures in
    let misses = IfOk-weaker c.pieces_of_misses.result (λ p. p ≡ misses_table tally.misses.items) (λ p. p ≡ misses_text seen)
    (λ p is. is ∙ ap misses_table c.in_ok-lags.ensures.misses) c.pieces_of_misses.ensures in
    c.chained-3.ensures _ _
    (c.chained-2.ensures _ _
    (c.chained.ensures _ _ (c.titled-schedule.ensures _ c.schedule_pieces.ensures) (c.titled-lags.ensures _ lags))
    (c.titled-misses.ensures _ misses))
    (c.titled-denials.ensures _ c.denial_pieces.ensures)
