use Rattle.std.proofs.Common.{map, refl, rules}
use Rattle.std.proofs.lemmas.List.{at_drop_more}
use Rattle.pf_text.proofs.Recorded.{record_written}
use Rattle.pf_stats.specs.Stats.{named_figures_record, stats_text}
use Rattle.pf_stats.proofs.stats.stats_csv.Goals as goal

pub loop-figures-init : goal.loop-figures-init
unfolding stats_text
loop-figures-init c = search rules

pub loop-figures-preserved : goal.loop-figures-preserved
loop-figures-preserved c =
    let table = c.in_ok-push_figures.ensures in
    record {
      whole = rw table (record_written _ _ _ _ _ (at_drop_more (map (named_figures_record c.args.titles.now)) c.deref-figures-items.result.now c.loop-figures.figures-index _ c.loop-figures-test.true) c.loop-figures.invariant.whole);
      at_record = rw table refl;
    }
