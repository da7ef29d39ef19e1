use Rattle.pf_text.proofs.columns.decimals.+push_fewest_places.Given as goal

abbrev pub decreases-push_fewest_places : goal.decreases-push_fewest_places
decreases-push_fewest_places l = l.places
