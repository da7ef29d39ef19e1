use Rattle.pf_journal_file.proofs.watch.WatchDisk.write_at.Goals as goal

pub returns-else-is_ok-clause-frozen : goal.returns-else-is_ok-clause-frozen
returns-else-is_ok-clause-frozen g c = λ is_frozen.
    let (fails, stays) = c.write_at-outcome.ensures.frozen is_frozen in
    (fails, record { frozen = stays.frozen; same = stays.same; clean = stays.clean; no_more = stays.no_more; no_fewer = stays.no_fewer })
