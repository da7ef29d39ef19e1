use Rattle.pf_journal_file.proofs.watch.WatchDisk.set_len.Goals as goal

pub returns-clause-frozen : goal.returns-clause-frozen
returns-clause-frozen g c = λ is_frozen.
    let (fails, stays) = c.set_len-outcome.ensures.frozen is_frozen in
    (fails, record { frozen = stays.frozen; same = stays.same; clean = stays.clean; no_more = stays.no_more; no_fewer = stays.no_fewer })
