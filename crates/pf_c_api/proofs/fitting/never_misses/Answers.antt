use Rattle.pf_tally.specs.Room.{CarriesCap}
use Rattle.pf_laws.proofs.PromiseLemmas.Settings.{settings_suffice}
use Rattle.pf_verdict.proofs.Rooms.{room_misses_none}
use Rattle.pf_c_api.proofs.fitting.never_misses.Goals as goal

pub returns : goal.returns
returns c =
    let st = c.args.desk.now.state in
    let are = c.never_misses.ensures.desk.of_run in
    record {
      value = c.never_misses.ensures.value;
      none = λ yes n r run.
          let carries : CarriesCap st.plan = c.never_misses.ensures.value.0 yes in
          settings_suffice st.plan n r are.scenario run carries.carries carries.leaves;
      after = λ yes. room_misses_none st (record { scenario = are.scenario; carries = c.never_misses.ensures.value.0 yes });
    }
