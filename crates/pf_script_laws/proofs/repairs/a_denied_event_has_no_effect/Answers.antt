use Rattle.pf_script_laws.proofs.RepairsLemmas.Bare.{denied_events_have_no_effect}
use Rattle.pf_script_laws.proofs.repairs.a_denied_event_has_no_effect.Goals as goal

pub returns : goal.returns
returns c = denied_events_have_no_effect
