-- What a command makes of a scenario with its run.
use Rattle.std.proofs.Common.{◌≡◌, ◌≢◌, ℕ, ◌+◌, ◌≤◌, ◌==◌, Bool, true, false, if◌then◌else◌, IfSome, Option, Some, None, List, [], refl, sym, ap, ap₂, ◌∙◌, ◌⊎◌, inl, inr, arith}
use Rattle.std.specs.List.{slice_get, slice_index_or}
use Rattle.std.proofs.lemmas.Bool.{cond-true, cond-false, eq-eqb, ne_eqb}
use Rattle.pf_order.specs.declared.pick.Pick.{Pick}
use Rattle.pf_scenario.specs.Scenario.{plan_after, number_of_change, slot_touched}
use Rattle.pf_scenario.specs.Edit.{edit_fault}
use Rattle.pf_scenario.proofs.Scenarios.{changes_keep_scenarios}
use Rattle.pf_scenario.specs.declared.change.Change.{Change}
use Rattle.pf_run.specs.RunRows.{denials_in}
use Rattle.pf_run.specs.declared.denied.Denied.{Denied}
use Rattle.pf_timeline.specs.Checkpoints.{near_slots}
use Rattle.pf_timeline.specs.Timeline.{KeptRun, ReachesBack, StandsFor}
use Rattle.pf_timeline.proofs.Past.{timelines_rest_on_past, stands_now}
use Rattle.pf_desk.specs.declared.command.Command.{Command}
use Rattle.pf_desk.specs.declared.command.Command.TheVariants.{Edit, Step}
use Rattle.pf_desk.specs.declared.reply.Fault.{Fault}
use Rattle.pf_desk.specs.declared.reply.Fault.TheVariants.{AtHorizon, WouldDeny}
use Rattle.pf_desk.specs.declared.reply.Reply.TheVariants.{Edited, Stepped, Refused}
use Rattle.pf_desk.specs.declared.scenario_run.ScenarioRun.{ScenarioRun}
use Rattle.pf_desk.specs.Machine.{State, row_at, edit_reply, strict_reply, reply_to}
use Rattle.pf_desk.specs.Applied.{Stands, state_in, IsApplied}
use Rattle.pf_desk.proofs.Changes.{past_rest}

-- Use: a refusal leaves scenario and run.
pub refused_applied : (r : ScenarioRun) (command : Command) (fault : Fault) → Stands r → reply_to (state_in r) command ≡ Refused fault →
    IsApplied command r (Refused fault) r
refused_applied r command fault stands answer = record { answer = sym answer; state = refl; stands = stands; every = refl }

-- Use: at the horizon a step is refused.
pub horizon_applied : (r : ScenarioRun) → Stands r → r.timeline.now ≡ r.scenario.settings.horizon → IsApplied Step r (Refused AtHorizon) r
horizon_applied r stands at =
    refused_applied r Step AtHorizon stands (cond-true (r.timeline.now == r.scenario.settings.horizon) _ _ (eq-eqb _ _ at))

-- a slot that is taken: the kept run is one slot longer, and the row is its last
pub record Steps (r r' : ScenarioRun) (slot : ℕ) (row : List (Option Pick)) : Type 0 where
  pub below : r.timeline.now ≢ r.scenario.settings.horizon
  pub scenario : r'.scenario ≡ r.scenario
  pub stands : StandsFor r.scenario (r.timeline.now + 1) r'.timeline
  pub slot_is : slot ≡ r.timeline.now
  pub row_is : row ≡ slice_index_or r'.timeline.rows slot []
  pub near : (r'.timeline.near ≡ r.timeline.near) ⊎ (r'.timeline.near + near_slots ≤ r.timeline.now)
  pub every : r'.timeline.every ≡ r.timeline.every

-- the machine's reply below the horizon
reply_below : (st : State) → st.now ≢ st.plan.settings.horizon → reply_to st Step ≡ Stepped st.now (row_at st.plan st.now)
reply_below st below = cond-false (st.now == st.plan.settings.horizon) _ _ (ne_eqb _ _ below)

reaches_longer : (near near' now now' : ℕ) → ReachesBack near now → (near' ≡ near) ⊎ (near' + near_slots ≤ now) → now' ≡ now + 1 → ReachesBack near' now'
reaches_longer near near' now now' (inl none) (inl same) next = inl (same ∙ none)
reaches_longer near near' now now' (inr back) (inl same) next = inr (omega (arith, back, same, next))
reaches_longer near near' now now' any (inr back) next = inr (omega (arith, back, next))

-- Use: near checkpoints reach back as far where as many slots were rewritten.
pub reaches_rewritten : (near near' now now' : ℕ) → ReachesBack near now → (near' ≤ near) ⊎ (near' + near_slots ≤ now) → now' ≡ now → ReachesBack near' now'
reaches_rewritten near near' now now' (inl none) (inl less) same = inl (omega (arith, none, less))
reaches_rewritten near near' now now' (inr back) (inl less) same = inr (omega (arith, back, less, same))
reaches_rewritten near near' now now' any (inr back) same = inr (omega (arith, back, same))

-- Use: a slot that is taken.
pub stepped_applied : (r r' : ScenarioRun) (slot : ℕ) (row : List (Option Pick)) → ReachesBack r.timeline.near r.timeline.now → Steps r r' slot row → IsApplied Step r (Stepped slot row) r'
stepped_applied r r' slot row back steps = record {
  answer = ap₂ (λ t places. Stepped t places) steps.slot_is
      (steps.row_is ∙ ap₂ (λ rows t. slice_index_or rows t []) steps.stands.of_run.are_rows steps.slot_is)
      ∙ sym (reply_below (state_in r) steps.below);
  state = λ i. record { plan = steps.scenario i; now = steps.stands.slots i };
  stands = record {
    run = rw steps.scenario (stands_now r.scenario (r.timeline.now + 1) r'.timeline steps.stands);
    near = reaches_longer r.timeline.near r'.timeline.near r.timeline.now r'.timeline.now back steps.near steps.stands.slots;
  };
  every = steps.every;
}

-- a change without a fault: the changed scenario with its run over as many slots, and the number of the event concerned
pub record Changes (r : ScenarioRun) (change : Change) (id : ℕ) (r' : ScenarioRun) : Type 0 where
  pub faultless : edit_fault r.scenario change ≡ None
  pub id_is : id ≡ number_of_change r.scenario change
  pub scenario : r'.scenario ≡ plan_after r.scenario change
  pub stands : StandsFor r'.scenario r.timeline.now r'.timeline
  pub near : ReachesBack r'.timeline.near r'.timeline.now
  pub every : r'.timeline.every ≡ r.timeline.every

-- the reply to an edit without a fault, by the first denial where it is strict
edited_reply : (st : State) (change : Change) (strict : Bool) (denials : List Denied) → edit_fault st.plan change ≡ None →
    denials ≡ denials_in (plan_after st.plan change) st.now → (if strict then slice_get denials 0 else None) ≡ None →
    reply_to st (Edit change strict) ≡ Edited (number_of_change st.plan change)
edited_reply st change true denials faultless are none =
    ap (edit_reply st change true) faultless
    ∙ ap (strict_reply st change) (ap (λ ds. slice_get ds 0) (sym are) ∙ none)
edited_reply st change false denials faultless are none = ap (edit_reply st change false) faultless

denied_reply : (st : State) (change : Change) (strict : Bool) (denials : List Denied) (d : Denied) → edit_fault st.plan change ≡ None →
    denials ≡ denials_in (plan_after st.plan change) st.now → (if strict then slice_get denials 0 else None) ≡ Some d →
    reply_to st (Edit change strict) ≡ Refused (WouldDeny d.id d.denial)
denied_reply st change true denials d faultless are some =
    ap (edit_reply st change true) faultless
    ∙ ap (strict_reply st change) (ap (λ ds. slice_get ds 0) (sym are) ∙ some)
denied_reply st change false denials d faultless are some = cc

module _ (r : ScenarioRun) (change : Change) (id : ℕ) (r' : ScenarioRun) (changes : Changes r change id r') where
  denials_then : r'.timeline.denials ≡ denials_in (plan_after r.scenario change) r.timeline.now
  denials_then = changes.stands.of_run.are_denials ∙ ap (λ s. denials_in s r.timeline.now) changes.scenario

  -- Use: without an objection it is made.
  pub edited_applied : (strict : Bool) → (if strict then slice_get r'.timeline.denials 0 else None) ≡ None →
      IsApplied (Edit change strict) r (Edited id) r'
  edited_applied strict none = record {
    answer = ap (λ n. Edited n) changes.id_is
        ∙ sym (edited_reply (state_in r) change strict r'.timeline.denials changes.faultless denials_then none);
    state = λ i. record { plan = changes.scenario i; now = changes.stands.slots i };
    stands = record { run = stands_now r'.scenario r.timeline.now r'.timeline changes.stands; near = changes.near };
    every = changes.every;
  }

  -- Use: with one it is refused.
  pub denied_applied : (strict : Bool) (d : Denied) → Stands r → (if strict then slice_get r'.timeline.denials 0 else None) ≡ Some d →
      IsApplied (Edit change strict) r (Refused (WouldDeny d.id d.denial)) r
  denied_applied strict d stands some =
      refused_applied r (Edit change strict) (WouldDeny d.id d.denial) stands
      (denied_reply (state_in r) change strict r'.timeline.denials d changes.faultless denials_then some)

-- Use: a change that touches no slot below now leaves what stands.
pub ahead_changes : (r : ScenarioRun) (change : Change) (id : ℕ) (r' : ScenarioRun) → Stands r → edit_fault r.scenario change ≡ None →
    IfSome (slot_touched r.scenario change) (λ t. r.timeline.now ≤ t) → id ≡ number_of_change r.scenario change →
    r'.scenario ≡ plan_after r.scenario change → r'.timeline ≡ r.timeline → Changes r change id r'
ahead_changes r change id r' stands faultless ahead number scenario timeline =
    let there : StandsFor (plan_after r.scenario change) r.timeline.now r.timeline =
    timelines_rest_on_past r.scenario (plan_after r.scenario change) r.timeline.now r.timeline
    (changes_keep_scenarios r.scenario change stands.run.of_run.scenario faultless)
    (past_rest r.scenario change r.timeline.now stands.run.of_run.scenario faultless ahead) stands.run in
    record {
      faultless = faultless;
      id_is = number;
      scenario = scenario;
      stands = rw (scenario, timeline) there;
      near = rw timeline stands.near;
      every = ap (λ (t : KeptRun). t.every) timeline;
    }
