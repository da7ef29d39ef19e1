use Rattle.std.proofs.Common.{List, ◌<◌, ◌≤◌, ℕ, length, All, arith, sym, ◌∙◌, subst}
use Rattle.pf_scenario.specs.declared.settings.TheConstants.{WIDE_HORIZON}
use Rattle.pf_run.specs.Inside.{Joined}
use Rattle.pf_run.proofs.Within.{horizon_within}
use Rattle.pf_tally.specs.Walk.{AreApart, IsNew, IsAt, HasWalked}
use Rattle.pf_tally.proofs.Joined.{log_apart}
use Rattle.pf_tally.proofs.Walks.{none_behind, behind_event, behind_more, all_behind}
use Rattle.pf_tally.proofs.walk.walk_run.Goals as goal

pub new-requires : goal.new-requires
new-requires c =
    let P : List Joined → Type 0 = AreApart in
    subst P (sym (c.deref.ensures.value ∙ c.in_ok-tasks.ensures)) (log_apart c.args.settings (length c.args.rows.now) c.args.events.now c.requires.log)

pub loop-numbered-init : goal.loop-numbered-init
loop-numbered-init c =
    let P : List Joined → Type 0 = λ js. IsNew js c.in_ok-walk.walk in
    none_behind _ c.args.rows.now c.args.events.now _ (subst P c.deref.ensures.value c.in_ok-walk.ensures) c.requires.log.rise

pub note_event-requires-clause-within : goal.note_event-requires-clause-within
note_event-requires-clause-within c =
    let most = horizon_within c.args.settings c.requires.log.settings in
    let short : length c.args.rows.now ≤ WIDE_HORIZON = omega (arith, most, c.requires.log.within) in
    let k = c.loop-numbered.numbered-index in
    let within : k < length c.args.events.now = omega arith in
    behind_event c.in_ok-tasks.tasks.items c.args.rows.now c.args.events.now k c.loop-numbered.t c.loop-numbered.walk c.loop-numbered.invariant c.requires.log.few short _ c.slot-slot.result within
    c.slot-slot.ensures c.requires.log.below c.walk_rows.new.self c.in_ok-walk_rows.ensures

pub loop-numbered-preserved : goal.loop-numbered-preserved
loop-numbered-preserved c =
    let most = horizon_within c.args.settings c.requires.log.settings in
    let short : length c.args.rows.now ≤ WIDE_HORIZON = omega (arith, most, c.requires.log.within) in
    let k = c.loop-numbered.numbered-index in
    let within : k < length c.args.events.now = omega arith in
    behind_more c.in_ok-tasks.tasks.items c.args.rows.now c.args.events.now k c.loop-numbered.t c.loop-numbered.walk c.loop-numbered.invariant c.requires.log.few short _ c.slot-slot.result within
    c.slot-slot.ensures c.requires.log.below c.walk_rows.new.self c.note_event.new.self c.args.settings (c.requires.log.limits k _ within) c.in_ok-walk_rows.ensures c.in_ok-note_event.ensures

pub returns : goal.returns
returns c =
    let most = horizon_within c.args.settings c.requires.log.settings in
    let short : length c.args.rows.now ≤ WIDE_HORIZON = omega (arith, most, c.requires.log.within) in
    let P : List Joined → Type 0 = All (IsAt c.args.rows.now (length c.args.rows.now) c.args.events.now c.walk_rows-2.new.self) in
    let Q : ℕ → Type 0 = λ n. HasWalked c.args.rows.now c.loop-numbered.t n c.loop-numbered.walk c.walk_rows-2.new.self in
    subst P c.in_ok-tasks.ensures
    (all_behind c.in_ok-tasks.tasks.items c.args.rows.now c.args.events.now c.loop-numbered.numbered-index c.loop-numbered.t c.loop-numbered.walk c.loop-numbered.invariant c.requires.log.few short
    c.walk_rows-2.new.self (omega arith) (subst Q c.len.ensures c.in_ok-walk_rows-2.ensures))
