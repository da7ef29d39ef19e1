use Rattle.std.proofs.Common.{rules, ◌≡◌, List, sym, subst, subst₂}
use Rattle.std.specs.Prelude.{IfOk}
use Rattle.std.specs.Option.{option_map}
use Rattle.pf_scenario.specs.Event.{slot_of}
use Rattle.pf_scenario.specs.Scenario.{past}
use Rattle.pf_scenario.specs.declared.event.Event.TheVariants.{Delay, Leave}
use Rattle.pf_scenario.specs.declared.event.Numbered.{Numbered}
use Rattle.pf_admit.specs.declared.denial.Denial.TheVariants.{TooEarly}
use Rattle.pf_admit.specs.declared.denial.Denial.TheVariants as denied
use Rattle.pf_run.specs.Record.{in_force}
use Rattle.pf_run.specs.Computed.{run_of}
use Rattle.pf_notes.specs.Absence.{absence_of}
use Rattle.pf_notes.specs.Grounds.{early_leave, grounds_for}
use Rattle.pf_notes.specs.Point.{before_event, joined_at}
use Rattle.pf_notes.specs.Reasons.{AreReasons}
use Rattle.pf_notes.specs.declared.grounds.Grounds.TheVariants.{NotInside}
use Rattle.pf_notes.proofs.Standing.{event_within, point_is}
use Rattle.pf_notes.proofs.reasons.Reasons.grounds_for.Goals as goal

pub over_capacity-requires-clause-limits : goal.over_capacity-requires-clause-limits
over_capacity-requires-clause-limits c =
    let are : AreReasons c.args.self.now c.self.inside.past.items c.self.inside.denied.items = search rules in
    event_within c.args.self.now c.self.inside.past.items c.self.inside.denied.items are c.args.numbered.id c.args.numbered c.requires

pub early_leave-requires : goal.early_leave-requires
early_leave-requires c =
    let are : AreReasons c.args.self.now c.self.inside.past.items c.self.inside.denied.items = search rules in
    let is : c.before_event-before.result.now ≡ before_event c.args.numbered.id c.self.inside.past.items = search rules in
    let slot : c.in-Leave-TooEarly.slot ≡ slot_of c.args.numbered.event = search rules in
    record { point = point_is c.args.self.now c.self.inside.past.items c.self.inside.denied.items are c.args.numbered.id c.args.numbered c.requires _ _ is slot }

pub late_delay-requires : goal.late_delay-requires
late_delay-requires c =
    let are : AreReasons c.args.self.now c.self.inside.past.items c.self.inside.denied.items = search rules in
    let is : c.before_event-before.result.now ≡ before_event c.args.numbered.id c.self.inside.past.items = search rules in
    let slot : c.in-Delay-Released.slot ≡ slot_of c.args.numbered.event = search rules in
    record { point = point_is c.args.self.now c.self.inside.past.items c.self.inside.denied.items are c.args.numbered.id c.args.numbered c.requires _ _ is slot }

pub returns-in-Leave-TooEarly : goal.returns-in-Leave-TooEarly
returns-in-Leave-TooEarly c =
    let s = c.args.self.now.state.plan in
    let n = c.args.self.now.state.now in
    let is : c.before_event-before.result.now ≡ before_event c.args.numbered.id (past s n) = search rules in
    let event : c.args.numbered.event ≡ Leave c.in-Leave-TooEarly.slot c.in-Leave-TooEarly.task = search rules in
    let denial : c.args.denial ≡ TooEarly = search rules in
    subst₂ (λ e d. IfOk c.early_leave.result (λ g. g ≡ grounds_for s (run_of s n) c.args.self.now.denials (before_event c.args.numbered.id (past s n)) e d))
    (sym event) (sym denial)
    (subst (λ (xs : List Numbered). IfOk c.early_leave.result (λ g. g ≡ option_map (early_leave s (run_of s n) (in_force c.args.self.now.denials xs) c.in-Leave-TooEarly.slot)
    (joined_at s.settings.base (in_force c.args.self.now.denials xs) c.in-Leave-TooEarly.task))) is c.early_leave.ensures)

pub returns-in-Leave-NotInside : goal.returns-in-Leave-NotInside
returns-in-Leave-NotInside c =
    let s = c.args.self.now.state.plan in
    let n = c.args.self.now.state.now in
    let is : c.before_event-before.result.now ≡ before_event c.args.numbered.id (past s n) = search rules in
    let event : c.args.numbered.event ≡ Leave c.in-Leave-NotInside.slot c.in-Leave-NotInside.task = search rules in
    let denial : c.args.denial ≡ denied.NotInside = search rules in
    subst₂ (λ e d. c.not_inside.result ≡ grounds_for s (run_of s n) c.args.self.now.denials (before_event c.args.numbered.id (past s n)) e d)
    (sym event) (sym denial)
    (subst (λ (xs : List Numbered). c.not_inside.result ≡ option_map (NotInside c.in-Leave-NotInside.task) (absence_of s.events c.args.self.now.denials xs c.in-Leave-NotInside.slot c.in-Leave-NotInside.task))
    is c.not_inside.ensures)

pub returns-in-Delay-NotInside : goal.returns-in-Delay-NotInside
returns-in-Delay-NotInside c =
    let s = c.args.self.now.state.plan in
    let n = c.args.self.now.state.now in
    let is : c.before_event-before.result.now ≡ before_event c.args.numbered.id (past s n) = search rules in
    let event : c.args.numbered.event ≡ Delay c.in-Delay-NotInside.slot c.in-Delay-NotInside.task c.in-Delay-NotInside.by-0 = search rules in
    let denial : c.args.denial ≡ denied.NotInside = search rules in
    subst₂ (λ e d. c.not_inside-in-Delay-NotInside.result ≡ grounds_for s (run_of s n) c.args.self.now.denials (before_event c.args.numbered.id (past s n)) e d)
    (sym event) (sym denial)
    (subst (λ (xs : List Numbered). c.not_inside-in-Delay-NotInside.result ≡ option_map (NotInside c.in-Delay-NotInside.task) (absence_of s.events c.args.self.now.denials xs c.in-Delay-NotInside.slot c.in-Delay-NotInside.task))
    is c.not_inside-in-Delay-NotInside.ensures)
