use Rattle.std.proofs.Common.{◌≡◌, IfErr, IfOk, None, Some, [], rules, true, false}
use Rattle.pf_script_run.specs.Carried.{Stops}
use Rattle.pf_script.specs.Check.Files.{record_count, script_messages}
use Rattle.pf_script.specs.Told.{told}
use Rattle.pf_script.specs.Check.Found.{is_clean}
use Rattle.pf_plain_script.specs.Plain.{plain}
use Rattle.pf_check_run.specs.Answers.{Carries, CarriesScript, IsStoppedWith}
use Rattle.pf_check_run.proofs.Answered.{faulty_answer, own_carried, own_stopped, plan_carried}
use Rattle.pf_check_run.proofs.Unnumbered.{plan_stopped}
use Rattle.pf_check_run.proofs.check_run.check_run.Goals as goal

pub returns-then-not-is_clean-clause-made : goal.returns-then-not-is_clean-clause-made
returns-then-not-is_clean-clause-made c =
    let file = c.args.file.now in
    let script = c.args.script.now in
    let found = c.in_ok-found.found in
    let clean : is_clean found ≡ false = search rules in
    faulty_answer (record_count script) (script_messages file c.args.hints script) (CarriesScript (plain script) file c.args.hints script (record_count script))
    c.in_ok-not_run.field-0 found c.in_ok-found.ensures clean c.in_ok-not_run.ensures.text c.in_ok-not_run.ensures.ends

pub returns-in-Some-clause-made : goal.returns-in-Some-clause-made
returns-in-Some-clause-made c =
    let file = c.args.file.now in
    let script = c.args.script.now in
    let found = c.in_ok-found.found in
    let s = c.in-Some.plain in
    let clean : is_clean found ≡ true = search rules in
    let carried : IfOk c.plan_carried.result (Carries file c.args.hints (Some s.origins.items) s.titles.names s.text.items found.records) = search rules in
    plan_carried c.plan_carried.result (plain script) file c.args.hints script s (record_count script) (script_messages file c.args.hints script) found
    (rw c.in-Some.is at c.in_ok-plain.ensures) c.in_ok-found.ensures clean carried

pub returns-in-Some-clause-stopped : goal.returns-in-Some-clause-stopped
returns-in-Some-clause-stopped c =
    let file = c.args.file.now in
    let script = c.args.script.now in
    let found = c.in_ok-found.found in
    let s = c.in-Some.plain in
    let clean : is_clean found ≡ true = search rules in
    let stops : IfErr c.plan_carried.result (IsStoppedWith s.text.items) = search rules in
    plan_stopped c.plan_carried.result file c.args.hints script (record_count script) found s (rw c.in-Some.is at c.in_ok-plain.ensures) c.in_ok-found.ensures clean stops

pub returns-clause-made : goal.returns-clause-made
returns-clause-made c =
    let file = c.args.file.now in
    let script = c.args.script.now in
    let found = c.in_ok-found.found in
    let clean : is_clean found ≡ true = search rules in
    let carried : IfOk c.carried.result (Carries file c.args.hints None [] script found.records) = search rules in
    own_carried c.carried.result (plain script) file c.args.hints script (record_count script) (script_messages file c.args.hints script) found
    (rw c.in-None.is at c.in_ok-plain.ensures) c.in_ok-found.ensures clean carried

pub returns-clause-stopped : goal.returns-clause-stopped
returns-clause-stopped c =
    let file = c.args.file.now in
    let script = c.args.script.now in
    let found = c.in_ok-found.found in
    let clean : is_clean found ≡ true = search rules in
    let stops : IfErr c.carried.result (Stops (told script).rest.fault) = search rules in
    own_stopped c.carried.result file c.args.hints script (record_count script) found (rw c.in-None.is at c.in_ok-plain.ensures) c.in_ok-found.ensures clean stops
