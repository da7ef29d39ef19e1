use Rattle.std.proofs.Common.{◌≡◌, ◌∙◌, sym, rules}
use Rattle.std.proofs.lemmas.Result.{err_from_is_err_and}
use Rattle.std.specs.Option.{option_map}
use Rattle.pf_desk.specs.Machine.{opening_state}
use Rattle.pf_script_results.specs.declared.course.Course.{Course}
use Rattle.pf_script_results.proofs.Found.{at_opening, commands_of_desk, found, has_settings, settings_of}
use Rattle.pf_script_results.proofs.Rising.{told_rise}
use Rattle.pf_script_results.proofs.recounting.recount_script.Goals as goal

pub returns-clause-value : goal.returns-clause-value
returns-clause-value c =
    let is = c.in-Ok.ensures.1 in
    let script = c.args.script.now in
    let origins = option_map (λ o. o.now) c.args.origins in
    let opening = c.in-Ok.opened.opening in
    let course : Course = record { places = c.new.result; replies = c.new-2.result; scenario = c.new-3.result } in
    let here : c.settings-settings.result ≡ c.args.desk.now.state.plan.settings = search rules in
    let same = sym here ∙ sym c.in_ok-check_settings.ensures.same in
    let at = at_opening origins script opening.settings c.args.desk.now course c.scenario.ensures.desk same c.new.ensures c.new-3.ensures.value
    (c.new-2.ensures ∙ c.history.ensures.value) in
    found c.args.telling.now.file.now c.args.telling.now.hints c.args.telling.now.names.now origins c.args.most c.args.telling.now.whole script opening c.in-Ok.opened.lines is
    c.take_lines.result c.new-recount.result c.new-recount.ensures
    (c.take_lines.ensures.value origins script 0 (opening_state opening.settings) at (told_rise script opening c.in-Ok.opened.lines is))

pub returns-clause-own : goal.returns-clause-own
returns-clause-own c = λ of.
    let is = c.in-Ok.ensures.1 in
    let script = c.args.script.now in
    let origins = option_map (λ o. o.now) c.args.origins in
    let opening = c.in-Ok.opened.opening in
    let course : Course = record { places = c.new.result; replies = c.new-2.result; scenario = c.new-3.result } in
    let replies = c.new-2.ensures ∙ c.history.ensures.value in
    let same = settings_of c.args.telling.now.file.now c.args.telling.now.hints c.args.telling.now.names.now origins c.args.most c.args.telling.now.whole script opening
    c.in-Ok.opened.lines is c.args.desk.now of in
    let at = at_opening origins script opening.settings c.args.desk.now course c.scenario.ensures.desk same c.new.ensures c.new-3.ensures.value replies in
    c.take_lines.ensures.own origins script 0 (opening_state opening.settings) at (told_rise script opening c.in-Ok.opened.lines is)
    (commands_of_desk c.args.telling.now.file.now c.args.telling.now.hints c.args.telling.now.names.now origins c.args.most c.args.telling.now.whole script opening
    c.in-Ok.opened.lines is c.args.desk.now course of replies)

pub returns-in_err-check_settings-clause-own : goal.returns-in_err-check_settings-clause-own
returns-in_err-check_settings-clause-own c = λ of.
    let here : c.settings-settings.result ≡ c.args.desk.now.state.plan.settings = search rules in
    let same = settings_of c.args.telling.now.file.now c.args.telling.now.hints c.args.telling.now.names.now (option_map (λ o. o.now) c.args.origins) c.args.most
    c.args.telling.now.whole c.args.script.now c.in-Ok.opened.opening c.in-Ok.opened.lines c.in-Ok.ensures.1 c.args.desk.now of in
    let p = err_from_is_err_and c.from_residual.result c.from_residual.ensures.1 in
    rw (p.1, p.2) (c.in_err-check_settings.ensures.own (sym (here ∙ same)))
