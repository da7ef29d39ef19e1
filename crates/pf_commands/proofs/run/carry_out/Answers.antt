use Rattle.std.specs.Prelude.{option_map}
use Rattle.std.proofs.Common.{◌≡◌, Some, ap, subst, sym, ◌∙◌}
use Rattle.std.proofs.lemmas.Result.{IfOk-weaker}
use Rattle.pf_vocabulary.specs.Fault.Faults.{CountsWrites}
use Rattle.pf_script_run.specs.Carried.{IsOf}
use Rattle.pf_script.specs.Told.{told}
use Rattle.pf_commands.specs.Ended.{script_course}
use Rattle.pf_replies.specs.Course.{course_at}
use Rattle.pf_commands.specs.Refusals.{refusals_for}
use Rattle.pf_commands.proofs.Answering.{course_there, reported, stopped_carrying}
use Rattle.pf_commands.proofs.run.carry_out.Goals as goal

pub returns-in-Ok-clause-meaning : goal.returns-in-Ok-clause-meaning
returns-in-Ok-clause-meaning g c =
    reported c.args.format c.args.titles.now (option_map (λ o. o.now) c.args.origins) c.args.bytes.now c.requires.short c.in-Ok.desk _ _ (c.in-Ok.ensures.replies c.args.titles.now (refusals_for c.args.format (option_map (λ o. o.now) c.args.origins) c.args.bytes.now)) c.end.result _ c.end.ensures.read c.end.ensures.report

pub returns-in-Ok-clause-course : goal.returns-in-Ok-clause-course
returns-in-Ok-clause-course g c =
    let there = course_there c.args.format c.args.titles.now (option_map (λ o. o.now) c.args.origins) c.args.bytes.now c.requires.short c.in-Ok.desk _ _ (c.in-Ok.ensures.replies c.args.titles.now (refusals_for c.args.format (option_map (λ o. o.now) c.args.origins) c.args.bytes.now)) in
    IfOk-weaker c.end.result (λ d. d ≡ c.in-Ok.desk) (λ d. script_course c.args.bytes.now ≡ Some (course_at d))
    (λ d same. there ∙ sym (ap (λ x. Some (course_at x)) same)) c.end.ensures.desk

pub returns-in-Ok-clause-carried : goal.returns-in-Ok-clause-carried
returns-in-Ok-clause-carried g c =
    IfOk-weaker c.end.result (λ d. d ≡ c.in-Ok.desk) (IsOf (told c.args.bytes.now))
    (λ d same. subst (IsOf (told c.args.bytes.now)) (sym same) c.in-Ok.ensures.carried) c.end.ensures.desk

pub returns-in-Ok-clause-writes : goal.returns-in-Ok-clause-writes
returns-in-Ok-clause-writes g c = subst (λ n. CountsWrites c.end.result n (g.W.Sink.failed c.end.new.writer)) c.in-Ok.ensures.writes c.end.ensures.writes

pub returns-in-Err-clause-meaning : goal.returns-in-Err-clause-meaning
returns-in-Err-clause-meaning g c =
    stopped_carrying c.args.format c.args.titles.now (option_map (λ o. o.now) c.args.origins) c.args.bytes.now c.requires.short _ _ _ (c.in-Err.ensures.replies c.args.titles.now (refusals_for c.args.format (option_map (λ o. o.now) c.args.origins) c.args.bytes.now))
