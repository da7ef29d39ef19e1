use Rattle.std.proofs.Common.{refl, arith}
use Rattle.pf_script_results.specs.declared.course.Course.{Course}
use Rattle.pf_script_results.proofs.Standing.{places_above}
use Rattle.pf_script_results.proofs.Walking.{none_value, ok_anyway, some_value, steps_stand, steps_stand_if}
use Rattle.pf_script_results.proofs.recounting.take_steps.Goals as goal

pub returns-then-refused-eq0 : goal.returns-then-refused-eq0
returns-then-refused-eq0 c =
    let was = c.args.course.now in
    let d : Course = record { places = was.places; replies = c.steps.new.self; scenario = was.scenario } in
    record {
      course = λ origins script bound st at above.
          steps_stand origins script bound c.args.number c.args.count c.in_ok-refused.refused st was d at (c.in_ok-refused.ensures.legal st at.legal)
          (c.in_ok-refused.ensures.refused st at.legal) (places_above origins script bound c.args.number was.places (omega (arith, above)) at.places) refl;
      value = λ origins script bound st at above.
          none_value origins script bound c.args.number c.args.count c.in_ok-refused.refused st was d at (c.in_ok-refused.ensures.legal st at.legal)
          (c.in_ok-refused.ensures.refused st at.legal) c.args.telling.now.file.now c.args.telling.now.hints c.args.telling.now.names.now c.args.telling.now.whole
          c.args.recount.now (omega (arith, c.if-refused-eq0.true));
      own = λ origins script bound st rest at is. tt;
      rest = λ rest is. c.in_ok-refused.ensures.rest rest is;
    }

pub returns : goal.returns
returns c =
    let was = c.args.course.now in
    let d : Course = record { places = c.place_of-place.new.self; replies = c.steps.new.self; scenario = was.scenario } in
    record {
      course = λ origins script bound st at above.
          steps_stand_if origins script bound c.args.number c.args.count c.in_ok-refused.refused st was d at (c.in_ok-refused.ensures.legal st at.legal)
          (c.in_ok-refused.ensures.refused st at.legal) c.note_steps.result (c.place_of-place.ensures.left origins script bound at.places above) refl;
      value = λ origins script bound st at above.
          some_value origins script bound c.args.number c.args.count c.in_ok-refused.refused st was d at (c.in_ok-refused.ensures.legal st at.legal)
          (c.in_ok-refused.ensures.refused st at.legal) c.args.telling.now.file.now c.args.telling.now.hints c.args.telling.now.names.now c.args.telling.now.whole
          c.note_steps.result c.place_of-place.result c.args.recount.now c.note_steps.new.recount (λ none. omega (arith, none, c.if-refused-eq0.false))
          (c.place_of-place.ensures.place origins script bound at.places above) c.note_steps.ensures.recount;
      own = λ origins script bound st rest at is. c.note_steps.ensures.own;
      rest = λ rest is. ok_anyway c.note_steps.result _ (c.in_ok-refused.ensures.rest rest is);
    }
