use Rattle.std.proofs.Common.{refl}
use Rattle.pf_script_results.specs.declared.course.Course.{Course}
use Rattle.pf_script_results.proofs.Walking.{change_rest, done_own, done_stands, done_value, refused_stands, refused_value}
use Rattle.pf_script_results.proofs.recounting.take_change.Goals as goal

pub returns-in-Done : goal.returns-in-Done
returns-in-Done c =
    let was = c.args.course.now in
    let d : Course = record { places = c.place_of-place.new.self; replies = c.answer.new.self; scenario = c.note_made.new.scenario } in
    record {
      course = λ origins script bound st at above.
          done_stands origins script bound c.args.number st c.args.change c.args.strict was d c.in_ok-outcome.outcome c.in_ok-outcome.ensures.taken at
          c.note_made.result c.in-Done.is (c.place_of-place.ensures.left origins script bound at.places above) c.note_made.ensures.scenario;
      value = λ origins script bound st at above.
          done_value origins script bound c.args.number st c.args.change c.args.strict was d c.in_ok-outcome.outcome c.in_ok-outcome.ensures.taken at
          c.args.telling.now.file.now c.args.telling.now.hints c.args.telling.now.names.now c.args.telling.now.whole c.note_made.result c.place_of-place.result
          c.args.recount.now c.note_made.new.recount c.in-Done.is (c.place_of-place.ensures.place origins script bound at.places above) c.note_made.ensures.recount;
      own = λ origins script bound st rest at is.
          done_own origins script bound c.args.number st c.args.change c.args.strict was d c.in_ok-outcome.outcome c.in_ok-outcome.ensures.taken at
          c.note_made.result c.in-Done.is c.note_made.ensures.own;
      rest = λ rest is.
          change_rest c.note_made.result c.args.change c.args.strict c.in_ok-outcome.outcome was.replies d.replies c.in_ok-outcome.ensures.taken rest is;
    }

pub returns-in-Refused : goal.returns-in-Refused
returns-in-Refused c =
    let was = c.args.course.now in
    let d : Course = record { places = c.place_of-place.new.self; replies = c.answer.new.self; scenario = was.scenario } in
    record {
      course = λ origins script bound st at above.
          refused_stands origins script bound c.args.number st c.args.change c.args.strict was d c.in_ok-outcome.outcome c.in_ok-outcome.ensures.taken at
          c.note_refused.result c.in-Refused.fault c.in-Refused.is (c.place_of-place.ensures.left origins script bound at.places above) refl;
      value = λ origins script bound st at above.
          refused_value origins script bound c.args.number st c.args.change c.args.strict was d c.in_ok-outcome.outcome c.in_ok-outcome.ensures.taken at
          c.args.telling.now.file.now c.args.telling.now.hints c.args.telling.now.names.now c.args.telling.now.whole c.note_refused.result c.in-Refused.fault c.place_of-place.result
          c.args.recount.now c.note_refused.new.recount c.in-Refused.is (c.place_of-place.ensures.place origins script bound at.places above) c.note_refused.ensures.recount;
      own = λ origins script bound st rest at is. c.note_refused.ensures.own;
      rest = λ rest is.
          change_rest c.note_refused.result c.args.change c.args.strict c.in_ok-outcome.outcome was.replies d.replies c.in_ok-outcome.ensures.taken rest is;
    }
