use Rattle.std.proofs.Common.{◌∙◌, refl}
use Rattle.pf_run.specs.Computed.{run_of}
use Rattle.pf_tally.specs.Figures.{processors_in}
use Rattle.pf_tally.specs.Held.{next_in, held_from}
use Rattle.pf_tally.specs.Quanta.{slots_of}
use Rattle.pf_tally.proofs.Figured.{lag_at}
use Rattle.pf_courses.specs.Built.{window_by}
use Rattle.pf_courses.specs.Course.{end_of}
use Rattle.pf_courses.proofs.Tracks.{window_is}
use Rattle.pf_trace.specs.Courses.{course_lag}
use Rattle.pf_trace.specs.Laws.{own_in_force}
use Rattle.pf_trace.proofs.laws.courses_are_of_the_run.Goals as goal

pub returns : goal.returns
unfolding course_lag
returns c = record {
  windows = λ s n rows j i of_run some.
      let xs = own_in_force s n j in
      let ran = slots_of (run_of s n) j.task in
      let on = processors_in rows j.task in
      let held = held_from (next_in ran) j j.slot xs in
      (λ k. window_by j ran on held (end_of xs j (of_run.slots k)) i)
      ∙ window_is s n of_run.scenario of_run.slots xs j ran on held of_run.can refl refl i some;
  lags = λ s n rows j t of_run joined.
      let xs = own_in_force s n j in
      let ran = slots_of (run_of s n) j.task in
      lag_at j ran xs n of_run.can (run_of s n) refl (held_from (next_in ran) j j.slot xs) refl t joined;
}
