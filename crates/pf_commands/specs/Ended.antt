-- How far a script is at its end, and whether a run fails on what is met there.
use Rattle.std.specs.Prelude.{ℕ, Bool, ◌&&◌, ◌||◌, ◌==◌, not, nat_lt, if◌then◌else◌, List, length, Option, None, option_map}
use Rattle.std.specs.Result.{result_ok}
use Rattle.pf_run.specs.Computed.{run_of}
use Rattle.pf_run.specs.RunRows.{denials_in}
use Rattle.pf_tally.specs.Misses.{misses_of}
use Rattle.pf_script.specs.Told.{told}
use Rattle.pf_vocabulary.specs.declared.fault.status.Status.{Status}
use Rattle.pf_vocabulary.specs.declared.fault.status.Status.TheVariants.{Done, FailedOn}
use Rattle.pf_stream.specs.Reading.{longest_script}
use Rattle.pf_vocabulary.specs.declared.options.fail_on.FailOn.{FailOn}
use Rattle.pf_replies.specs.Course.{ScriptCourse, outcome_told}

-- how far the script of these bytes is at its end; none where a record is bad, and where it is too long
unfoldable pub script_course : List ℕ → Option ScriptCourse
script_course bytes = if nat_lt longest_script (length bytes) then None else result_ok (outcome_told (told bytes))

-- whether an event is denied in the run so far
abbrev pub has_denials : ScriptCourse → Bool
has_denials c = not (length (denials_in c.state.plan c.state.now) == 0)

-- whether a window is missed in it
abbrev pub has_misses : ScriptCourse → Bool
has_misses c = not (length (misses_of c.state.plan (run_of c.state.plan c.state.now)) == 0)

-- whether a run that ends at this course fails on it
abbrev pub is_failing : FailOn → ScriptCourse → Bool
is_failing on c = (on.refused && c.refused) || (on.denied && has_denials c) || (on.missed && has_misses c)

-- the status of a run, by whether it fails
abbrev pub run_status : Bool → Status
run_status failing = if failing then FailedOn else Done

-- whether a run of this script fails on that, where it is carried out to its end
abbrev pub fails_on : FailOn → List ℕ → Option Bool
fails_on on bytes = option_map (is_failing on) (script_course bytes)
