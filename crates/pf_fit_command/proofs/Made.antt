-- The answer to a script, of what its desk shows.
use Rattle.std.proofs.Common.{◌≡◌, ℕ, Bool, List, Option, Some, None, length, refl, sym, ap, subst, ◌∙◌}
use Rattle.pf_script_run.specs.Carried.{IsOf, Stops}
use Rattle.pf_desk.specs.Desk.{Seen, Shown, StandsForHistory}
use Rattle.pf_vocabulary.specs.Fault.Answers.{IsQuiet}
use Rattle.pf_vocabulary.specs.Fault.Faults.{IsUnwritten}
use Rattle.pf_vocabulary.specs.declared.fault.answer.Answer.{Answer}
use Rattle.pf_vocabulary.specs.declared.fault.fault.Fault.{Fault}
use Rattle.pf_vocabulary.specs.declared.fault.fault.Fault.TheVariants as why
use Rattle.pf_vocabulary.specs.declared.fault.status.Status.{Status}
use Rattle.pf_vocabulary.specs.declared.options.fit_format.FitFormat.{FitFormat}
use Rattle.pf_vocabulary.specs.declared.names.titles.Titles.{Titles}
use Rattle.pf_plain_script.specs.declared.origin.Origin.{Origin}
use Rattle.pf_script_results.specs.Recount.{Recounted, recounted}
use Rattle.pf_script.specs.Told.{FaultTold, told}
use Rattle.pf_verdict.specs.Findings.{Found, findings_of}
use Rattle.pf_fit_command.specs.Fit.{FitMade, fit_of, most_lines, status_of_verdict, tells_all}

-- Use: the answer of what was seen.
pub made : (format : FitFormat) (file : List ℕ) (hints : Bool) (origins : Option (List Origin)) (titles : Titles) (script : List ℕ) (desk : Shown) (seen : Seen)
    (came : Recounted) (found : Found) (commands : ℕ) (status : Status) (answer : Answer) → IsOf (told script) desk → StandsForHistory desk.history seen
    → seen ≡ record { version = length desk.history; state = desk.state; rows = desk.rows; denials = desk.denials }
    → Some came ≡ recounted file hints titles.names origins (most_lines format) (tells_all format) script
    → answer.text.items ≡ fit_of format file hints titles seen came
    → commands ≡ came.refusals.commands → found ≡ findings_of seen commands → status ≡ status_of_verdict found.verdict → IsQuiet status answer.ending
    → FitMade format file hints origins titles script answer
made format file hints origins titles script desk seen came found commands status answer of stands shows counted text is_commands is_found is_status quiet = record {
  seen = seen;
  behind = record {
    opening = of.opening;
    opens = of.told;
    settings = ap (λ (s : Seen). s.state.plan.settings) shows ∙ of.settings;
    history = desk.history;
    asked = of.asked;
    stands = stands;
  };
  came = came;
  counted = counted;
  text = text;
  ends = subst (λ s. IsQuiet s answer.ending)
      (is_status ∙ ap (λ (f : Found). status_of_verdict f.verdict) (is_found ∙ ap (findings_of seen) is_commands)) quiet;
}

-- Use: what stops a script comes before anything is written.
pub stops_unwritten : (told : Option FaultTold) (fault : Fault) → Stops told fault → IsUnwritten fault
stops_unwritten told (why.BadRecord number) h = tt
stops_unwritten told why.NoMemory h = tt
stops_unwritten told why.Read h = tt
stops_unwritten told why.Write h = absurd h
stops_unwritten told why.TooLong h = tt
stops_unwritten told (why.BadRange range) h = tt
stops_unwritten told why.NoViewer h = tt
stops_unwritten told why.Unread h = tt
stops_unwritten told why.GateShut h = tt
