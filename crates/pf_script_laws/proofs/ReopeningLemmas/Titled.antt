-- The script of a desk as a plan, run again.
use Rattle.std.proofs.Common.{◌≡◌, ◌∙◌, ◌≤◌, ℕ, Bool, true, false, List, Some, None, Option, ap₂, sym, subst, arith, refl}
use Rattle.std.specs.Prelude.{◌&&◌, if◌then◌else◌, nat_le, not}
use Rattle.std.proofs.lemmas.Bool.Decides.{nat_tests}
use Rattle.pf_vocabulary.specs.declared.fault.range_fault.RangeFault.TheVariants.{NotWithin}
use Rattle.pf_formats.specs.Report.{report_text}
use Rattle.pf_vocabulary.specs.declared.names.titles.Titles.{Titles}
use Rattle.pf_vocabulary.specs.Options.Formats.{range_fault}
use Rattle.pf_vocabulary.specs.declared.options.format.Format.TheVariants.{Script}
use Rattle.pf_report.specs.Script.{script_text_of}
use Rattle.pf_text.specs.Page.{table_text}
use Rattle.pf_commands.specs.Meaning.{Done, script_meaning, text_unless}
use Rattle.pf_plain_script.specs.declared.origin.Origin.{Origin}
use Rattle.pf_plain_script.specs.Plain.{Plain, plain}
use Rattle.pf_script_laws.specs.Titles.Titled.{CanBeTitled}
use Rattle.pf_script_laws.proofs.TitlesLemmas.Whole.{titled_scripts_are_read}
use Rattle.pf_script_laws.specs.Reopening.Titled.{TitledScriptsRunAgain}
use Rattle.pf_script_laws.proofs.ReopeningLemmas.Rerun.{schedule_is_written_again}

-- the format `script` has no range
whole_within : (a b : Bool) (n : ℕ) (text : List ℕ) → a ≡ true → b ≡ true
    → text_unless (if not (a && b) then Some (NotWithin n) else None) text ≡ record { text = text; end = Done }
whole_within true true n text some few = refl
whole_within true false n text some few = cc
whole_within false b n text some few = cc

in_range : (n : ℕ) (text : List ℕ) → text_unless (range_fault Script n) text ≡ record { text = text; end = Done }
in_range n text =
    let some : nat_le 0 n ≡ true = grind (arith, nat_tests) in
    let few : nat_le n n ≡ true = grind (arith, nat_tests) in
    whole_within (nat_le 0 n) (nat_le n n) n text some few

same_plain : (o : Option Plain) (p q : Plain) → o ≡ Some p → o ≡ Some q → p ≡ q
same_plain o p q e f = let both : Some p ≡ Some q = sym e ∙ f in cc

-- the format `script` tells no refusals, so what they come from is the same to it
from_anywhere : (titles : Titles) (origins : Option (List Origin)) (bytes : List ℕ) → script_meaning Script titles origins bytes ≡ script_meaning Script titles None bytes
unfolding script_meaning
from_anywhere titles origins bytes = refl

pub titled_scripts_run_again : TitledScriptsRunAgain
unfolding report_text
titled_scripts_run_again every seen titles p can wide told of =
    let can_be : CanBeTitled every seen = record {
      scenario = can.written.scenario;
      wide = wide;
      stepped = subst (λ (h : ℕ). seen.state.now ≤ h) wide can.written.stepped;
      some = can.written.distance.some;
      within = can.written.distance.within;
    } in
    let made = titled_scripts_are_read every seen titles can_be told in
    let same : made.0 ≡ p = same_plain (plain (script_text_of every seen titles)) made.0 p made.1 of in
    subst
    (λ (q : Plain). script_meaning Script q.titles (Some q.origins) (table_text q.records) ≡ record { text = script_text_of every seen titles; end = Done })
    same
    (from_anywhere made.0.titles (Some made.0.origins) (table_text made.0.records)
    ∙ ap₂ (λ (t : Titles) (text : List ℕ). script_meaning Script t None text) made.2.told made.2.text
    ∙ (schedule_is_written_again every seen can titles).script
    ∙ in_range seen.state.now (script_text_of every seen titles))
