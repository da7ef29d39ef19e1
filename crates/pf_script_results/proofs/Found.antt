-- What the records of a script came to, by its walk from the settings on.
use Rattle.std.proofs.Common.{◌≡◌, ℕ, Bool, List, Option, Some, None, Result, Ok, Err, refl, sym, ap, subst, ◌∙◌}
use Rattle.std.specs.Prelude.{IfOk}
use Rattle.pf_script_run.specs.Carried.{IsOf, asked_in}
use Rattle.pf_desk.specs.Desk.{IsDesk, Shown}
use Rattle.pf_desk.specs.History.{IsLegalFrom}
use Rattle.pf_desk.specs.Machine.{opening_state}
use Rattle.pf_vocabulary.specs.declared.names.named.Named.{Named}
use Rattle.pf_plain_script.specs.declared.origin.Origin.{Origin}
use Rattle.pf_scenario.specs.Scenario.{opening_plan}
use Rattle.pf_scenario.specs.System.{System}
use Rattle.pf_script_desk.specs.Asked.{commands_in}
use Rattle.pf_script.specs.Told.{LinesTold, Told, told}
use Rattle.pf_script.specs.declared.record.ScriptSettings.{ScriptSettings}
use Rattle.pf_script_results.specs.Places.{ArePlaces, place_of}
use Rattle.pf_script_results.specs.Recount.{Recounted, behind_lines, none_yet, recounted, recounted_told}
use Rattle.pf_script_results.specs.Replies.{IsOwn}
use Rattle.pf_script_results.specs.Walk.{IsAt, RiseAbove}
use Rattle.pf_script_results.specs.declared.course.Course.{Course}
use Rattle.pf_script_results.specs.declared.stop.Stop.{Stop}
use Rattle.pf_script_results.proofs.Rising.{told_rise}

-- Use: a walk stands before the first record of a script.
pub at_opening : (origins : Option (List Origin)) (script : List ℕ) (settings : System) (desk : Shown) (c : Course) → IsDesk desk
    → desk.state.plan.settings ≡ settings → ArePlaces origins script 0 c.places → c.scenario ≡ opening_plan settings → c.replies ≡ desk.history
    → IsAt origins script 0 (opening_state settings) c
at_opening origins script settings desk c is same places scenario replies = record {
  places = places;
  scenario = scenario;
  legal = subst (IsLegalFrom (opening_state settings)) (sym replies) (subst (λ s. IsLegalFrom (opening_state s) desk.history) same is.legal);
}

module _ (file : List ℕ) (hints : Bool) (names : List Named) (origins : Option (List Origin)) (most : ℕ) (whole : Bool) (script : List ℕ)
    (opening : ScriptSettings) (lines : LinesTold) (is : told script ≡ record { opening = Some opening; rest = lines }) where
  -- Use: the walk gives what the records came to.
  pub found : (r : Result Recounted Stop) (start : Recounted) → start ≡ none_yet most
      → IfOk r (λ x. x ≡ behind_lines file hints names whole (place_of origins script) (opening_state opening.settings) lines.lines start)
      → IfOk r (λ x. Some x ≡ recounted file hints names origins most whole script)
  unfolding recounted
  found (Ok x) start none h =
      ap Some (h ∙ ap (behind_lines file hints names whole (place_of origins script) (opening_state opening.settings) lines.lines) none)
      ∙ sym (ap (recounted_told file hints names whole (place_of origins script) most) is)
  found (Err e) start none h = tt

  -- Use: a desk of the script has its settings and its commands.
  pub settings_of : (desk : Shown) → IsOf (told script) desk → desk.state.plan.settings ≡ opening.settings
  settings_of desk of =
      let same : Some of.opening ≡ Some opening = sym of.told ∙ ap (λ (t : Told). t.opening) is in
      let one : of.opening ≡ opening = cc in
      of.settings ∙ ap (λ (s : ScriptSettings). s.settings) one

  pub commands_of_desk : (desk : Shown) (c : Course) → IsOf (told script) desk → c.replies ≡ desk.history
      → asked_in c.replies ≡ commands_in lines.lines
  commands_of_desk desk c of replies = ap asked_in replies ∙ of.asked ∙ ap (λ (t : Told). commands_in t.rest.lines) is

-- Use: a desk of a script tells that it has settings.
pub has_settings : (t : Told) (desk : Shown) → IsOf t desk → t.opening ≡ None → ⊥
has_settings t desk of none = let never : None ≡ Some of.opening = sym none ∙ of.told in cc

-- Use: settings by their parts.
pub same_settings : (one other : System) → one.processors ≡ other.processors → one.base ≡ other.base → one.cap ≡ other.cap
    → one.horizon ≡ other.horizon → one ≡ other
same_settings one other processors base cap horizon =
    λ i. record { processors = processors i; base = base i; cap = cap i; horizon = horizon i }
