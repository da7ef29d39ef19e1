-- A plan, which opens a desk with titles.
use Rattle.std.proofs.Common.{◌≡◌, ℕ, List, Option, None, Some, refl, sym, inl, inr, ap, ◌∙◌, subst}
use Rattle.std.specs.Prelude.{option_map}
use Rattle.pf_desk.specs.Desk.{Shown}
use Rattle.pf_vocabulary.specs.declared.names.titles.Titles.{Titles}
use Rattle.pf_vocabulary.specs.Names.Titled.{untitled}
use Rattle.pf_plain_script.specs.declared.origin.Origin.{Origin}
use Rattle.pf_plain_script.specs.declared.plain.PlainScript.{PlainScript}
use Rattle.pf_plain_script.specs.Plain.{MakesPlain, Plain, plain}
use Rattle.pf_version_laws.specs.Retold.{IsSameFault}
use Rattle.pf_version_laws.proofs.Whole.{scripts_are_retold}
use Rattle.pf_script.specs.declared.record.LineTold.{LineTold}
use Rattle.pf_script.specs.declared.record.ScriptSettings.{ScriptSettings}
use Rattle.pf_script.specs.Told.{FaultTold, Told, told}
use Rattle.pf_text.specs.Page.{table_text}
use Rattle.pf_script.specs.declared.plan.fault.BadRecord.{BadRecord}
use Rattle.pf_c_api.specs.declared.held.Held.{Held}
use Rattle.pf_c_api.specs.declared.raw_bad_record.RawBadRecord.{RawBadRecord}
use Rattle.pf_c_forms.specs.declared.status.TheConstants.{NO_MEMORY}
use Rattle.pf_c_api.specs.Running.{AreBothBad, OpensTold, Runs, ScriptTold, TellsPlace, place_of, place_told, raw_bad_plan, script_told, told_by, told_plan, told_with}

both_as : (number : ℕ) (origins : List Origin) (bad : Option BadRecord) (fault : Option FaultTold) → IsSameFault number origins bad fault
    → AreBothBad bad fault
both_as number origins None None same = tt
both_as number origins None (Some fault) same = same
both_as number origins (Some bad) None same = same
both_as number origins (Some bad) (Some fault) same = tt

-- Use: the script of version 2 that belongs to a script is bad where that one is.
pub both_bad : (bytes : List ℕ) (s : PlainScript) → MakesPlain (Some s) (plain bytes) → AreBothBad s.bad (told s.text.items).rest.fault
both_bad bytes s made = by (plain bytes) refl made
  where
    by : (o : Option Plain) → plain bytes ≡ o → MakesPlain (Some s) o → AreBothBad s.bad (told s.text.items).rest.fault
    by None is made = absurd made
    by (Some p) is made =
        subst (λ (text : List ℕ). AreBothBad s.bad (told text).rest.fault) (sym made.text)
        (subst (λ (bad : Option BadRecord). AreBothBad bad (told (table_text p.records)).rest.fault) (sym made.bad)
        (both_as 1 p.origins p.bad (told (table_text p.records)).rest.fault (scripts_are_retold bytes p is).fault))

-- what a plan tells
plan_told : (bytes : List ℕ) (s : PlainScript) (o : Option Plain) → MakesPlain (Some s) o
    → told_plan (told s.text.items) s.bad s.titles ≡ told_by o (told bytes)
plan_told bytes s None made = absurd made
plan_told bytes s (Some p) made =
    ap (λ (text : List ℕ). told_plan (told text) s.bad s.titles) made.text
    ∙ ap (λ (bad : Option BadRecord). told_plan (told (table_text p.records)) bad s.titles) made.bad
    ∙ ap (λ (titles : Titles). told_plan (told (table_text p.records)) p.bad titles) made.titles

-- any other script
other_told : (bytes : List ℕ) (o : Option Plain) → MakesPlain None o → told_with (told bytes) untitled ≡ told_by o (told bytes)
other_told bytes None made = refl
other_told bytes (Some p) made = absurd made

module _ (caller status : ℕ) (bytes : List ℕ) (was bad : RawBadRecord) (after : Option Held) where
  -- Use: a plan opened a desk.
  pub plan_opens : (s : PlainScript) → MakesPlain (Some s) (plain bytes)
      → OpensTold caller (told s.text.items).opening (told_plan (told s.text.items) s.bad s.titles) status was bad after
      → OpensTold caller (script_told bytes).opening (script_told bytes) status was bad after
  plan_opens s made opens =
      subst (λ (t : ScriptTold). OpensTold caller t.opening t status was bad after) (plan_told bytes s (plain bytes) made) opens

  -- Use: another script did.
  pub other_opens : MakesPlain None (plain bytes) → OpensTold caller (told bytes).opening (told_with (told bytes) untitled) status was bad after
      → OpensTold caller (script_told bytes).opening (script_told bytes) status was bad after
  other_opens made opens =
      subst (λ (t : ScriptTold). OpensTold caller t.opening t status was bad after) (other_told bytes (plain bytes) made) opens

-- where memory was refused, no place is put for another
kept : (status : ℕ) (bad : Option BadRecord) (was place : RawBadRecord) → status ≡ NO_MEMORY → place ≡ was → place_told status bad place ≡ was
kept status None was place refused same = same
kept status (Some bad) was place refused same = rw refused same

tells_in_place : (status : ℕ) (bad : Option BadRecord) (fault : Option FaultTold) (was place : RawBadRecord) → AreBothBad bad fault
    → TellsPlace (place_of fault) status was place → TellsPlace (option_map raw_bad_plan bad) status was (place_told status bad place)
tells_in_place status None None was place both tells = tells
tells_in_place status None (Some fault) was place both tells = absurd both
tells_in_place status (Some bad) None was place both tells = absurd both
tells_in_place status (Some bad) (Some fault) was place both tells = (tells.0, rw tells.0 refl)

runs_in_place : (caller status : ℕ) (lines : List LineTold) (bad : Option BadRecord) (fault : Option FaultTold) (was place : RawBadRecord)
    (before after : Shown) → AreBothBad bad fault → Runs caller lines (place_of fault) status was place before after
    → Runs caller lines (option_map raw_bad_plan bad) status was (place_told status bad place) before after
runs_in_place caller status lines bad fault was place before after both (inl (refused, same, some)) = inl (refused, kept status bad was place refused same, some)
runs_in_place caller status lines bad fault was place before after both (inr (tells, all)) =
    inr (tells_in_place status bad fault was place both tells, all)

-- Use: the place of the bad record of a plan was put for that of the record that stands for it.
pub opens_in_place : (caller status : ℕ) (o : Option ScriptSettings) (t : Told) (bad : Option BadRecord) (titles : Titles)
    (was place : RawBadRecord) (after : Option Held) → AreBothBad bad t.rest.fault → OpensTold caller o (told_with t titles) status was place after
    → OpensTold caller o (told_plan t bad titles) status was (place_told status bad place) after
opens_in_place caller status None t bad titles was place after both (none, inl (refused, same)) =
    (none, inl (refused, kept status bad was place refused same))
opens_in_place caller status None t bad titles was place after both (none, inr (is, tells)) =
    (none, inr (is, tells_in_place status bad t.rest.fault was place both tells))
opens_in_place caller status (Some s) t bad titles was place None both (refused, same) = (refused, kept status bad was place refused same)
opens_in_place caller status (Some s) t bad titles was place (Some held) both ((opened, new, runs), desk, titled) =
    ((opened, new, runs_in_place caller status t.rest.lines bad t.rest.fault was place opened held.desk both runs), desk, titled)
