-- What the bytes of a script ask for in a drill, by the script of version 2 that belongs to them.
use Rattle.std.proofs.Common.{◌≡◌, ◌≤◌, ℕ, List, length, Option, None, Some, Result, Ok, Err, refl, sym, subst, ◌∙◌, inl}
use Rattle.std.specs.Prelude.{⊤, IfErr, IfOk, IfSome}
use Rattle.pf_board.specs.declared.quantum.Quantum.{Quantum}
use Rattle.pf_drill.specs.declared.worker.Worker.{Worker}
use Rattle.pf_drill.specs.Drilled.{Drills}
use Rattle.pf_vocabulary.specs.declared.fault.answer.Answer.{Answer}
use Rattle.pf_vocabulary.specs.declared.fault.fault.Fault.{Fault}
use Rattle.pf_plain_script.specs.declared.plain.PlainScript.{PlainScript}
use Rattle.pf_plain_script.specs.Plain.{IsPlain, MakesPlain, Plain, plain}
use Rattle.pf_stream.specs.Reading.{longest_script}
use Rattle.pf_stream.specs.Written.{TookFront}
use Rattle.pf_cli.specs.Drills.{DrillsAs, StopsDrill, StopsOf, StopsPlan, asked_of, drill_asked, plan_asked}
use Rattle.pf_cli.specs.declared.run_fault.RunFault.TheVariants as why

-- Use: the drill of a plan is that of the bytes, ..
pub plan_drills : (lets_in : Worker → Quantum → Type 0) (bytes : List ℕ) (s : PlainScript) (r : Result Answer Fault) → MakesPlain (Some s) (plain bytes)
    → ((p : Plain) → IsPlain s p → IfOk r (λ answer. Drills lets_in (plan_asked p) answer.text.items))
    → IfOk r (λ answer. Drills lets_in (drill_asked bytes) answer.text.items)
plan_drills lets_in bytes s r made drills = by (plain bytes) refl made
  where
    by : (q : Option Plain) → plain bytes ≡ q → MakesPlain (Some s) q → IfOk r (λ answer. Drills lets_in (drill_asked bytes) answer.text.items)
    by None is made = absurd made
    by (Some p) is made =
        subst (λ (q : Option Plain). IfOk r (λ answer. Drills lets_in (asked_of bytes q) answer.text.items)) (sym is) (drills p made)

-- .. and so is what stops it.
pub plan_stops : (shut : Type 0) (bytes : List ℕ) (s : PlainScript) (r : Result Answer Fault) → MakesPlain (Some s) (plain bytes)
    → ((p : Plain) → IsPlain s p → IfErr r (StopsPlan shut p)) → IfErr r (StopsDrill shut bytes)
plan_stops shut bytes s (Ok answer) made stops = tt
plan_stops shut bytes s (Err fault) made stops = by (plain bytes) refl made
  where
    by : (q : Option Plain) → plain bytes ≡ q → MakesPlain (Some s) q → StopsDrill shut bytes fault
    by None is made = absurd made
    by (Some p) is made = inl (subst (λ (q : Option Plain). StopsOf shut bytes q fault) (sym is) (stops p made))

-- Use: the writer took a front of the drill's text.
pub half_written : (lets_in : Worker → Quantum → Type 0) (shut : Type 0) (input : Option (List ℕ)) (script read text out : List ℕ) (old new : Option (List ℕ))
    → IfSome input (λ bytes. (script ≡ bytes) × (length bytes ≤ longest_script)) → read ≡ script → Drills lets_in (drill_asked read) text → out ≡ text
    → TookFront old new out → IfSome input (λ bytes. DrillsAs {A = ⊤} lets_in shut bytes (Err why.WriteFault) old new)
half_written lets_in shut None script read text out old new had same drills is took = tt
half_written lets_in shut (Some bytes) script read text out old new had same drills is took =
    (text, subst (λ (b : List ℕ). Drills lets_in (drill_asked b) text) (same ∙ had.0) drills, subst (λ (t : List ℕ). TookFront old new t) is took)
