-- Where no command of a script is refused, none is counted, and the answer of `fit` is that of the verdict on none.
use Rattle.std.proofs.Common.{◌≡◌, ◌∙◌, ◌+◌, ◌==◌, ℕ, Bool, true, Some, List, [], ◌∷◌, ◌++◌, All, replicate, arith, refl, sym, ap, subst}
use Rattle.std.specs.Prelude.{◌↔◌, if◌then◌else◌}
use Rattle.std.specs.Option.{option_map}
use Rattle.std.proofs.lemmas.Bool.{eq-eqb}
use Rattle.std.proofs.lemmas.List.Elements.{All-head, All-tail}
use Rattle.pf_vocabulary.specs.declared.names.named.Named.{Named}
use Rattle.pf_desk.specs.declared.command.Command.{Command}
use Rattle.pf_desk.specs.declared.command.Command.TheVariants as command
use Rattle.pf_desk.specs.declared.entry.Entry.{Entry}
use Rattle.pf_desk.specs.declared.reply.Reply.{Reply}
use Rattle.pf_desk.specs.declared.reply.Reply.TheVariants.{Edited, Stepped, Refused}
use Rattle.pf_desk.specs.Machine.{State, opening_state, reply_to, state_after}
use Rattle.pf_desk.specs.History.{IsLegal, IsLegalFrom}
use Rattle.pf_vocabulary.specs.declared.fault.status.Status.TheVariants.{Done}
use Rattle.pf_fit_command.specs.Fit.{most_lines, status_of_verdict, tells_all}
use Rattle.pf_script_run.specs.Carried.{asked_in}
use Rattle.pf_plain_script.specs.Carried.{state_behind}
use Rattle.pf_script_results.specs.Places.{place_of}
use Rattle.pf_script_results.specs.Recount.{Recounted, behind_change, behind_line, behind_lines, behind_steps, none_yet, recounted}
use Rattle.pf_script_results.specs.Replies.{one_if_refused, outcome_of, refused_in}
use Rattle.pf_run_notes.specs.declared.place.Place.{Place}
use Rattle.pf_script_desk.specs.Asked.{commands_in, commands_of}
use Rattle.pf_script.specs.Told.{told}
use Rattle.pf_script.specs.declared.line.Line.{Line}
use Rattle.pf_script.specs.declared.line.Line.TheVariants.{Edit, Steps}
use Rattle.pf_script.specs.declared.record.LineTold.{LineTold}
use Rattle.pf_script.specs.declared.record.ScriptSettings.{ScriptSettings}
use Rattle.pf_verdict.specs.Findings.{grounds_of}
use Rattle.pf_verdict.specs.Verdict.{verdict_of}
use Rattle.pf_verdict.specs.declared.verdict.Verdict.{Verdict}
use Rattle.pf_verdict.specs.declared.verdict.Verdict.TheVariants.{Fits, FitsSoFar, DoesNotFit}
use Rattle.pf_script_laws.specs.PlanFits.Laws.{IsTaken, plan_settings}
use Rattle.pf_script_laws.specs.Agreement.Fitted.{FitsAreDone}
use Rattle.pf_script_laws.proofs.PlanFitsLemmas.Held.{plans_are_taken}
use Rattle.pf_script_laws.proofs.PlanFitsLemmas.Judged.{plans_fit}

refused_split : (st : State) (xs ys : List Command) → refused_in st (xs ++ ys) ≡ refused_in st xs + refused_in (state_behind st xs) ys
refused_split st [] ys = omega arith
refused_split st (x ∷ xs) ys =
    let more = refused_split (state_after st x (reply_to st x)) xs ys in
    omega (arith, more)

-- a history of which each command was taken
none_refused : (st : State) (es : List Entry) → IsLegalFrom st es → All (λ e. IsTaken e.reply) es → refused_in st (asked_in es) ≡ 0
none_refused st [] legal taken = refl
none_refused st (e ∷ es) legal taken =
    let next : state_after st e.command e.reply ≡ state_after st e.command (reply_to st e.command) = ap (state_after st e.command) legal.0 in
    let more = none_refused (state_after st e.command (reply_to st e.command)) es (subst (λ (q : State). IsLegalFrom q es) next legal.1)
    (All-tail (λ d. IsTaken d.reply) e es taken) in
    let one = counts (reply_to st e.command) (subst IsTaken legal.0 (All-head (λ d. IsTaken d.reply) e es taken)) in
    omega (arith, one, more)
  where
    counts : (r : Reply) → IsTaken r → one_if_refused (outcome_of r) ≡ 0
    counts (Edited id) is = refl
    counts (Stepped slot row) is = refl
    counts (Refused fault) is = absurd is

module _ (file : List ℕ) (hints : Bool) (names : List Named) (whole : Bool) where
  one_line : (st : State) (place : Place) (line : Line) (c : Recounted) → refused_in st (commands_of line) ≡ 0
      → (behind_line file hints names whole st place line c).refusals.commands ≡ c.refusals.commands
  one_line st place (Edit change strict) c none = by (reply_to st (command.Edit change strict)) none
    where
      by : (r : Reply) → one_if_refused (outcome_of r) + 0 ≡ 0
          → (behind_change file hints names whole st.plan place change (outcome_of r) c).refusals.commands ≡ c.refusals.commands
      by (Edited id) e = refl
      by (Stepped slot row) e = refl
      by (Refused fault) e = absurd (omega (arith, e))
  one_line st place (Steps count) c none =
      let n : ℕ = refused_in st (replicate count command.Step) in
      let h : ℕ = st.plan.settings.horizon in
      let zero : (n == 0) ≡ true = eq-eqb n 0 none in
      ap (λ b. (if b then c else behind_steps file whole place h count n c).refusals.commands) zero

  all_lines : (place_at : ℕ → Place) (st : State) (lines : List LineTold) (c : Recounted) → refused_in st (commands_in lines) ≡ 0
      → (behind_lines file hints names whole place_at st lines c).refusals.commands ≡ c.refusals.commands
  all_lines place_at st [] c none = refl
  all_lines place_at st (line ∷ lines) c none =
      let both = refused_split st (commands_of line.asks) (commands_in lines) in
      let first : refused_in st (commands_of line.asks) ≡ 0 = omega (arith, none, both) in
      let rest : refused_in (state_behind st (commands_of line.asks)) (commands_in lines) ≡ 0 = omega (arith, none, both) in
      all_lines place_at (state_behind st (commands_of line.asks)) lines (behind_line file hints names whole st (place_at line.number) line.asks c) rest
      ∙ one_line st (place_at line.number) line.asks c first

done_fits : (v : Verdict) → (status_of_verdict v ≡ Done) ↔ (v ≡ Fits)
done_fits Fits = (λ e. refl, λ e. refl)
done_fits FitsSoFar = (λ e. cc, λ e. cc)
done_fits DoesNotFit = (λ e. cc, λ e. cc)

pub fits_are_done : FitsAreDone
unfolding recounted
fits_are_done m quantum tasks plan format file hints origins titles script answer written measured asks made =
    let behind = made.behind in
    let same : behind.opening ≡ asks.opening = let bad : Some behind.opening ≡ Some asks.opening = sym behind.opens ∙ asks.opens in cc in
    let settings = behind.settings ∙ ap (λ (o : ScriptSettings). o.settings) same ∙ asks.settings in
    let asked = behind.asked ∙ asks.asks in
    let legal : IsLegal (plan_settings m plan.base) behind.history = subst (λ q. IsLegal q behind.history) settings behind.stands.legal in
    let taken = plans_are_taken m quantum tasks plan behind.history written measured legal asked in
    let none : refused_in (opening_state (plan_settings m plan.base)) (commands_in (told script).rest.lines) ≡ 0 =
    subst (λ cs. refused_in (opening_state (plan_settings m plan.base)) cs ≡ 0) behind.asked
    (none_refused (opening_state (plan_settings m plan.base)) behind.history legal taken) in
    let at = λ (o : ScriptSettings). behind_lines file hints titles.names (tells_all format) (place_of origins script) (opening_state o.settings) (told script).rest.lines
    (none_yet (most_lines format)) in
    let is : Some made.came ≡ Some (at asks.opening) = made.counted ∙ ap (option_map at) asks.opens in
    let came : made.came ≡ at asks.opening = cc in
    let count : made.came.refusals.commands ≡ 0 =
    ap (λ (r : Recounted). r.refusals.commands) came
    ∙ all_lines file hints titles.names (tells_all format) (place_of origins script) (opening_state asks.opening.settings) (told script).rest.lines (none_yet (most_lines format))
    (subst (λ q. refused_in (opening_state q) (commands_in (told script).rest.lines) ≡ 0) (sym asks.settings) none) in
    let verdict = plans_fit m quantum tasks plan behind.history made.seen written measured settings asked behind.stands in
    let ends : answer.ending.status ≡ status_of_verdict (verdict_of (grounds_of made.seen 0)) =
    made.ends.ends ∙ ap (λ (n : ℕ). status_of_verdict (verdict_of (grounds_of made.seen n))) count in
    let status = done_fits (verdict_of (grounds_of made.seen 0)) in
    (λ done. verdict.0 (status.0 (sym ends ∙ done)), λ within. ends ∙ status.1 (verdict.1 within))
