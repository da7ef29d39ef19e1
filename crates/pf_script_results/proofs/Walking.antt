-- A walk over a script's records, beside the history of a desk.
use Rattle.std.proofs.Common.{◌≡◌, ◌<◌, ◌≤◌, ℕ, ◌+◌, ◌-◌, zero, suc, Bool, List, [], ◌∷◌, ◌++◌, Option, None, Some, Result, Ok, Err, refl, sym, ap, ap₂, subst, ◌∙◌, arith, replicate, drop, length, true, false, rules, tests}
use Rattle.std.specs.Prelude.{OnOk, ◌==◌, if◌then◌else◌}
use Rattle.std.specs.List.{slice_get}
use Rattle.std.proofs.Math.Seq.{drop-nil}
use Rattle.std.proofs.Math.ListN.{drop_of_length-le}
use Rattle.std.proofs.lemmas.List.{drop_more, replicate_more}
use Rattle.std.proofs.lemmas.Option.{get_or_from_slice_get, slice_get_within}
use Rattle.pf_script_run.specs.Carried.{asked_in}
use Rattle.pf_desk.specs.declared.command.Command.{Command}
use Rattle.pf_desk.specs.declared.command.Command.TheVariants.{Edit, Step}
use Rattle.pf_desk.specs.declared.entry.Entry.{Entry}
use Rattle.pf_desk.specs.declared.reply.Fault.{Fault}
use Rattle.pf_desk.specs.declared.reply.Reply.{Reply}
use Rattle.pf_desk.specs.declared.reply.Reply.TheVariants.{Edited, Stepped, Refused}
use Rattle.pf_desk.specs.History.{IsLegalFrom}
use Rattle.pf_desk.specs.Machine.{State, edit_reply, next_state, reply_to, state_after}
use Rattle.pf_scenario.specs.Edit.{edit_fault}
use Rattle.pf_vocabulary.specs.declared.names.named.Named.{Named}
use Rattle.pf_plain_script.specs.Carried.{state_behind, state_behind_line}
use Rattle.pf_plain_script.specs.declared.origin.Origin.{Origin}
use Rattle.pf_run_notes.specs.declared.place.Place.{Place}
use Rattle.pf_scenario.specs.Scenario.{Plan, plan_after}
use Rattle.pf_script_desk.specs.Asked.{commands_in, commands_of}
use Rattle.pf_script.specs.declared.line.Line.TheVariants as line
use Rattle.pf_script.specs.declared.record.LineTold.{LineTold}
use Rattle.pf_script_results.specs.Places.{ArePlaces, place_of}
use Rattle.pf_script_results.specs.Recount.{Recounted, behind_change, behind_line, behind_lines, behind_making, behind_refusal, behind_steps, behind_steps_if}
use Rattle.pf_script_results.specs.Walk.{IsAt, RiseAbove, Stands, Walks}
use Rattle.pf_script_results.specs.declared.course.Course.{Course}
use Rattle.pf_script_results.specs.declared.stop.Stop.{Stop}
use Rattle.pf_scenario.specs.declared.change.Change.{Change}
use Rattle.pf_scenario.specs.declared.fault.EditFault.{EditFault}
use Rattle.pf_script_results.specs.Replies.{IsOwn, TakesAnswer, one_if_refused, outcome_of, refused_in}
use Rattle.pf_script_results.specs.declared.outcome.Outcome.{Outcome}
use Rattle.pf_script_results.specs.declared.outcome.Outcome.TheVariants as outcome

-- Use: of the entries left one was taken.
pub next_entry : (entries : List Entry) (at : ℕ) (e : Entry) → slice_get entries at ≡ Some e → drop at entries ≡ e ∷ drop (at + 1) entries
next_entry entries at e is =
    drop_more entries at e (slice_get_within entries at e is)
    ∙ ap (λ x. x ∷ drop (at + 1) entries) (get_or_from_slice_get entries at e e is)

-- Use: there was none.
pub no_entry : (entries : List Entry) (at : ℕ) → slice_get entries at ≡ None → drop at entries ≡ []
no_entry [] at is = drop-nil at
no_entry (e ∷ es) zero is = cc
no_entry (e ∷ es) (suc at) is = no_entry es at is

pub none_behind : (entries : List Entry) (at : ℕ) → length entries ≤ at → drop at entries ≡ []
none_behind entries at h = drop_of_length-le entries h

-- Use: what holds anyway.
pub ok_anyway : {A E : Type 0} (r : Result A E) (P : Type 0) → P → OnOk r P
ok_anyway (Ok x) P h = h
ok_anyway (Err e) P h = tt

-- the commands after the first
abbrev behind_first : List Command → List Command
behind_first [] = []
behind_first (command ∷ commands) = commands

-- Use: an entry was taken.
module _ (command : Command) (came : Outcome) (old new : List Entry) (taken : TakesAnswer command came old new) where
  pub answer_is : (st : State) → IsLegalFrom st old → came ≡ outcome_of (reply_to st command)
  answer_is st legal =
      let l = subst (IsLegalFrom st) taken.taken legal in
      taken.answered ∙ ap outcome_of (l.0 ∙ ap (reply_to st) taken.asked)

  pub answer_legal : (st : State) → IsLegalFrom st old → IsLegalFrom (state_after st command (reply_to st command)) new
  answer_legal st legal =
      let l = subst (IsLegalFrom st) taken.taken legal in
      subst (λ s. IsLegalFrom s new) (ap₂ (state_after st) taken.asked (l.0 ∙ ap (reply_to st) taken.asked)) l.1

  pub answer_rest : (rest : List Command) → asked_in old ≡ command ∷ rest → asked_in new ≡ rest
  answer_rest rest is = ap behind_first (sym (ap asked_in taken.taken) ∙ is)

-- the state after some commands, and then others
behind-append : (st : State) (xs ys : List Command) → state_behind st (xs ++ ys) ≡ state_behind (state_behind st xs) ys
behind-append st [] ys = refl
behind-append st (x ∷ xs) ys = behind-append (state_after st x (reply_to st x)) xs ys

-- the refusals of some commands, and then of others
refused_in-append : (st : State) (xs ys : List Command) → refused_in st (xs ++ ys) ≡ refused_in st xs + refused_in (state_behind st xs) ys
refused_in-append st [] ys = let e : refused_in st ys ≡ 0 + refused_in st ys = omega arith in e
refused_in-append st (x ∷ xs) ys =
    let rest = refused_in-append (state_after st x (reply_to st x)) xs ys in
    omega (arith, rest)

-- Use: the entry of one step more was taken.
module _ (turn : ℕ) (st : State) (came : Outcome) (old new : List Entry) (taken : TakesAnswer Step came old new)
    (legal : IsLegalFrom (state_behind st (replicate turn Step)) old) where
  pub refused_more : (refused more : ℕ) → refused ≡ refused_in st (replicate turn Step) → more ≡ refused + one_if_refused came
      → more ≡ refused_in st (replicate (turn + 1) Step)
  refused_more refused more is counted =
      let st' = state_behind st (replicate turn Step) in
      let one : refused_in st' (Step ∷ []) ≡ one_if_refused came =
      omega (arith, ap one_if_refused (answer_is Step came old new taken st' legal)) in
      counted ∙ ap₂ (λ a b. a + b) is (sym one)
      ∙ sym (refused_in-append st (replicate turn Step) (Step ∷ [])) ∙ ap (refused_in st) (replicate_more turn Step)

  pub legal_more : IsLegalFrom (state_behind st (replicate (turn + 1) Step)) new
  legal_more =
      subst (λ s. IsLegalFrom s new)
      (sym (behind-append st (replicate turn Step) (Step ∷ [])) ∙ ap (state_behind st) (replicate_more turn Step))
      (answer_legal Step came old new taken (state_behind st (replicate turn Step)) legal)

-- Use: of the steps left one is the first.
pub one_left : (count turn : ℕ) (rest : List Command) → turn < count
    → replicate (count - turn) Step ++ rest ≡ Step ∷ (replicate (count - (turn + 1)) Step ++ rest)
one_left count turn rest h = let n : count - turn ≡ suc (count - (turn + 1)) = omega (arith, h) in ap (λ n. replicate n Step ++ rest) n

pub none_left : (count turn : ℕ) (rest : List Command) → count ≤ turn → replicate (count - turn) Step ++ rest ≡ rest
none_left count turn rest h = let n : count - turn ≡ 0 = omega (arith, h) in ap (λ n. replicate n Step ++ rest) n

-- what a command makes of the state, by what it came to
done_state : (st : State) (command : Command) (reply : Reply) → outcome.Done ≡ outcome_of reply → state_after st command reply ≡ next_state st command
done_state st command (Edited id) h = refl
done_state st command (Stepped slot row) h = refl
done_state st command (Refused fault) h = cc

refused_state : (st : State) (command : Command) (reply : Reply) (fault : Fault) → outcome.Refused fault ≡ outcome_of reply → state_after st command reply ≡ st
refused_state st command (Edited id) fault h = cc
refused_state st command (Stepped slot row) fault h = cc
refused_state st command (Refused why) fault h = refl

no_fault : (st : State) (change : Change) (strict : Bool) (fault : Option EditFault) → outcome.Done ≡ outcome_of (edit_reply st change strict fault) → fault ≡ None
no_fault st change strict None h = refl
no_fault st change strict (Some fault) h = cc

-- what a change makes of the state, by what it came to
module _ (st : State) (change : Change) (strict : Bool) where
  -- Use: a change was done, or refused.
  pub change_has_no_fault : outcome.Done ≡ outcome_of (reply_to st (Edit change strict)) → edit_fault st.plan change ≡ None
  change_has_no_fault h = no_fault st change strict (edit_fault st.plan change) h

  pub change_done : outcome.Done ≡ outcome_of (reply_to st (Edit change strict)) →
      state_after st (Edit change strict) (reply_to st (Edit change strict)) ≡ record st { plan = plan_after st.plan change }
  change_done h = done_state st (Edit change strict) (reply_to st (Edit change strict)) h

  pub change_refused : (fault : Fault) → outcome.Refused fault ≡ outcome_of (reply_to st (Edit change strict)) →
      state_after st (Edit change strict) (reply_to st (Edit change strict)) ≡ st
  change_refused fault h = refused_state st (Edit change strict) (reply_to st (Edit change strict)) fault h

-- Use: a record with a change that was done.
module _ (origins : Option (List Origin)) (script : List ℕ) (bound number : ℕ) (st : State) (change : Change) (strict : Bool) (c d : Course) (came : Outcome)
    (taken : TakesAnswer (Edit change strict) came c.replies d.replies) (at : IsAt origins script bound st c) where
  pub done_is : came ≡ outcome.Done → outcome.Done ≡ outcome_of (reply_to st (Edit change strict))
  done_is is = sym is ∙ answer_is (Edit change strict) came c.replies d.replies taken st at.legal

  pub done_stands : (r : Result (Unit {0}) Stop) → came ≡ outcome.Done → ArePlaces origins script number d.places
      → OnOk r (d.scenario ≡ plan_after c.scenario change) → OnOk r (IsAt origins script number (state_behind_line st (line.Edit change strict)) d)
  done_stands (Ok done) is places made = record {
    places = places;
    scenario =
        made ∙ ap (λ s. plan_after s change) at.scenario
        ∙ sym (ap (λ (s : State). s.plan) (change_done st change strict (done_is is)));
    legal = answer_legal (Edit change strict) came c.replies d.replies taken st at.legal;
  }
  done_stands (Err e) is places made = tt

  pub done_value : (file : List ℕ) (hints : Bool) (names : List Named) (whole : Bool) (r : Result (Unit {0}) Stop) (place : Place) (was now : Recounted) → came ≡ outcome.Done
      → place ≡ place_of origins script number → OnOk r (now ≡ behind_making place change was)
      → OnOk r (now ≡ behind_line file hints names whole st (place_of origins script number) (line.Edit change strict) was)
  done_value file hints names whole (Ok done) place was now is stands made =
      made ∙ ap (λ p. behind_making p change was) stands
      ∙ ap (λ o. behind_change file hints names whole st.plan (place_of origins script number) change o was) (done_is is)
  done_value file hints names whole (Err e) place was now is stands made = tt

  pub done_own : (r : Result (Unit {0}) Stop) → came ≡ outcome.Done → (edit_fault c.scenario change ≡ None → IsOwn r) → IsOwn r
  done_own r is own =
      own (ap (λ s. edit_fault s change) at.scenario ∙ change_has_no_fault st change strict (done_is is))

  -- Use: and one that was refused.
  pub refused_is : (fault : Fault) → came ≡ outcome.Refused fault → outcome.Refused fault ≡ outcome_of (reply_to st (Edit change strict))
  refused_is fault is = sym is ∙ answer_is (Edit change strict) came c.replies d.replies taken st at.legal

  pub refused_stands : (r : Result (Unit {0}) Stop) (fault : Fault) → came ≡ outcome.Refused fault → ArePlaces origins script number d.places
      → d.scenario ≡ c.scenario → OnOk r (IsAt origins script number (state_behind_line st (line.Edit change strict)) d)
  refused_stands (Ok done) fault is places same = record {
    places = places;
    scenario = same ∙ at.scenario ∙ sym (ap (λ (s : State). s.plan) (change_refused st change strict fault (refused_is fault is)));
    legal = answer_legal (Edit change strict) came c.replies d.replies taken st at.legal;
  }
  refused_stands (Err e) fault is places same = tt

  pub refused_value : (file : List ℕ) (hints : Bool) (names : List Named) (whole : Bool) (r : Result (Unit {0}) Stop) (fault : Fault) (place : Place) (was now : Recounted)
      → came ≡ outcome.Refused fault → place ≡ place_of origins script number
      → OnOk r (now ≡ behind_refusal file hints names whole c.scenario place change fault was)
      → OnOk r (now ≡ behind_line file hints names whole st (place_of origins script number) (line.Edit change strict) was)
  refused_value file hints names whole (Ok done) fault place was now is stands refused =
      refused ∙ ap₂ (λ s p. behind_refusal file hints names whole s p change fault was) at.scenario stands
      ∙ ap (λ o. behind_change file hints names whole st.plan (place_of origins script number) change o was) (refused_is fault is)
  refused_value file hints names whole (Err e) fault place was now is stands refused = tt

-- Use: the entries after that of a change.
pub change_rest : {A E : Type 0} (r : Result A E) (change : Change) (strict : Bool) (came : Outcome) (old new : List Entry)
    → TakesAnswer (Edit change strict) came old new → (rest : List Command)
    → asked_in old ≡ commands_of (line.Edit change strict) ++ rest → OnOk r (asked_in new ≡ rest)
change_rest (Ok x) change strict came old new taken rest is = answer_rest (Edit change strict) came old new taken rest is
change_rest (Err e) change strict came old new taken rest is = tt

-- a step keeps the plan
step_keeps : (s : State) (reply : Reply) → (state_after s Step reply).plan ≡ s.plan
step_keeps s (Edited id) = refl
step_keeps s (Stepped slot row) = refl
step_keeps s (Refused fault) = refl

-- a record of which some steps were refused
some_steps : (b : Bool) (none some : Recounted) → b ≡ false → some ≡ (if b then none else some)
some_steps true none some h = cc
some_steps false none some h = refl

-- Use: a record with steps, of which none was refused.
module _ (origins : Option (List Origin)) (script : List ℕ) (bound number count refused : ℕ) (st : State) (c d : Course) (at : IsAt origins script bound st c)
    (legal : IsLegalFrom (state_behind st (replicate count Step)) d.replies) (is : refused ≡ refused_in st (replicate count Step)) where
  plan_stays : (n : ℕ) (s : State) → (state_behind s (replicate n Step)).plan ≡ s.plan
  plan_stays zero s = refl
  plan_stays (suc n) s = plan_stays n (state_after s Step (reply_to s Step)) ∙ step_keeps s (reply_to s Step)

  pub steps_stand : ArePlaces origins script number d.places → d.scenario ≡ c.scenario
      → IsAt origins script number (state_behind_line st (line.Steps count)) d
  steps_stand places same = record { places = places; scenario = same ∙ at.scenario ∙ sym (plan_stays count st); legal = legal }

  pub steps_stand_if : (r : Result (Unit {0}) Stop) → ArePlaces origins script number d.places → d.scenario ≡ c.scenario
      → OnOk r (IsAt origins script number (state_behind_line st (line.Steps count)) d)
  steps_stand_if (Ok done) places same = steps_stand places same
  steps_stand_if (Err e) places same = tt

  pub none_value : (file : List ℕ) (hints : Bool) (names : List Named) (whole : Bool) (was : Recounted) → refused ≡ 0
      → was ≡ behind_line file hints names whole st (place_of origins script number) (line.Steps count) was
  none_value file hints names whole was none =
      ap (λ n. behind_steps_if file whole (place_of origins script number) st.plan.settings.horizon count n was) (sym none ∙ is)

  pub some_value : (file : List ℕ) (hints : Bool) (names : List Named) (whole : Bool) (r : Result (Unit {0}) Stop) (place : Place) (was now : Recounted) → (refused ≡ 0 → ⊥)
      → place ≡ place_of origins script number → OnOk r (now ≡ behind_steps file whole place c.scenario.settings.horizon count refused was)
      → OnOk r (now ≡ behind_line file hints names whole st (place_of origins script number) (line.Steps count) was)
  some_value file hints names whole (Ok done) place was now some stands told =
      let not_none : (refused == 0) ≡ false = search (rules, tests) in
      told ∙ ap₂ (λ s p. behind_steps file whole p s count refused was) (ap (λ (s : Plan). s.settings.horizon) at.scenario) stands
      ∙ some_steps (refused == 0) was (behind_steps file whole (place_of origins script number) st.plan.settings.horizon count refused was) not_none
      ∙ ap (λ n. behind_steps_if file whole (place_of origins script number) st.plan.settings.horizon count n was) is
  some_value file hints names whole (Err e) place was now some stands told = tt

-- Use: of the records left one was gone over.
pub next_stands : (file : List ℕ) (hints : Bool) (names : List Named) (keeps : Bool) (origins : Option (List Origin)) (script : List ℕ) (told : LineTold) (c d : Course) (was now : Recounted)
    (left behind : List LineTold) (whole : Recounted) (had : Type 0) (done : Unit {0}) → left ≡ told ∷ behind
    → Stands file hints names keeps origins script c was left whole had → Walks file hints names keeps told.number told.asks (Ok done) c was d now
    → Stands file hints names keeps origins script d now behind whole had
next_stands file hints names keeps origins script told c d was now left behind whole had done is s w =
    let rises = subst (RiseAbove s.bound) is s.rises in
    record {
      bound = told.number;
      state = state_behind_line s.state told.asks;
      at = w.course origins script s.bound s.state s.at rises.0;
      rises = rises.1;
      comes =
          ap (behind_lines file hints names keeps (place_of origins script) (state_behind_line s.state told.asks) behind) (w.value origins script s.bound s.state s.at rises.0)
          ∙ ap (λ ls. behind_lines file hints names keeps (place_of origins script) s.state ls was) (sym is) ∙ s.comes;
      has = λ h. w.rest (commands_in behind) (s.has h ∙ ap commands_in is);
    }

-- Use: it is the history of the script's, so far.
pub own_stands : (file : List ℕ) (hints : Bool) (names : List Named) (keeps : Bool) (origins : Option (List Origin)) (script : List ℕ) (told : LineTold) (c d : Course) (was now : Recounted)
    (left behind : List LineTold) (whole : Recounted) (had : Type 0) (r : Result (Unit {0}) Stop) → left ≡ told ∷ behind
    → Stands file hints names keeps origins script c was left whole had → Walks file hints names keeps told.number told.asks r c was d now → had → IsOwn r
own_stands file hints names keeps origins script told c d was now left behind whole had r is s w h =
    w.own origins script s.bound s.state (commands_in behind) s.at (s.has h ∙ ap commands_in is)

-- Use: none is left.
pub last_stands : (file : List ℕ) (hints : Bool) (names : List Named) (keeps : Bool) (origins : Option (List Origin)) (script : List ℕ) (c : Course) (was : Recounted)
    (left : List LineTold) (whole : Recounted) (had : Type 0) → left ≡ [] → Stands file hints names keeps origins script c was left whole had → was ≡ whole
last_stands file hints names keeps origins script c was left whole had is s =
    ap (λ ls. behind_lines file hints names keeps (place_of origins script) s.state ls was) (sym is) ∙ s.comes

-- Use: none was gone over yet.
pub first_stands : (file : List ℕ) (hints : Bool) (names : List Named) (keeps : Bool) (origins : Option (List Origin)) (script : List ℕ) (bound : ℕ) (st : State) (c : Course)
    (was : Recounted) (lines : List LineTold) → IsAt origins script bound st c → RiseAbove bound lines
    → Stands file hints names keeps origins script c was lines (behind_lines file hints names keeps (place_of origins script) st lines was) (asked_in c.replies ≡ commands_in lines)
first_stands file hints names keeps origins script bound st c was lines at rises = record {
  bound = bound;
  state = st;
  at = at;
  rises = rises;
  comes = refl;
  has = λ h. h;
}
