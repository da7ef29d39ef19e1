-- One turn of an engine's loops.
use Rattle.std.proofs.Common.{◌≡◌, ℕ, Bool, ◌+◌, ◌<◌, cond, Option, Result, Ok, Err, List, [], ◌∷◌, ◌++◌, length, drop, get_or, sym, ap, ap₂, ◌∙◌, subst, arith, append_assoc, append-nil}
use Rattle.std.specs.Result.{result_err}
use Rattle.std.proofs.lemmas.List.{drop_more}
use Rattle.std.proofs.lemmas.List.Elements.{All-head}
use Rattle.pf_scenario.specs.System.{System}
use Rattle.pf_scenario.specs.Event.{is_join_of}
use Rattle.pf_scenario.specs.Edit.{IsEvent}
use Rattle.pf_scenario.specs.declared.scenario.TheConstants.{MOST_EVENTS}
use Rattle.pf_scenario.specs.declared.event.Numbered.{Numbered}
use Rattle.pf_admit.specs.declared.denial.Denial.{Denial}
use Rattle.pf_run.specs.declared.denied.Denied.{Denied}
use Rattle.pf_run.specs.Record.{Slot}
use Rattle.pf_run.specs.Denials.{denial_of, denied_for}
use Rattle.pf_run.specs.Computed.{with_event}
use Rattle.pf_engine.specs.Fits.{Kept, kept_after}
use Rattle.pf_engine.specs.Kept.{denial_at, kept_after_event, kept_after_events, denials_of_slot}
use Rattle.pf_engine.specs.Engines.{IsEngine}
use Rattle.pf_engine.specs.Points.{CanFollow, IsAt}
use Rattle.pf_engine.specs.Taking.{CanTakeEvent}
use Rattle.pf_run.proofs.Counting.{count_by-cons}
use Rattle.pf_engine.proofs.Steps.{member_same}
use Rattle.pf_engine.proofs.Events.{no_member, follow_more, kept_more}
use Rattle.pf_engine.proofs.Bounding.{engine_at, few_at}

-- one event more is taken
at_more : (e : Kept) (x : Numbered) (xs : List Numbered) → IsAt e (x ∷ xs) → IsAt (kept_after_event e x.event) xs
at_more e x xs at = record {
  settings = at.settings;
  run = at.run;
  standing = with_event at.standing x (denial_of at.settings at.run at.standing x.event);
  is_system = at.is_system;
  reached = at.reached;
  follow = follow_more at.settings at.run at.standing x xs at.follow;
  keeps = ap (λ k. kept_after_event k x.event) at.keeps ∙ kept_more at.settings at.run at.standing x xs at.follow;
}

-- which takes no time
now_more : (e : Kept) (x : Numbered) (xs : List Numbered) → IsAt e (x ∷ xs) → (kept_after_event e x.event).now ≡ e.now
unfolding kept_after at_more
now_more e x xs at = ap (λ (k : Kept). k.now) (at_more e x xs at).keeps ∙ sym (ap (λ (k : Kept). k.now) at.keeps)

-- 1 for a test that passes
abbrev passed : Bool → ℕ
passed b = cond b 1 0

-- the first of the events can be taken
first_of_kept : (s : System) (r : List Slot) (standing : List Numbered) (x : Numbered) (xs : List Numbered) → CanFollow s r standing (x ∷ xs) →
    length (kept_after s r standing).tasks < MOST_EVENTS → IsEngine (kept_after_event (kept_after s r standing) x.event) →
    CanTakeEvent (kept_after s r standing) x.event
unfolding kept_after
first_of_kept s r standing x xs can few next = record {
  limits = All-head (λ y. IsEvent s y.event) x xs can.limits_of_events;
  absent = λ task joins.
      let one = ap passed joins in
      member_same s.base r standing task
      ∙ no_member s.base r standing task (omega (arith, can.once task, count_by-cons (λ y. is_join_of task y.event) x xs, one));
  few = few;
  next = next;
}

first_of : (e : Kept) (x : Numbered) (xs : List Numbered) → IsAt e (x ∷ xs) → CanTakeEvent e x.event
first_of e x xs at =
    subst (λ k. CanTakeEvent k x.event) (sym at.keeps)
    (first_of_kept at.settings at.run at.standing x xs at.follow
    (subst (λ k. length k.tasks < MOST_EVENTS) at.keeps (omega (arith, few_at e (x ∷ xs) at)))
    (subst (λ k. IsEngine (kept_after_event k x.event)) at.keeps (engine_at (kept_after_event e x.event) xs (at_more e x xs at))))

-- the events after the first i, and those after one more
pub events_more : (e e' : Kept) (events : List Numbered) (i : ℕ) (d : Numbered) → i < length events →
    e' ≡ kept_after_event e (get_or events i d).event → kept_after_events e' (drop (i + 1) events) ≡ kept_after_events e (drop i events)
events_more e e' events i d within after =
    ap (λ k. kept_after_events k (drop (i + 1) events)) after ∙ ap (kept_after_events e) (sym (drop_more events i d within))

pub at_next : (e e' : Kept) (events : List Numbered) (i : ℕ) (d : Numbered) → i < length events →
    e' ≡ kept_after_event e (get_or events i d).event → IsAt e (drop i events) → IsAt e' (drop (i + 1) events)
at_next e e' events i d within after at =
    subst (λ k. IsAt k (drop (i + 1) events)) (sym after)
    (at_more e (get_or events i d) (drop (i + 1) events) (subst (IsAt e) (drop_more events i d within) at))

pub same_now : (e e' : Kept) (events : List Numbered) (i : ℕ) (d : Numbered) → i < length events →
    e' ≡ kept_after_event e (get_or events i d).event → IsAt e (drop i events) → e'.now ≡ e.now
same_now e e' events i d within after at =
    ap (λ (k : Kept). k.now) after
    ∙ now_more e (get_or events i d) (drop (i + 1) events) (subst (IsAt e) (drop_more events i d within) at)

pub can_take : (e : Kept) (events : List Numbered) (i : ℕ) (d : Numbered) → i < length events → IsAt e (drop i events) →
    CanTakeEvent e (get_or events i d).event
can_take e events i d within at = first_of e (get_or events i d) (drop (i + 1) events) (subst (IsAt e) (drop_more events i d within) at)

pub given_more : (e e' : Kept) (events : List Numbered) (i : ℕ) (d : Numbered) (given given' : List Denied) → i < length events →
    e' ≡ kept_after_event e (get_or events i d).event →
    given' ≡ given ++ denied_for (get_or events i d) e.now (denial_at e (get_or events i d).event) →
    given' ++ denials_of_slot e' (drop (i + 1) events) ≡ given ++ denials_of_slot e (drop i events)
given_more e e' events i d given given' within after more =
    ap₂ (λ g k. g ++ denials_of_slot k (drop (i + 1) events)) more after
    ∙ append_assoc given (denied_for (get_or events i d) e.now (denial_at e (get_or events i d).event)) _
    ∙ ap (λ xs. given ++ denials_of_slot e xs) (sym (drop_more events i d within))

pub given_denied : (x : Numbered) (now slot : ℕ) (o : Option Denial) (denial : Denial) (result : Result (Unit {0}) Denial) (given : List Denied) →
    result_err result ≡ o → result ≡ Err denial → slot ≡ now →
    given ++ record { slot = slot; id = x.id; denial = denial } ∷ [] ≡ given ++ denied_for x now o
given_denied x now slot o denial result given err is at =
    ap₂ (λ t q. given ++ denied_for x t q) at (ap result_err (sym is) ∙ err)

pub given_none : (x : Numbered) (now : ℕ) (o : Option Denial) (result : Result (Unit {0}) Denial) (given : List Denied) →
    result_err result ≡ o → (y : Unit {0}) → result ≡ Ok y → given ≡ given ++ denied_for x now o
given_none x now o result given err y is =
    sym (append-nil given) ∙ ap (λ q. given ++ denied_for x now q) (ap result_err (sym is) ∙ err)
