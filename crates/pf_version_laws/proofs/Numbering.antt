-- The numbers that a desk gives to events are short.
use Rattle.std.proofs.Common.{◌≡◌, ◌^◌, ◌<◌, ◌≤◌, ◌+◌, ◌==◌, Bool, true, false, Some, None, Option, List, [], ◌∷◌, length, arith, refl}
use Rattle.std.specs.Prelude.{nat_le, nat_lt}
use Rattle.std.proofs.lemmas.Bool.Decides.{nat_tests}
use Rattle.pf_desk.specs.Machine.{State, edit_reply, reply_to, state_after, step_reply}
use Rattle.pf_desk.specs.declared.command.Command.{Command}
use Rattle.pf_desk.specs.declared.command.Command.TheVariants as command
use Rattle.pf_run.specs.declared.denied.Denied.{Denied}
use Rattle.pf_run.specs.RunRows.{denials_in}
use Rattle.pf_scenario.specs.Edit.{edit_fault, event_fault, or_else, unless}
use Rattle.pf_scenario.specs.Scenario.{Plan, plan_after}
use Rattle.pf_scenario.specs.declared.change.Change.{Change}
use Rattle.pf_scenario.specs.declared.change.Change.TheVariants.{Insert, Alter, Strike}
use Rattle.pf_scenario.specs.declared.fault.EditFault.{EditFault}
use Rattle.pf_scenario.specs.declared.fault.EditFault.TheVariants.{NumbersSpent, TooManyEvents}
use Rattle.pf_scenario.specs.declared.scenario.TheConstants.{LAST_NUMBER, MOST_EVENTS}
use Rattle.std.specs.List.{slice_get}
use Rattle.pf_script_desk.specs.Asked.{commands_of}
use Rattle.pf_script.specs.declared.line.Line.{Line}
use Rattle.pf_script.specs.declared.line.Line.TheVariants.{Edit, Steps}
use Rattle.pf_plain_script.specs.Carried.{number_given, number_in, state_behind, state_behind_line}

-- the numbers that are left are those up to the last one
abbrev pub IsNumbering : State → Type 0
IsNumbering st = st.plan.next ≤ LAST_NUMBER + 1

second : (a b : Option EditFault) → or_else a b ≡ None → b ≡ None
second None b e = e
second (Some f) b e = let bad : Some f ≡ None = e in cc

passed : (b : Bool) (fault : EditFault) → unless b fault ≡ None → b ≡ true
passed true fault e = refl
passed false fault e = let bad : Some fault ≡ None = e in cc

-- an insert that is taken leaves the next number
next_kept : (s : Plan) (change : Change) → s.next ≤ LAST_NUMBER + 1 → edit_fault s change ≡ None → (plan_after s change).next ≤ LAST_NUMBER + 1
next_kept s (Insert event) few taken =
    let few_events = unless (nat_lt (length s.events) MOST_EVENTS) TooManyEvents in
    let numbers_left = unless (nat_le s.next LAST_NUMBER) NumbersSpent in
    let test =
    passed (nat_le s.next LAST_NUMBER) NumbersSpent
    (second few_events numbers_left (second (event_fault s.settings s.events event) (or_else few_events numbers_left) taken)) in
    let low : s.next ≤ LAST_NUMBER = grind (arith, nat_tests, test) in
    omega (arith, low)
next_kept s (Alter id event) few taken = few
next_kept s (Strike id) few taken = few

edit_kept : (st : State) (change : Change) (strict : Bool) (fault : Option EditFault) (denied : Option Denied) → IsNumbering st
    → (fault ≡ None → (plan_after st.plan change).next ≤ LAST_NUMBER + 1)
    → slice_get (denials_in (plan_after st.plan change) st.now) 0 ≡ denied
    → IsNumbering (state_after st (command.Edit change strict) (edit_reply st change strict fault))
edit_kept st change strict (Some fault) denied few kept is = few
edit_kept st change true None None few kept is = rw is (kept refl)
edit_kept st change true None (Some d) few kept is = rw is few
edit_kept st change false None denied few kept is = kept refl

step_kept : (st : State) (b : Bool) → IsNumbering st → (st.now == st.plan.settings.horizon) ≡ b → IsNumbering (state_after st command.Step (step_reply st))
step_kept st true few is = rw is few
step_kept st false few is = rw is few

one_kept : (st : State) (c : Command) → IsNumbering st → IsNumbering (state_after st c (reply_to st c))
one_kept st command.Step few = step_kept st (st.now == st.plan.settings.horizon) few refl
one_kept st (command.Edit change strict) few =
    edit_kept st change strict (edit_fault st.plan change) (slice_get (denials_in (plan_after st.plan change) st.now) 0) few (next_kept st.plan change few) refl

all_kept : (cs : List Command) (st : State) → IsNumbering st → IsNumbering (state_behind st cs)
all_kept [] st few = few
all_kept (c ∷ cs) st few = all_kept cs (state_after st c (reply_to st c)) (one_kept st c few)

-- Use: after a line.
pub line_kept : (line : Line) (st : State) → IsNumbering st → IsNumbering (state_behind_line st line)
line_kept line st few = all_kept (commands_of line) st few

-- the number of an alter or a strike is short
abbrev pub HasShortId : Change → Type 0
HasShortId (Insert event) = Unit {0}
HasShortId (Alter id event) = id < 10 ^ 15
HasShortId (Strike id) = id < 10 ^ 15

abbrev pub GivesShort : Line → Type 0
GivesShort (Edit change strict) = HasShortId change
GivesShort (Steps count) = Unit {0}

reply_short : (st : State) (change : Change) (strict : Bool) (fault : Option EditFault) (denied : Option Denied) → IsNumbering st → HasShortId change
    → slice_get (denials_in (plan_after st.plan change) st.now) 0 ≡ denied → number_in (edit_reply st change strict fault) < 10 ^ 15
reply_short st change strict (Some fault) denied few short is = omega arith
reply_short st change true None (Some d) few short is = rw is (omega arith)
reply_short st (Insert event) true None None few short is = rw is (omega (arith, few))
reply_short st (Alter id event) true None None few short is = rw is short
reply_short st (Strike id) true None None few short is = rw is short
reply_short st (Insert event) false None denied few short is = omega (arith, few)
reply_short st (Alter id event) false None denied few short is = short
reply_short st (Strike id) false None denied few short is = short

-- Use: the number of a line's event.
pub given_short : (line : Line) (st : State) → IsNumbering st → GivesShort line → number_given st line < 10 ^ 15
given_short (Edit change strict) st few short =
    reply_short st change strict (edit_fault st.plan change) (slice_get (denials_in (plan_after st.plan change) st.now) 0) few short refl
given_short (Steps count) st few short = omega arith
