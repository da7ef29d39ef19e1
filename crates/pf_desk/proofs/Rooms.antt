-- Scenarios whose settings are enough, and what edits leave of that.
use Rattle.std.proofs.Common.{◌≡◌, ◌↔◌, ℕ, ◌+◌, ◌*◌, ◌<◌, ◌≤◌, ◌==◌, IsTrue, Bool, true, false, not, if◌then◌else◌, Option, None, Some, List, [], ◌∷◌, ◌++◌, map, All, arith, refl, sym, ◌∙◌, subst}
use Rattle.std.specs.Int.{div_ceil}
use Rattle.std.proofs.Math.Nat.{mul-le-mul_left, lt_of_mul-lt-mul_right}
use Rattle.std.proofs.lemmas.Bool.{both_ways, false≢true, le-leb, leb-true}
use Rattle.std.proofs.lemmas.Grind.{div_ceil_times}
use Rattle.std.proofs.lemmas.List.Elements.{All-head, All-tail, All-nil, All-cons, All-push, All-filter, All-map, All-weaker, All-contains, Contains-append_right}
use Rattle.pf_scenario.specs.System.{System}
use Rattle.pf_scenario.specs.Scenario.{Plan, with_number, is_held, plan_after}
use Rattle.pf_scenario.specs.Edit.{IsScenario, edit_fault}
use Rattle.pf_scenario.specs.declared.event.Event.{Event}
use Rattle.pf_scenario.specs.declared.event.Event.TheVariants.{Join, Leave, Delay, Limit}
use Rattle.pf_scenario.specs.declared.event.Numbered.{Numbered}
use Rattle.pf_scenario.specs.declared.change.Change.{Change}
use Rattle.pf_scenario.specs.declared.change.Change.TheVariants.{Insert, Alter, Strike}
use Rattle.pf_scenario.specs.declared.fault.EditFault.{EditFault}
use Rattle.pf_scenario.proofs.Scenarios.{changes_keep_scenarios}
use Rattle.pf_scenario.proofs.Keeping.{alter_held}
use Rattle.pf_run.proofs.Containing.{contains_head}
use Rattle.pf_tally.specs.Room.{LeavesRoom, CarriesCap}
use Rattle.pf_tally.proofs.Contents.{list_any-contains, in_map}
use Rattle.pf_desk.specs.declared.command.Command.{Command}
use Rattle.pf_desk.specs.declared.command.Command.TheVariants.{Edit, Step}
use Rattle.pf_desk.specs.declared.reply.Reply.{Reply}
use Rattle.pf_desk.specs.declared.reply.Reply.TheVariants.{Edited, Stepped, Refused}
use Rattle.pf_desk.specs.declared.entry.Entry.{Entry}
use Rattle.pf_desk.specs.Machine.{State, edit_reply, reply_to, state_after}
use Rattle.pf_desk.specs.History.{IsLegalFrom, state_behind}
use Rattle.pf_desk.specs.Room.{KeepsRoom, AsksWithinRoom, RoomIsKept, HasRoom, RoomGoesOn, leaves_needed}
use Rattle.pf_desk.proofs.Histories.{settings_changed}

-- so many processors carry the cap where they are as many as it needs
pub carries_needed : (cap base count : ℕ) → 1 ≤ base → div_ceil cap base ≤ count → cap ≤ base * count
carries_needed cap base count some enough =
    let both = div_ceil_times cap base some in
    let up : base * div_ceil cap base ≤ base * count = mul-le-mul_left base enough in
    let turned : base * div_ceil cap base ≡ div_ceil cap base * base = grind arith in
    omega (arith, both.0, up, turned)

pub needed_carries : (cap base count : ℕ) → 1 ≤ base → cap ≤ base * count → div_ceil cap base ≤ count
needed_carries cap base count some carries =
    let both = div_ceil_times cap base some in
    let more : (count + 1) * base ≡ base * count + base = grind arith in
    let up : div_ceil cap base < count + 1 = lt_of_mul-lt-mul_right base (omega (arith, both.1, carries, more)) in
    omega (arith, up)

pub leaves_is : (s : System) (event : Event) → 1 ≤ s.base →
    (leaves_needed (div_ceil s.cap s.base) event ≡ true) ↔ LeavesRoom s event
leaves_is s (Limit slot count) some = (
  λ enough. carries_needed s.cap s.base count some (leb-true (div_ceil s.cap s.base) count enough),
  λ carries. le-leb (div_ceil s.cap s.base) count (needed_carries s.cap s.base count some carries),
)
leaves_is s (Join slot task cost period early) some = (λ h. tt, λ h. refl)
leaves_is s (Leave slot task) some = (λ h. tt, λ h. refl)
leaves_is s (Delay slot task by) some = (λ h. tt, λ h. refl)

-- events looked at one by one: those that are left leave room just where all do
abbrev pub AllLeave : ℕ → List Numbered → Type 0
AllLeave needed xs = All (λ x. leaves_needed needed x.event ≡ true) xs

pub room_further : (needed : ℕ) (xs rest events : List Numbered) (x : Numbered) → xs ≡ x ∷ rest → leaves_needed needed x.event ≡ true →
    AllLeave needed xs ↔ AllLeave needed events → AllLeave needed rest ↔ AllLeave needed events
room_further needed xs rest events x is leaves before = (
  λ all. before.0 (subst (AllLeave needed) (sym is) (All-cons (λ x. leaves_needed needed x.event ≡ true) x rest leaves all)),
  λ all. All-tail (λ x. leaves_needed needed x.event ≡ true) x rest (subst (AllLeave needed) is (before.1 all)),
)

module _ (s : Plan) (scenario : IsScenario s) (needed : ℕ) (is_needed : needed ≡ div_ceil s.settings.cap s.settings.base) where
  some : 1 ≤ s.settings.base
  some = scenario.settings.limits.base.some

  all_leave : All (λ x. LeavesRoom s.settings x.event) s.events → AllLeave needed s.events
  all_leave leaves =
      subst (λ n. AllLeave n s.events) (sym is_needed)
      (All-weaker (λ x. LeavesRoom s.settings x.event) (λ x. leaves_needed (div_ceil s.settings.cap s.settings.base) x.event ≡ true)
      (λ x h. (leaves_is s.settings x.event some).1 h) s.events leaves)

  -- a limit that leaves too few
  pub room_ends : (xs rest : List Numbered) (x : Numbered) → xs ≡ x ∷ rest → leaves_needed needed x.event ≡ false →
      AllLeave needed xs ↔ AllLeave needed s.events → IsTrue false ↔ CarriesCap s
  room_ends xs rest x is leaves before = (
    λ no. absurd (false≢true no),
    λ never.
        absurd (both_ways (leaves_needed needed x.event) leaves
        (All-head (λ x. leaves_needed needed x.event ≡ true) x rest (subst (AllLeave needed) is (before.1 (all_leave never.leaves))))),
  )

  -- none does
  pub room_stays : (xs : List Numbered) → xs ≡ [] → needed ≤ s.settings.processors →
      AllLeave needed xs ↔ AllLeave needed s.events → IsTrue true ↔ CarriesCap s
  room_stays xs is enough before = (
    λ yes. record {
      carries = carries_needed s.settings.cap s.settings.base s.settings.processors some (omega (arith, enough, is_needed));
      leaves = All-weaker (λ x. leaves_needed (div_ceil s.settings.cap s.settings.base) x.event ≡ true) (λ x. LeavesRoom s.settings x.event)
          (λ x h. (leaves_is s.settings x.event some).0 h) s.events
          (subst (λ n. AllLeave n s.events) is_needed (before.0 (subst (AllLeave needed) (sym is) (All-nil (λ x. leaves_needed needed x.event ≡ true)))));
    },
    λ never. refl,
  )

-- an alter leaves the events of other numbers
module _ (P : Event → Type 0) (id : ℕ) (event : Event) where
  abbrev put : Numbered → Numbered
  put x = if x.id == id then with_number id event else x

  put_all : (xs : List Numbered) → P event → All (λ x. P x.event) xs → All (λ x. P x.event) (map put xs)
  put_all xs new old = All-map (λ (x : Numbered). P x.event) put xs (All-weaker (λ x. P x.event) (λ x. P (put x).event) (λ x h. one (x.id == id) x h) xs old) where
    one : (b : Bool) (x : Numbered) → P x.event → P (if b then with_number id event else x).event
    one true x h = new
    one false x h = h

  put_new : (xs : List Numbered) → is_held xs id ≡ true → All (λ x. P x.event) (map put xs) → P event
  put_new xs held all =
      let it = list_any-contains (λ (x : Numbered). x.id == id) xs held in
      new (it.0.id == id) it.0 it.2 (All-contains (λ (x : Numbered). P x.event) (map put xs) (put it.0) all (in_map put xs it.0 it.1)) where
        new : (b : Bool) (x : Numbered) → b ≡ true → P (if b then with_number id event else x).event → P event
        new true x is h = h
        new false x is h = cc

-- S1: what an edit without a fault leaves of it
pub room_is_kept : RoomIsKept
room_is_kept s (Insert event) never none = (
  λ after.
      All-contains (λ x. LeavesRoom s.settings x.event) (s.events ++ with_number s.next event ∷ []) (with_number s.next event) after.leaves
      (Contains-append_right s.events (with_number s.next event ∷ []) (with_number s.next event) (contains_head (with_number s.next event) [])),
  λ leaves. record {
    carries = never.carries;
    leaves = All-push (λ x. LeavesRoom s.settings x.event) s.events (with_number s.next event) never.leaves leaves;
  },
)
room_is_kept s (Alter id event) never none = (
  λ after. put_new (LeavesRoom s.settings) id event s.events (alter_held s s id event refl none) after.leaves,
  λ leaves. record { carries = never.carries; leaves = put_all (LeavesRoom s.settings) id event s.events leaves never.leaves },
)
room_is_kept s (Strike id) never none = (
  λ after. tt,
  λ leaves. record {
    carries = never.carries;
    leaves = All-filter (λ x. not (x.id == id)) (λ x. LeavesRoom s.settings x.event) s.events never.leaves;
  },
)

-- what is known at a state of the machine
record IsRoomy (settings : System) (st : State) : Type 0 where
  room : HasRoom st.plan
  same : st.plan.settings ≡ settings

-- after an edit without a fault
room_edited : (settings : System) (st : State) (change : Change) → IsRoomy settings st → KeepsRoom settings change →
    edit_fault st.plan change ≡ None → IsRoomy settings (record st { plan = plan_after st.plan change })
room_edited settings st change roomy keeps none = record {
  room = record {
    scenario = changes_keep_scenarios st.plan change roomy.room.scenario none;
    carries = (room_is_kept st.plan change roomy.room.carries none).1 (subst (λ s. KeepsRoom s change) (sym roomy.same) keeps);
  };
  same = settings_changed st.plan change ∙ roomy.same;
}

room_after : (settings : System) (st : State) (command : Command) (reply : Reply) → reply ≡ reply_to st command →
    IsRoomy settings st → AsksWithinRoom settings command → IsRoomy settings (state_after st command reply)
room_after settings st command (Refused fault) legal roomy asks = roomy
room_after settings st Step (Edited id) legal roomy asks = record { room = roomy.room; same = roomy.same }
room_after settings st Step (Stepped slot row) legal roomy asks = record { room = roomy.room; same = roomy.same }
room_after settings st (Edit change strict) (Edited id) legal roomy asks = by (edit_fault st.plan change) refl legal where
  by : (o : Option EditFault) → edit_fault st.plan change ≡ o → Edited id ≡ edit_reply st change strict o →
      IsRoomy settings (record st { plan = plan_after st.plan change })
  by (Some fault) is legal = cc
  by None is legal = room_edited settings st change roomy asks is
room_after settings st (Edit change strict) (Stepped slot row) legal roomy asks = by (edit_fault st.plan change) refl legal where
  by : (o : Option EditFault) → edit_fault st.plan change ≡ o → Stepped slot row ≡ edit_reply st change strict o →
      IsRoomy settings (record st { plan = plan_after st.plan change })
  by (Some fault) is legal = cc
  by None is legal = room_edited settings st change roomy asks is

room_behind : (settings : System) (st : State) (entries : List Entry) → IsRoomy settings st → IsLegalFrom st entries →
    All (λ e. AsksWithinRoom settings e.command) entries → IsRoomy settings (state_behind st entries)
room_behind settings st [] roomy legal asks = roomy
room_behind settings st (e ∷ es) roomy legal asks =
    room_behind settings (state_after st e.command e.reply) es
    (room_after settings st e.command e.reply legal.0 roomy (All-head (λ e. AsksWithinRoom settings e.command) e es asks)) legal.1
    (All-tail (λ e. AsksWithinRoom settings e.command) e es asks)

pub room_goes_on : RoomGoesOn
room_goes_on st entries room within =
    let roomy : IsRoomy st.plan.settings (state_behind st entries) =
    room_behind st.plan.settings st entries (record { room = room; same = refl }) within.legal within.asked in
    roomy.room
