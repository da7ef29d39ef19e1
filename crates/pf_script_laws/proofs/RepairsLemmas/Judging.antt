-- A leave among the events of its slot: before it come limits and leaves of other tasks, which change nothing of its own.
use Rattle.std.proofs.Common.{◌≡◌, ℕ, not, ◌||◌, ◌==◌, Bool, true, false, cond, List, [], ◌∷◌, ◌++◌, length, Option, None, Some, refl, sym, ap, subst, ◌∙◌}
use Rattle.std.specs.List.{All, list_any}
use Rattle.std.specs.Option.{option_map}
use Rattle.std.specs.Ordering.{is_lt}
use Rattle.std.specs.Prelude.{find}
use Rattle.std.proofs.lemmas.Bool.{eq-eqb, eqb-true, ne_eqb, true≢false}
use Rattle.std.proofs.lemmas.List.Elements.{All-head, All-tail}
use Rattle.pf_lemmas.proofs.Finding.{find-filter}
use Rattle.pf_admit.specs.Admission.{leave_denial}
use Rattle.pf_admit.specs.declared.denial.Denial.{Denial}
use Rattle.pf_admit.specs.declared.member.Member.{Member}
use Rattle.pf_scenario.specs.Event.{is_leave_of, run_cmp}
use Rattle.pf_scenario.specs.Scenario.{is_held}
use Rattle.pf_scenario.specs.System.{System}
use Rattle.pf_scenario.specs.declared.event.Event.{Event}
use Rattle.pf_scenario.specs.declared.event.Event.TheVariants.{Join, Leave, Delay, Limit}
use Rattle.pf_scenario.specs.declared.event.Numbered.{Numbered}
use Rattle.pf_scenario.proofs.Lists.{find_none}
use Rattle.pf_scenario.proofs.Sorting.{IsInOrder}
use Rattle.pf_run.specs.Computed.{denials_among, with_event}
use Rattle.pf_run.specs.Denials.{denial_of, denied_for}
use Rattle.pf_run.specs.Inside.{Joined, inside, member_at, member_of}
use Rattle.pf_run.specs.Record.{Slot}
use Rattle.pf_run.specs.declared.denied.Denied.{Denied}
use Rattle.pf_run.proofs.Judged.{among_within}
use Rattle.pf_run.proofs.Numbers.{AreApart}
use Rattle.pf_run.proofs.Points.{inside_push_leave, inside_push_other, member_push_other}

-- why the event of this number is denied, if it is
abbrev pub denial_by : ℕ → List Denied → Option Denial
denial_by id denials = option_map (λ (d : Denied). d.denial) (find (λ d. d.id == id) denials)

module _ (st : System) (r : List Slot) (id t task : ℕ) where
  abbrev pub leave : Numbered
  leave = record { id = id; event = Leave t task }

  -- what is inside after events that change nothing of the task
  same_member : (xs ys : List Numbered) → ((j : Joined) → member_of r ys j ≡ member_of r xs j)
      → find (λ (j : Joined). j.task == task) (inside st.base ys) ≡ find (λ (j : Joined). j.task == task) (inside st.base xs)
      → member_at st.base r ys task ≡ member_at st.base r xs task
  same_member xs ys members found =
      ap (option_map (member_of r ys)) found
      ∙ ap (λ (h : Joined → Member). option_map h (find (λ (j : Joined). j.task == task) (inside st.base xs))) (λ k j. members j k)

  other_task : (task' : ℕ) → (task' == task) ≡ false → (j : Joined) → (j.task == task) ≡ true → not (j.task == task') ≡ true
  other_task task' other j is = ap not (ne_eqb j.task task' (λ (e : j.task ≡ task').
      true≢false (sym (eq-eqb task' task (sym e ∙ eqb-true j.task task is)) ∙ other)))

  -- an event before the leave, in force or not
  passed : (xs : List Numbered) (number : ℕ) (event : Event) (o : Option Denial) → is_lt (run_cmp leave (record { id = number; event = event })) ≡ false
      → is_leave_of task event ≡ false → member_at st.base r (with_event xs (record { id = number; event = event }) o) task ≡ member_at st.base r xs task
  unfolding run_cmp
  passed xs number event (Some denial) low other = refl
  passed xs number (Join slot task' cost period early) None low other = cc
  passed xs number (Delay slot task' by) None low other = cc
  passed xs number (Limit slot count) None low other =
      let y : Numbered = record { id = number; event = Limit slot count } in
      same_member xs (xs ++ y ∷ []) (member_push_other r xs y (λ q n i. refl))
      (ap (find (λ (j : Joined). j.task == task)) (inside_push_other st.base xs y refl (λ n. refl)))
  passed xs number (Leave slot task') None low other =
      let y : Numbered = record { id = number; event = Leave slot task' } in
      same_member xs (xs ++ y ∷ []) (member_push_other r xs y (λ q n i. refl))
      (ap (find (λ (j : Joined). j.task == task)) (inside_push_leave st.base xs number slot task')
      ∙ find-filter (λ (j : Joined). j.task == task) (λ (j : Joined). not (j.task == task')) true (other_task task' other) (inside st.base xs))

  -- the leave is among these events of its slot
  pub record AreOfSlot (ys : List Numbered) : Type 0 where
    pub ordered : IsInOrder run_cmp ys
    pub apart : AreApart ys
    pub own : All (λ (y : Numbered). (y.id == id) ≡ true → y ≡ leave) ys
    pub leaves : All (λ (y : Numbered). is_leave_of task y.event ≡ true → (y.id == id) ≡ true) ys

  rest_of : (y : Numbered) (ys : List Numbered) → AreOfSlot (y ∷ ys) → AreOfSlot ys
  rest_of y ys are = record {
    ordered = are.ordered.1;
    apart = are.apart.1;
    own = All-tail (λ (y : Numbered). (y.id == id) ≡ true → y ≡ leave) y ys are.own;
    leaves = All-tail (λ (y : Numbered). is_leave_of task y.event ≡ true → (y.id == id) ≡ true) y ys are.leaves;
  }

  at_by : (P : Numbered → Type 0) (y : Numbered) (ys : List Numbered) (b : Bool) → (y.id == id) ≡ b → P y → ((y.id == id) ≡ true → y ≡ leave)
      → (is_held ys id ≡ true → P leave) → (b || is_held ys id) ≡ true → P leave
  at_by P y ys true is here own rest held = subst P (own is) here
  at_by P y ys false is here own rest held = rest held

  at_leave : (P : Numbered → Type 0) (ys : List Numbered) → All P ys → All (λ (y : Numbered). (y.id == id) ≡ true → y ≡ leave) ys → is_held ys id ≡ true → P leave
  at_leave P [] all own held = cc
  at_leave P (y ∷ ys) all own held =
      at_by P y ys (y.id == id) refl (All-head P y ys all) (All-head (λ (y : Numbered). (y.id == id) ≡ true → y ≡ leave) y ys own)
      (λ h. at_leave P ys (All-tail P y ys all) (All-tail (λ (y : Numbered). (y.id == id) ≡ true → y ≡ leave) y ys own) h) held

  own_denial : (y : Numbered) (o : Option Denial) (rest : List Denied) → (y.id == id) ≡ true → list_any (λ (d : Denied). d.id == id) rest ≡ false
      → denial_by id (denied_for y (length r) o ++ rest) ≡ o
  own_denial y None rest own none = ap (option_map (λ (d : Denied). d.denial)) (find_none (λ (d : Denied). d.id == id) rest none)
  own_denial y (Some denial) rest own none =
      ap (λ b. option_map (λ (d : Denied). d.denial) (cond b (Some (record { slot = length r; id = y.id; denial = denial })) (find (λ (d : Denied). d.id == id) rest))) own

  other_denial : (y : Numbered) (o : Option Denial) (rest : List Denied) → (y.id == id) ≡ false → denial_by id (denied_for y (length r) o ++ rest) ≡ denial_by id rest
  other_denial y None rest other = refl
  other_denial y (Some denial) rest other =
      ap (λ b. option_map (λ (d : Denied). d.denial) (cond b (Some (record { slot = length r; id = y.id; denial = denial })) (find (λ (d : Denied). d.id == id) rest))) other

  not_of_task : (y : Numbered) → (is_leave_of task y.event ≡ true → (y.id == id) ≡ true) → (y.id == id) ≡ false → is_leave_of task y.event ≡ false
  not_of_task y own other = by (is_leave_of task y.event) refl
    where
      by : (b : Bool) → is_leave_of task y.event ≡ b → is_leave_of task y.event ≡ false
      by true is = let no : true ≡ false = sym (own is) ∙ other in cc
      by false is = is

  judged_by : (xs : List Numbered) (y : Numbered) (ys : List Numbered) (b : Bool) → (y.id == id) ≡ b → AreOfSlot (y ∷ ys) → (b || is_held ys id) ≡ true
      → ((zs : List Numbered) → is_held ys id ≡ true → denial_by id (denials_among st r zs ys) ≡ leave_denial t (member_at st.base r zs task))
      → denial_by id (denials_among st r xs (y ∷ ys)) ≡ leave_denial t (member_at st.base r xs task)
  judged_by xs y ys true is are held rest =
      let same : y ≡ leave = All-head (λ (y : Numbered). (y.id == id) ≡ true → y ≡ leave) y ys are.own is in
      let none : is_held ys id ≡ false = ap (is_held ys) (sym (eqb-true y.id id is)) ∙ are.apart.0 in
      own_denial y (denial_of st r xs y.event) (denials_among st r (with_event xs y (denial_of st r xs y.event)) ys) is
      (among_within st r (with_event xs y (denial_of st r xs y.event)) ys id none)
      ∙ ap (λ (z : Numbered). denial_of st r xs z.event) same
  judged_by xs y ys false is are held rest =
      let o = denial_of st r xs y.event in
      let low : is_lt (run_cmp leave y) ≡ false =
      at_leave (λ (z : Numbered). is_lt (run_cmp z y) ≡ false) ys are.ordered.0 (All-tail (λ (y : Numbered). (y.id == id) ≡ true → y ≡ leave) y ys are.own) held in
      other_denial y o (denials_among st r (with_event xs y o) ys) is
      ∙ rest (with_event xs y o) held
      ∙ ap (leave_denial t) (passed xs y.id y.event o low
      (not_of_task y (All-head (λ (y : Numbered). is_leave_of task y.event ≡ true → (y.id == id) ≡ true) y ys are.leaves) is))

  -- Use: it is denied as the rule says of the task after the events before the slot.
  pub judged : (xs ys : List Numbered) → AreOfSlot ys → is_held ys id ≡ true
      → denial_by id (denials_among st r xs ys) ≡ leave_denial t (member_at st.base r xs task)
  judged xs [] are held = cc
  judged xs (y ∷ ys) are held = judged_by xs y ys (y.id == id) refl are held (λ zs h. judged zs ys (rest_of y ys are) h)
