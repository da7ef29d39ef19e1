-- Shifts are settled: once a task's next subtask is released, or runs, no later delay holds it back. So the choice of a
-- slot looks at the shifts that stay at the end.
use Rattle.std.proofs.Common.{◌≡◌, ℕ, suc, ◌+◌, ◌<◌, ◌≤◌, ◌==◌, ◌⊎◌, ◌&&◌, Bool, true, false, nat_le, cond, Option, None, Some, List, [], ◌∷◌, ◌++◌, length, take, get_or, count_by, All, Contains, arith, refl, ap, sym, ◌∙◌, subst, inl, inr, ⊎_elim, length-append}
use Rattle.std.proofs.lemmas.Bool.{cases_lt, cases_Bool, eqb-true, leb-true}
use Rattle.std.proofs.lemmas.Bool.Decides.{nat_tests}
use Rattle.std.proofs.lemmas.List.{take_all, take-append-le, take-take, get_or_append_left}
use Rattle.std.proofs.lemmas.List.Elements.{All-head, All-weaker, filter_map-append}
use Rattle.std.proofs.lemmas.List.Sums.{sum_by-append, count_by_more_yes, count_by_more_no, sum_by-take-le}
use Rattle.pf_lemmas.proofs.Sums.{sum_by-agree}
use Rattle.pf_window.specs.Window.{release_of}
use Rattle.pf_scenario.specs.Event.{slot_of}
use Rattle.pf_scenario.specs.Scenario.{Plan}
use Rattle.pf_scenario.specs.Edit.{IsScenario}
use Rattle.pf_scenario.specs.declared.event.Event.{Event}
use Rattle.pf_scenario.specs.declared.event.Event.TheVariants.{Join, Leave, Delay, Limit}
use Rattle.pf_scenario.specs.declared.event.Numbered.{Numbered}
use Rattle.pf_admit.specs.declared.member.Member.{Member}
use Rattle.pf_admit.specs.Member.{next_release}
use Rattle.pf_admit.specs.Admission.{delay_denial}
use Rattle.pf_run.specs.Record.{Slot, runs, done, next_sub}
use Rattle.pf_run.specs.Inside.{Joined, join_of, hold_back_of, shift_of, member_of, member_at}
use Rattle.pf_run.specs.Denials.{denial_of}
use Rattle.pf_run.specs.Run.{events_in_force, IsNextSlot, IsRun}
use Rattle.pf_run.proofs.Points.{shift_push}
use Rattle.pf_run.proofs.Judged.{length_snoc}
use Rattle.pf_tally.proofs.Points.{IsBetween, along_points}
use Rattle.pf_tally.proofs.Fronts.{Splits, splits, standing_below, standing-more}
use Rattle.pf_tally.proofs.Members.{joined_of, one_joined, IsMemberAt, member_found}

abbrev pub no_slot : Slot
no_slot = record { picks = []; denials = [] }

-- how many quanta a task has had

pub done-runs : (r : List Slot) (task v : ℕ) (d : Slot) → v < length r → runs task (get_or r v d) ≡ true →
    done r task (suc v) ≡ done r task v + 1
unfolding done
done-runs r task v d lt running =
    ap (λ k. count_by (runs task) (take k r)) (one_more v) ∙ count_by_more_yes (runs task) r v d lt running where
      one_more : (k : ℕ) → suc k ≡ k + 1
      one_more k = omega arith

pub done-idle : (r : List Slot) (task v : ℕ) (d : Slot) → v < length r → runs task (get_or r v d) ≡ false →
    done r task (suc v) ≡ done r task v
unfolding done
done-idle r task v d lt idle =
    ap (λ k. count_by (runs task) (take k r)) (one_more v) ∙ count_by_more_no (runs task) r v d lt idle where
      one_more : (k : ℕ) → suc k ≡ k + 1
      one_more k = omega arith

pub done-most : (r : List Slot) (task v : ℕ) → done r task v ≤ count_by (runs task) r
unfolding done
done-most r task v = sum_by-take-le (λ d. cond (runs task d) 1 0) r v

pub done-past : (r : List Slot) (task v : ℕ) → length r ≤ v → done r task (suc v) ≡ done r task v
unfolding done
done-past r task v past =
    ap (count_by (runs task)) (take_all (suc v) r (omega (arith, past))) ∙ ap (count_by (runs task)) (sym (take_all v r past))

pub done-rises : (r : List Slot) (task u v : ℕ) → u ≤ v → done r task u ≤ done r task v
unfolding done
done-rises r task u v le =
    omega (arith, sum_by-take-le (λ d. cond (runs task d) 1 0) (take v r) u, ap (count_by (runs task)) (take-take u v r le))

-- sums over a list whose terms are equal

-- a delay counts by the slots before it alone
held-slots : (q r : List Slot) (task i : ℕ) (event : Event) →
    done q task (slot_of event) ≡ done r task (slot_of event) → hold_back_of q task i event ≡ hold_back_of r task i event
held-slots q r task i (Delay slot task' by) same = ap (λ n. cond ((task' == task) && nat_le (n + 1) i) by 0) same
held-slots q r task i (Join slot task' cost period early) same = refl
held-slots q r task i (Leave slot task') same = refl
held-slots q r task i (Limit slot count) same = refl

pub shift-slots : (q r : List Slot) (xs : List Numbered) (j : Joined) (i n : ℕ) → All (λ x. slot_of x.event ≤ n) xs →
    ((u : ℕ) → u ≤ n → done q j.task u ≡ done r j.task u) → shift_of q xs j i ≡ shift_of r xs j i
unfolding shift_of
shift-slots q r xs j i n past same =
    ap (λ m. j.slot + m)
    (sum_by-agree (λ x. hold_back_of q j.task i x.event) (λ x. hold_back_of r j.task i x.event) xs
    (All-weaker (λ x. slot_of x.event ≤ n) (λ x. hold_back_of q j.task i x.event ≡ hold_back_of r j.task i x.event)
    (λ x within. held-slots q r j.task i x.event (same (slot_of x.event) within)) xs past))

-- more events shift no less
pub shift-grows : (r : List Slot) (xs more : List Numbered) (j : Joined) (i : ℕ) →
    shift_of r xs j i ≤ shift_of r (xs ++ more) j i
unfolding shift_of
shift-grows r xs more j i = omega (arith, sum_by-append (λ x. hold_back_of r j.task i x.event) xs more)

-- an event that holds a subtask back is a delay of its task, whose turn was not over
pub record HoldsBack (q : List Slot) (task i : ℕ) (event : Event) : Type 0 where
  pub slot : ℕ
  pub by : ℕ
  pub is : event ≡ Delay slot task by
  pub early : done q task slot + 1 ≤ i

pub held_or_not : (q : List Slot) (task i : ℕ) (event : Event) →
    (hold_back_of q task i event ≡ 0) ⊎ HoldsBack q task i event
held_or_not q task i (Delay slot task' by) = ⊎_elim
    (λ (same : (task' == task) ≡ true). ⊎_elim
    (λ (counts : nat_le (done q task slot + 1) i ≡ true).
    inr (record {
      slot = slot;
      by = by;
      is = ap (λ t. Delay slot t by) (eqb-true task' task same);
      early = leb-true (done q task slot + 1) i counts;
    }))
    (λ (not : nat_le (done q task slot + 1) i ≡ false). inl (none (task' == task) (nat_le (done q task slot + 1) i) by not))
    (cases_Bool (nat_le (done q task slot + 1) i)))
    (λ (other : (task' == task) ≡ false). inl (ap (λ b. cond (b && nat_le (done q task slot + 1) i) by 0) other))
    (cases_Bool (task' == task)) where
      none : (b c : Bool) (by : ℕ) → c ≡ false → cond (b && c) by 0 ≡ 0
      none true true by e = cc
      none true false by e = refl
      none false c by e = refl
held_or_not q task i (Join slot task' cost period early) = inl refl
held_or_not q task i (Leave slot task') = inl refl
held_or_not q task i (Limit slot count) = inl refl

-- the task's next subtask in slot v, and its shift there
abbrev pub sub_at : List Slot → Joined → ℕ → ℕ
sub_at q j v = done q j.task v + 1

abbrev pub shift_at : Plan → List Slot → Joined → ℕ → ℕ
shift_at s q j v = shift_of q (events_in_force s q (suc v)) j (sub_at q j v)

-- it is released there, or runs
abbrev pub IsDue : Plan → List Slot → Joined → ℕ → Type 0
IsDue s q j v =
    (release_of j.weight (sub_at q j v) + shift_at s q j v ≤ v) ⊎ (runs j.task (get_or q v no_slot) ≡ true)

-- then its shift stays
abbrev pub AreSettled : Plan → List Slot → List Numbered → Type 0
AreSettled s q xs = (v : ℕ) → v < length q → (j : Joined) → Contains (joined_of s.settings.base (events_in_force s q (suc v))) j →
    IsDue s q j v → shift_of q xs j (sub_at q j v) ≡ shift_at s q j v

pub contains_grown : {A : Type 0} (xs more : List A) (x : A) → Contains xs x → Contains (xs ++ more) x
contains_grown xs more x at =
    (at.0, omega (arith, at.1, length-append xs more), get_or_append_left xs more x at.0 at.1 ∙ at.2)

pub joined_grown : (base : ℕ) (xs more : List Numbered) (j : Joined) → Contains (joined_of base xs) j →
    Contains (joined_of base (xs ++ more)) j
joined_grown base xs more j at =
    subst (λ js. Contains js j) (sym (filter_map-append (join_of base) xs more))
    (contains_grown (joined_of base xs) (joined_of base more) j at)

pub done-front : (q more : List Slot) (task t : ℕ) → t ≤ length q → done (q ++ more) task t ≡ done q task t
unfolding done
done-front q more task t le = ap (λ z. count_by (runs task) z) (take-append-le t q more le)

pub next_release_of : (q : List Slot) (xs : List Numbered) (j : Joined) →
    next_release (member_of q xs j) ≡ release_of j.weight (next_sub q j.task) + shift_of q xs j (next_sub q j.task)
unfolding member_of
next_release_of q xs j = refl

module _ (s : Plan) (scenario : IsScenario s) where
  -- those that joined by slot v have joined at each later point
  joined_later : (q : List Slot) (xs ys : List Numbered) (v : ℕ) (j : Joined) → IsBetween s q xs ys → v < length q →
      Contains (joined_of s.settings.base (events_in_force s q (suc v))) j → Contains (joined_of s.settings.base xs) j
  joined_later q xs ys v j between lt at =
      let before : Splits s q (suc v) (length q) = splits s q (suc v) (length q) lt in
      let at_slot : Contains (joined_of s.settings.base (events_in_force s q (length q))) j =
      subst (λ zs. Contains (joined_of s.settings.base zs) j) (sym before.is)
      (joined_grown s.settings.base (events_in_force s q (suc v)) before.rest j at) in
      subst (λ zs. Contains (joined_of s.settings.base zs) j) (sym between.grown)
      (joined_grown s.settings.base (events_in_force s q (length q)) between.more j at_slot)

  settled_event : (q : List Slot) (xs : List Numbered) (x : Numbered) (ys : List Numbered) → IsRun s (length q) q →
      IsBetween s q xs (x ∷ ys) → denial_of s.settings q xs x.event ≡ None → AreSettled s q xs →
      AreSettled s q (xs ++ x ∷ [])
  settled_event q xs x ys run between admitted settled v lt j at due = ⊎_elim
      (λ none. omega (arith, shift_push q xs x j (sub_at q j v), settled v lt j at due, none))
      held (held_or_not q j.task (sub_at q j v) x.event) where
        held : HoldsBack q j.task (sub_at q j v) x.event →
            shift_of q (xs ++ x ∷ []) j (sub_at q j v) ≡ shift_at s q j v
        held h = by (member_at s.settings.base q xs j.task) refl where
          now : h.slot ≡ length q
          now = sym (ap slot_of h.is) ∙ All-head (λ y. slot_of y.event ≡ length q) x ys between.now

          of_delay : delay_denial h.slot (member_at s.settings.base q xs j.task) ≡ None
          of_delay = subst (λ e. denial_of s.settings q xs e ≡ None) h.is admitted

          by : (o : Option Member) → member_at s.settings.base q xs j.task ≡ o →
              shift_of q (xs ++ x ∷ []) j (sub_at q j v) ≡ shift_at s q j v
          by None is = let denied = sym (ap (delay_denial h.slot) is) ∙ of_delay in cc
          by (Some m) is = absurd (⊎_elim released running due) where
            it : IsMemberAt s.settings.base q xs j.task m
            it = member_found s.settings.base q xs j.task m is

            same : it.task_of ≡ j
            same = one_joined s.settings.base xs it.task_of j (omega (arith, between.once j.task)) it.joined
                (joined_later q xs (x ∷ ys) v j between lt at) it.number

            later : h.slot ≤ next_release m
            later =
                let open_test : delay_denial h.slot (Some m) ≡ None = sym (ap (delay_denial h.slot) is) ∙ of_delay in
                grind (arith, nat_tests)

            of_j : member_of q xs j ≡ m
            of_j = ap (member_of q xs) (sym same) ∙ it.is

            next_is : next_release m ≡ release_of j.weight (next_sub q j.task) + shift_of q xs j (next_sub q j.task)
            next_is = ap next_release (sym of_j) ∙ next_release_of q xs j

            -- the subtask is still the next one
            still : done q j.task (length q) ≤ done q j.task v
            still = omega (arith, h.early, ap (λ u. done q j.task u) now)

            released : release_of j.weight (sub_at q j v) + shift_at s q j v ≤ v → ⊥
            released early =
                let sub : sub_at q j v ≡ next_sub q j.task =
                omega (arith, still, done-rises q j.task v (length q) (omega (arith, lt))) in
                let shift : shift_of q xs j (next_sub q j.task) ≡ shift_at s q j v =
                subst (λ i. shift_of q xs j i ≡ shift_at s q j v) sub (settled v lt j at due) in
                let release : release_of j.weight (sub_at q j v) ≡ release_of j.weight (next_sub q j.task) =
                ap (release_of j.weight) sub in
                omega (arith, later, next_is, now, early, shift, release, lt)

            running : runs j.task (get_or q v no_slot) ≡ true → ⊥
            running h =
                omega (arith, done-runs q j.task v no_slot lt h, still, done-rises q j.task (suc v) (length q) lt)

  settled_slot : (q : List Slot) (d : Slot) (xs : List Numbered) → IsRun s (length q) q → IsNextSlot s q d →
      xs ≡ events_in_force s (q ++ d ∷ []) (suc (length q)) → IsBetween s q xs [] → AreSettled s q xs →
      AreSettled s (q ++ d ∷ []) xs
  settled_slot q d xs run next stands between settled v lt j at due = ⊎_elim earlier now (cases_lt v (length q)) where
    r : List Slot
    r = q ++ d ∷ []

    same_done : (u : ℕ) → u ≤ length q → done r j.task u ≡ done q j.task u
    same_done u le = done-front q (d ∷ []) j.task u le

    now : length q ≤ v → shift_of r xs j (sub_at r j v) ≡ shift_at s r j v
    now from =
        let last : v ≡ length q = omega (arith, from, lt, length_snoc q d) in
        ap (λ zs. shift_of r zs j (sub_at r j v)) (stands ∙ ap (λ u. events_in_force s r (suc u)) (sym last))

    earlier : v < length q → shift_of r xs j (sub_at r j v) ≡ shift_at s r j v
    earlier below =
        let same : events_in_force s r (suc v) ≡ events_in_force s q (suc v) = standing-more s q d (suc v) scenario run next below in
        let sub : sub_at r j v ≡ sub_at q j v = ap (λ n. n + 1) (same_done v (omega (arith, below))) in
        let early : All (λ x. slot_of x.event ≤ length q) (events_in_force s q (suc v)) =
        λ k e within. omega (arith, standing_below s q (suc v) k e within, below) in
        let shift : shift_at s r j v ≡ shift_at s q j v =
        ap (λ zs. shift_of r zs j (sub_at r j v)) same
        ∙ ap (λ i. shift_of r (events_in_force s q (suc v)) j i) sub
        ∙ shift-slots r q (events_in_force s q (suc v)) j (sub_at q j v) (length q) early same_done in
        let due' : IsDue s q j v = ⊎_elim
        (λ released. inl (omega (arith, released, ap (release_of j.weight) sub, shift)))
        (λ running. inr (ap (runs j.task) (sym (get_or_append_left q (d ∷ []) no_slot v below)) ∙ running))
        due in
        let at' : Contains (joined_of s.settings.base (events_in_force s q (suc v))) j =
        subst (λ zs. Contains (joined_of s.settings.base zs) j) same at in
        ap (λ i. shift_of r xs j i) sub
        ∙ shift-slots r q xs j (sub_at q j v) (length q) between.point.past same_done
        ∙ settled v below j at' due'
        ∙ sym shift

  -- Use: the shift that a subtask has where it is released, or runs, is the one that stays.
  pub settled : (n : ℕ) (r : List Slot) → IsRun s n r → AreSettled s r (events_in_force s r (length r))
  settled n r run =
      along_points s scenario (AreSettled s) (λ v lt. absurd (omega (arith, lt))) settled_event settled_slot n r run
