-- What runs in a slot: the tasks of the chosen keys, each of a task inside.
use Rattle.std.proofs.Common.{◌≡◌, ℕ, ◌≤◌, ◌==◌, Bool, true, false, not, nat_le, cond, None, Some, List, [], ◌∷◌, length, map, filter, find, Contains, refl, ap, sym, ◌∙◌, subst, ⊎_elim}
use Rattle.std.specs.List.{list_any}
use Rattle.std.proofs.lemmas.Bool.{not-true, eqb-true, eq-eqb, leb-true, le-leb, cond-true, both_ways}
use Rattle.std.proofs.lemmas.Option.{cond_some}
use Rattle.pf_lemmas.proofs.Filters.{to_filter_map}
use Rattle.pf_order.specs.Priority.{Priority}
use Rattle.pf_order.specs.First.{AreFirst}
use Rattle.pf_order.specs.declared.pick.Pick.{Pick}
use Rattle.pf_scenario.specs.Event.{is_leave_of}
use Rattle.pf_scenario.specs.declared.event.Numbered.{Numbered}
use Rattle.pf_run.specs.Record.{Slot, runs}
use Rattle.pf_run.specs.Inside.{Joined, inside, has_left, ready, ready_key, next_key, member_of, eligible_from}
use Rattle.pf_run.specs.Run.{pick_of_key}
use Rattle.pf_run.proofs.Containing.{contains_none, contains_head, contains_tail, contains_cases, from_filter}
use Rattle.pf_tally.proofs.Subs.{from_filter_map}
use Rattle.pf_tally.proofs.Contents.{list_any-contains, contains-list_any, list_any-map}
use Rattle.pf_tally.proofs.Members.{joined_of}

-- the key of a task's next subtask
abbrev pub key_now : List Slot → List Numbered → Joined → Priority
key_now q xs j = next_key j.task (member_of q xs j)

-- a key that is ready is of a task inside
pub record IsReady (base : ℕ) (q : List Slot) (xs : List Numbered) (k : Priority) : Type 0 where
  pub task_of : Joined
  pub inside : Contains (inside base xs) task_of
  pub eligible : eligible_from (member_of q xs task_of) ≤ length q
  pub is : key_now q xs task_of ≡ k

pub ready_is : (base : ℕ) (q : List Slot) (xs : List Numbered) (k : Priority) → Contains (ready base q xs) k →
    IsReady base q xs k
unfolding ready
ready_is base q xs k at =
    let g = from_filter_map (λ j. ready_key (length q) j.task (member_of q xs j)) (inside base xs) k at in
    let m = member_of q xs g.giver in
    let both = cond_some (nat_le (eligible_from m) (length q)) (next_key g.giver.task m) k g.gives in
    record { task_of = g.giver; inside = g.stands; eligible = leb-true (eligible_from m) (length q) both.0; is = both.1 }

pub is_ready : (base : ℕ) (q : List Slot) (xs : List Numbered) (j : Joined) → Contains (inside base xs) j →
    eligible_from (member_of q xs j) ≤ length q → Contains (ready base q xs) (key_now q xs j)
unfolding ready
is_ready base q xs j at eligible =
    let m = member_of q xs j in
    to_filter_map (λ i. ready_key (length q) i.task (member_of q xs i)) (inside base xs) j (key_now q xs j) at
    (cond-true (nat_le (eligible_from m) (length q)) (Some (key_now q xs j)) None (le-leb (eligible_from m) (length q) eligible))

-- no task inside has left
pub inside_stays : (base : ℕ) (xs : List Numbered) (j : Joined) (x : Numbered) → Contains (inside base xs) j →
    Contains xs x → is_leave_of j.task x.event ≡ true → ⊥
unfolding inside
inside_stays base xs j x at among leaves =
    let stays = not-true (has_left xs j.task) (from_filter (λ k. not (has_left xs k.task)) (joined_of base xs) j at).1 in
    both_ways (has_left xs j.task) stays (contains-list_any (λ y. is_leave_of j.task y.event) xs x among leaves)

module _ (base n : ℕ) (q : List Slot) (xs : List Numbered) (d : Slot) (chosen : List Priority)
    (are : AreFirst n (ready base q xs) chosen) (picks : d.picks ≡ map pick_of_key chosen) where
  runs_is : (task : ℕ) → runs task d ≡ list_any (λ (k : Priority). k.task == task) chosen
  runs_is task = ap (list_any (λ (p : Pick). p.task == task)) picks ∙ list_any-map (λ (p : Pick). p.task == task) pick_of_key chosen

  -- the key of a task that runs, and a task that has a chosen key

  pub record RunsBy (task : ℕ) : Type 0 where
    pub key : Priority
    pub chosen_is : Contains chosen key
    pub number : key.task ≡ task
    pub ready : IsReady base q xs key

  pub runs_by : (task : ℕ) → runs task d ≡ true → RunsBy task
  runs_by task running =
      let it = list_any-contains (λ (k : Priority). k.task == task) chosen (sym (runs_is task) ∙ running) in
      record {
        key = it.0;
        chosen_is = it.1;
        number = eqb-true it.0.task task it.2;
        ready = ready_is base q xs it.0 ((are.exactly it.0).0 it.1).0;
      }

  pub chosen_runs : (k : Priority) → Contains chosen k → runs k.task d ≡ true
  chosen_runs k at =
      runs_is k.task ∙ contains-list_any (λ (i : Priority). i.task == k.task) chosen k at (eq-eqb k.task k.task refl)

pub to_filter : {X : Type 0} (p : X → Bool) (xs : List X) (x : X) → Contains xs x → p x ≡ true → Contains (filter p xs) x
to_filter p [] x at passes = at
to_filter {X = X} p (y ∷ ys) x at passes = by (p y) refl (λ later. to_filter p ys x later passes) where
  by : (b : Bool) → p y ≡ b → (Contains ys x → Contains (filter p ys) x) → Contains (cond b (y ∷ filter p ys) (filter p ys)) x
  by true is rest = ⊎_elim
      (λ same. subst (λ z. Contains (z ∷ filter p ys) x) (sym same) (contains_head x (filter p ys)))
      (λ later. contains_tail y (filter p ys) x (rest later)) (contains_cases y ys x at)
  by false is rest = ⊎_elim
      (λ same. absurd (both_ways (p y) is (subst (λ z. p z ≡ true) (sym same) passes))) rest (contains_cases y ys x at)

pub none_found : {X : Type 0} (p : X → Bool) (xs : List X) (x : X) → find p xs ≡ None → Contains xs x → p x ≡ true → ⊥
none_found p [] x none at passes = contains_none x at
none_found p (y ∷ ys) x none at passes = by (p y) refl none (λ still later. none_found p ys x still later passes) where
  by : (b : Bool) → p y ≡ b → cond b (Some y) (find p ys) ≡ None → (find p ys ≡ None → Contains ys x → ⊥) → ⊥
  by true is none rest = cc
  by false is none rest = ⊎_elim
      (λ same. both_ways (p y) is (subst (λ z. p z ≡ true) (sym same) passes)) (rest none) (contains_cases y ys x at)
