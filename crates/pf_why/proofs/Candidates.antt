-- The subtasks that may run in a slot, by the events and the quanta that a ledger has.
use Rattle.std.proofs.Common.{◌≡◌, ◌∙◌, ℕ, suc, ◌+◌, ◌<◌, ◌≤◌, Bool, true, false, not, ◌||◌, cond, take, filter, filter_map, find, map, get_or, sum_by, Option, None, Some, List, [], ◌∷◌, ◌++◌, length, All, Contains, refl, sym, ap, ap₂, subst, arith}
use Rattle.std.specs.List.{cons_option, list_any}
use Rattle.std.specs.Option.{is_some, option_and_then}
use Rattle.std.proofs.lemmas.Bool.{le-leb, lt-leb}
use Rattle.std.proofs.lemmas.List.{append-nil, take_more}
use Rattle.std.proofs.lemmas.List.Elements.{All-head, All-nil, All-tail, filter-append, filter_map-append}
use Rattle.pf_lemmas.proofs.Filters.{to_filter_map, filters_swap, filter_all}
use Rattle.pf_scenario.specs.Event.{slot_of, is_leave_of}
use Rattle.pf_scenario.specs.Scenario.{Plan}
use Rattle.pf_scenario.specs.declared.event.Numbered.{Numbered}
use Rattle.pf_scenario.specs.declared.settings.TheConstants.{WIDE_HORIZON}
use Rattle.pf_run.specs.Record.{Slot, denials_of}
use Rattle.pf_run.specs.Inside.{Joined, has_left, inside, join_of, shift_of}
use Rattle.pf_run.specs.Run.{events_in_force}
use Rattle.pf_run.specs.Computed.{run_of}
use Rattle.pf_collections.specs.Table.Lists.{noted_of}
use Rattle.pf_tally.specs.Clock.{next_at}
use Rattle.pf_tally.specs.Held.{CanTally, next_in, held_from}
use Rattle.pf_tally.specs.Late.{hold_of}
use Rattle.pf_tally.specs.Ledger.{IsLedger}
use Rattle.pf_tally.specs.Log.{IsLog}
use Rattle.pf_tally.specs.Own.{is_own, events_of_task}
use Rattle.pf_tally.specs.Quanta.{slots_of}
use Rattle.pf_tally.specs.declared.ledger.Ledger.{Ledger}
use Rattle.pf_tally.proofs.Chains.{all_counted}
use Rattle.pf_tally.proofs.Holding.{next_is}
use Rattle.pf_tally.proofs.InForce.{standing_is_log}
use Rattle.pf_tally.proofs.Joined.{can_tally}
use Rattle.pf_tally.proofs.Own.{can_own, find_own, shift_own}
use Rattle.pf_tally.proofs.Fronts.{Splits, splits, standing_below}
use Rattle.pf_why.specs.declared.subtask.Subtask.{Subtask}
use Rattle.pf_why.specs.Ranking.{candidate_by, candidates_in, is_until, may_run, next_by, next_of, standing_in, subtask_of}
use Rattle.pf_why.specs.Upcoming.{halt_from, upcoming_by, upcoming_of}
use Rattle.pf_why.proofs.Halts.{halts_are}

filter_none : {X : Type 0} (p : X → Bool) (xs : List X) → All (λ x. p x ≡ false) xs → filter p xs ≡ []
filter_none p [] none = refl
filter_none p (x ∷ xs) none =
    ap (λ b. cond b (x ∷ filter p xs) (filter p xs)) (All-head (λ x. p x ≡ false) x xs none)
    ∙ filter_none p xs (All-tail (λ x. p x ≡ false) x xs none)

pub found_any : {X : Type 0} (p : X → Bool) (xs : List X) → is_some (find p xs) ≡ list_any p xs
found_any p [] = refl
found_any p (x ∷ xs) = by (found_any p xs) (p x) refl where
  by : is_some (find p xs) ≡ list_any p xs → (b : Bool) → p x ≡ b → is_some (find p (x ∷ xs)) ≡ list_any p (x ∷ xs)
  by rest true e = ap (λ z. is_some (cond z (Some x) (find p xs))) e ∙ sym (ap (λ z. z || list_any p xs) e)
  by rest false e =
      ap (λ z. is_some (cond z (Some x) (find p xs))) e ∙ rest ∙ sym (ap (λ z. z || list_any p xs) e)

-- one element more
pub found_more : {X Y : Type 0} (h : X → Option Y) (xs : List X) (k : ℕ) (x : X) (o : Option Y) → k < length xs → get_or xs k x ≡ x → h x ≡ o →
    filter_map h (take (k + 1) xs) ≡ filter_map h (take k xs) ++ cons_option o []
found_more h xs k x o within is gives =
    ap (filter_map h) (take_more xs k x within ∙ ap (λ y. take k xs ++ y ∷ []) is)
    ∙ filter_map-append h (take k xs) (x ∷ [])
    ∙ ap (λ z. filter_map h (take k xs) ++ cons_option z []) gives

-- the events in force at a slot's choice are those of the end whose slots come no later
pub standing_is : (s : Plan) (r : List Slot) (t n : ℕ) → t < n → filter (is_until t) (events_in_force s r n) ≡ standing_in s r t
standing_is s r t n within =
    let rest : Splits s r (suc t) n = splits s r (suc t) n within in
    let now = standing_in s r t in
    ap (filter (is_until t)) rest.is
    ∙ filter-append (is_until t) now rest.rest
    ∙ ap₂ (λ xs ys. xs ++ ys)
    (filter_all (is_until t) now (λ k d lt. let below = standing_below s r (suc t) k d lt in le-leb (slot_of (get_or now k d).event) t (omega (arith, below))))
    (filter_none (is_until t) rest.rest (λ k d lt. let late = rest.later k d lt in lt-leb (slot_of (get_or rest.rest k d).event) t (omega (arith, late))))
    ∙ append-nil now

-- what is collected from the joins
abbrev pub candidate_of : List Slot → List Numbered → ℕ → Joined → Option Subtask
candidate_of r xs t j =
    cond (has_left xs j.task) None (cond (may_run t (next_of r xs t j)) (Some (next_of r xs t j)) None)

collected : (base : ℕ) (left : ℕ → Bool) (p : Subtask → Bool) (f : Joined → Subtask) (xs : List Numbered) →
    filter_map (λ x. option_and_then (λ j. cond (left j.task) None (cond (p (f j)) (Some (f j)) None)) (join_of base x)) xs
    ≡ filter p (map f (filter (λ j. not (left j.task)) (filter_map (join_of base) xs)))
collected base left p f [] = refl
collected base left p f (x ∷ xs) = by (collected base left p f xs) (join_of base x) where
  h : Numbered → Option Subtask
  h y = option_and_then (λ j. cond (left j.task) None (cond (p (f j)) (Some (f j)) None)) (join_of base y)

  stays : Joined → Bool
  stays j = not (left j.task)

  all : List Joined
  all = filter_map (join_of base) xs

  inner : filter_map h xs ≡ filter p (map f (filter stays all)) → (j : Joined) (a b : Bool) → left j.task ≡ a → p (f j) ≡ b →
      cons_option (cond a None (cond b (Some (f j)) None)) (filter_map h xs)
      ≡ filter p (map f (cond (not a) (j ∷ filter stays all) (filter stays all)))
  inner rest j true b e g = rest
  inner rest j false true e g =
      ap (λ ys. f j ∷ ys) rest ∙ sym (ap (λ z. cond z (f j ∷ filter p (map f (filter stays all))) (filter p (map f (filter stays all)))) g)
  inner rest j false false e g =
      rest ∙ sym (ap (λ z. cond z (f j ∷ filter p (map f (filter stays all))) (filter p (map f (filter stays all)))) g)

  by : filter_map h xs ≡ filter p (map f (filter stays all)) → (o : Option Joined) →
      cons_option (option_and_then (λ j. cond (left j.task) None (cond (p (f j)) (Some (f j)) None)) o) (filter_map h xs)
      ≡ filter p (map f (filter stays (cons_option o all)))
  by rest None = rest
  by rest (Some j) = inner rest j (left j.task) (p (f j)) refl refl

pub candidates_are : (s : Plan) (r : List Slot) (t : ℕ) (xs : List Numbered) (base : ℕ) → xs ≡ standing_in s r t → base ≡ s.settings.base →
    filter_map (λ x. option_and_then (candidate_of r xs t) (join_of base x)) xs ≡ candidates_in s r t
unfolding inside
candidates_are s r t xs base is same =
    collected base (has_left xs) (may_run t) (next_of r xs t) xs
    ∙ ap₂ (λ ys b. filter (may_run t) (map (next_of r ys t) (inside b ys))) is same

-- what the ledger of a run says of a task that has joined by slot t
module _ (s : Plan) (n : ℕ) (ledger : Ledger) (known : IsLedger s n ledger) (t : ℕ) (within : t < n) (xs : List Numbered)
    (of_xs : xs ≡ filter (is_until t) ledger.events.items) where
  abbrev r : List Slot
  r = run_of s n

  pub xs_is : xs ≡ standing_in s r t
  xs_is = of_xs ∙ ap (filter (is_until t)) known.events ∙ standing_is s r t n within

  pub log_now : IsLog s.settings n xs
  log_now =
      let log = standing_is_log s (suc t) (denials_of r) known.scenario (let most = known.log.within in omega (arith, most, within)) in
      let P : List Numbered → Type 0 = IsLog s.settings n in
      let now : IsLog s.settings n (standing_in s r t) = record {
        settings = known.log.settings;
        within = known.log.within;
        rise = log.rise;
        limits = log.limits;
        below = λ k d lt. let below = log.below k d lt in omega (arith, below, within);
        few = log.few;
        joins_once = log.joins_once;
      } in
      subst P (sym xs_is) now

  module _ (j : Joined) (x : Numbered) (at : Contains xs x) (gives : join_of ledger.settings.base x ≡ Some j)
      (ran : List ℕ) (own diary : List Numbered) (of_ran : ran ≡ noted_of ledger.quanta j.task)
      (of_diary : diary ≡ noted_of ledger.diaries j.task) (of_own : own ≡ filter (is_until t) diary) where
    ran_is : ran ≡ slots_of r j.task
    ran_is = of_ran ∙ known.quanta j.task

    own_is : own ≡ events_of_task j.task xs
    own_is =
        of_own ∙ ap (filter (is_until t)) (of_diary ∙ known.diaries.each j.task)
        ∙ filters_swap (is_until t) (λ x. is_own j.task x.event) ledger.events.items
        ∙ ap (events_of_task j.task) (sym of_xs)

    wide : (ys : List Numbered) → CanTally j (slots_of r j.task) ys n → CanTally j ran ys WIDE_HORIZON
    wide ys can =
        let P : List ℕ → Type 0 = λ q. CanTally j q ys WIDE_HORIZON in
        let all : CanTally j (slots_of r j.task) ys WIDE_HORIZON = record {
          number = can.number;
          share = can.share;
          joined = let most = can.within in let slot = can.joined in omega (arith, most, slot);
          ran_rise = can.ran_rise;
          ran_within = let most = can.within in let few = can.ran_within in omega (arith, most, few);
          within = omega arith;
          rise = can.rise;
          delays = can.delays;
        } in
        subst P (sym ran_is) all

    can_now : CanTally j (slots_of r j.task) xs n
    can_now =
        let here : Contains (filter_map (join_of s.settings.base) xs) j =
        to_filter_map (join_of s.settings.base) xs x j at (ap (λ z. join_of z.base x) (sym known.settings) ∙ gives) in
        can_tally s.settings n xs j r (slots_of r j.task) log_now here known.slots refl

    pub can_all_now : CanTally j ran xs WIDE_HORIZON
    can_all_now = wide xs can_now

    pub can_own_now : CanTally j ran own WIDE_HORIZON
    can_own_now =
        let P : List Numbered → Type 0 = λ ys. CanTally j ran ys WIDE_HORIZON in
        subst P (sym own_is) (wide (events_of_task j.task xs) (can_own j (slots_of r j.task) xs n can_now))

    pub next_is_next : next_by j ran own t ≡ next_of r xs t j
    unfolding shift_of
    next_is_next =
        let next : next_in ran ≡ next_at r j = next_is r j ran (sym ran_is) in
        ap₂ (λ (f : ℕ → ℕ) ys. subtask_of j (f t) (j.slot + sum_by (hold_of (f t)) (held_from f j j.slot ys))) next own_is
        ∙ ap (λ m. subtask_of j (next_at r j t) (j.slot + m)) (sym (all_counted r j j.slot (next_at r j t) (events_of_task j.task xs)))
        ∙ ap (λ (shift : ℕ → ℕ). subtask_of j (next_at r j t) (shift (next_at r j t))) (shift_own r xs j)

    -- what it has before it
    pub upcoming_is : upcoming_by j ran own xs t ≡ upcoming_of r xs t j
    upcoming_is =
        let next : next_in ran ≡ next_at r j = next_is r j ran (sym ran_is) in
        ap₂ (λ n h. record { next = n; halt = h }) next_is_next
        (ap (λ f. halt_from f j t j.slot xs) next
        ∙ sym (halts_are r j t [] xs 0 j.slot log_now.rise (All-nil (λ y. slot_of y.event ≤ 0)) (omega arith)))

    left_is : has_left own j.task ≡ has_left xs j.task
    left_is =
        ap (λ ys. has_left ys j.task) own_is
        ∙ sym (found_any (λ x. is_leave_of j.task x.event) (events_of_task j.task xs))
        ∙ ap is_some (find_own xs j.task)
        ∙ found_any (λ x. is_leave_of j.task x.event) xs

    pub candidate_is : candidate_by j ran own t ≡ option_and_then (candidate_of r xs t) (join_of ledger.settings.base x)
    candidate_is =
        ap₂ (λ b next. cond b None (cond (may_run t next) (Some next) None)) left_is next_is_next
        ∙ sym (ap (option_and_then (candidate_of r xs t)) gives)
