-- The laws of runs.
use Rattle.std.proofs.Common.{◌≡◌, ℕ, zero, suc, ◌<◌, ◌≤◌, Bool, true, false, nat_lt, cond, List, [], ◌∷◌, ◌++◌, length, take, map, filter, get_or, AllPairs, ⊎_elim, refl, sym, ap, ap₂, ◌∙◌, subst, subst₂, arith}
use Rattle.std.proofs.lemmas.Bool.{true≢false, false_from_ne_true, cond-false, cases_lt, eqb-true, lt-ltb}
use Rattle.std.proofs.lemmas.List.{take_at, get_or_at, take-append-le, get_or_append_left, length-take-le, nil_from_length}
use Rattle.pf_place.specs.Priority.{Priority}
use Rattle.pf_place.specs.First.{AreFirst, first_keys}
use Rattle.pf_place.specs.Pick.{Pick}
use Rattle.pf_scenario.specs.System.{System}
use Rattle.pf_scenario.specs.Event.{slot_of, is_of_slot, in_run_order}
use Rattle.pf_scenario.specs.Scenario.{Plan, events_of, past}
use Rattle.pf_scenario.specs.Edit.{IsScenario, join_alike}
use Rattle.pf_scenario.specs.declared.event.Event.{Event}
use Rattle.pf_scenario.specs.declared.event.Event.TheVariants.{Join, Leave, Delay, Limit}
use Rattle.pf_scenario.specs.Share.{share_of}
use Rattle.pf_admit.specs.Admission.{join_denial, leave_denial, delay_denial}
use Rattle.pf_run.specs.declared.denied.Denied.{Denied}
use Rattle.pf_scenario.specs.declared.event.Numbered.{Numbered}
use Rattle.pf_run.specs.Record.{Slot, denials_of, in_force}
use Rattle.pf_run.specs.Inside.{ready, count_of, load_of, member_at}
use Rattle.pf_run.specs.Denials.{denial_of, denied_for, denials_behind}
use Rattle.pf_run.specs.Run.{events_in_force, pick_of_key, ArePicks, IsNextSlot, IsRun}
use Rattle.pf_run.specs.Computed.{RunCourse, course_of, next_course, run_of, picks_of, after_events, denials_among}
pub use Rattle.pf_run.specs.Laws.{AreAlike}
use Rattle.pf_run.specs.Laws.{FirstAreComputed, OneRun, RunsBegin, RunsRestOnPast, RunIsComputed, events_below}
use Rattle.pf_run.proofs.Firsts.{first_is_one, first_is_first}
use Rattle.pf_run.proofs.Joins.{ready_differ, joins_once_in_force}
use Rattle.pf_run.proofs.Judged.{next_from_equation, next_from_one_by_one, next_slot, length_snoc, run_begins, run_ends, run_none}

-- One run.
one_picks : (s : Plan) (r : List Slot) (xs ys : List Numbered) (a b : List Pick) → xs ≡ ys →
    ArePicks s r xs a → ArePicks s r ys b → a ≡ b
one_picks s r xs ys a b same of_a of_b =
    of_a.subtasks
    ∙ ap (map pick_of_key) (first_is_one (count_of s.settings.processors ys) (ready s.settings.base r ys) of_a.chosen of_b.chosen
    (subst (λ at. AreFirst (count_of s.settings.processors at) (ready s.settings.base r at) of_a.chosen) same of_a.are_first)
    of_b.are_first)
    ∙ sym of_b.subtasks

one_next : (s : Plan) (r : List Slot) (a b : Slot) → IsScenario s → IsRun s (length r) r → IsNextSlot s r a → IsNextSlot s r b → a ≡ b
one_next s r a b scenario run of_a of_b =
    let in_a = next_from_equation s r a scenario run of_a.denials in
    let in_b = next_from_equation s r b scenario run of_b.denials in
    let picks = one_picks s r _ _ a.picks b.picks (in_a.stands ∙ sym in_b.stands) of_a.picks of_b.picks in
    let denials = in_a.one_by_one ∙ sym in_b.one_by_one in
    λ i. record { picks = picks i; denials = denials i }

pub one_run : OneRun
one_run s zero r q scenario of_r of_q = nil_from_length r of_r.slots ∙ sym (nil_from_length q of_q.slots)
one_run s (suc n) r q scenario of_r of_q =
    let end_r = run_ends s n r of_r in
    let end_q = run_ends s n q of_q in
    let before : end_r.slots ≡ end_q.slots = one_run s n end_r.slots end_q.slots scenario end_r.is_run end_q.is_run in
    let last : end_r.slot ≡ end_q.slot =
    one_next s end_q.slots end_r.slot end_q.slot scenario (subst (λ m. IsRun s m end_q.slots) (sym end_q.is_run.slots) end_q.is_run)
    (subst (λ slots. IsNextSlot s slots end_r.slot) before end_r.next) end_q.next in
    end_r.together ∙ ap₂ (λ slots slot. slots ++ slot ∷ []) before last ∙ sym end_q.together

pub runs_begin : RunsBegin
runs_begin s n t r run within = run_begins s n t r run within

-- Runs rest on the past.
pub narrowed : (b : Bool) (p : Numbered → Bool) (x : Numbered) (xs ys : List Numbered) → (p x ≡ true → b ≡ true) →
    filter p xs ≡ filter p ys → filter p (cond b (x ∷ xs) xs) ≡ filter p (x ∷ ys)
narrowed true p x xs ys wider rest = ap (λ zs. cond (p x) (x ∷ zs) zs) rest
narrowed false p x xs ys wider rest =
    rest ∙ sym (cond-false (p x) _ _ (false_from_ne_true (p x) (λ is. true≢false (sym (wider is)))))

of_slot_below : (n t : ℕ) → t < n → (xs : List Numbered) → filter (is_of_slot t) (events_below n xs) ≡ filter (is_of_slot t) xs
of_slot_below n t below [] = refl
of_slot_below n t below (x ∷ xs) =
    narrowed (nat_lt (slot_of x.event) n) (is_of_slot t) x (events_below n xs) xs
    (λ is. lt-ltb (slot_of x.event) n (let e : slot_of x.event ≡ t = eqb-true (slot_of x.event) t is in omega arith))
    (of_slot_below n t below xs)

-- Use: with the same events below n, the same events of each slot below n, and the same past.
pub same_events : (s q : Plan) (n t : ℕ) → events_below n s.events ≡ events_below n q.events → t < n → events_of s t ≡ events_of q t
unfolding events_of
same_events s q n t same below =
    ap in_run_order (sym (of_slot_below n t below s.events) ∙ ap (filter (is_of_slot t)) same ∙ of_slot_below n t below q.events)

pub same_past : (s q : Plan) (n t : ℕ) → events_below n s.events ≡ events_below n q.events → t ≤ n → past s t ≡ past q t
same_past s q n zero same within = refl
same_past s q n (suc t) same within =
    ap₂ (λ xs ys. xs ++ ys) (same_past s q n t same (omega arith)) (same_events s q n t same within)

denial_alike : (s q : System) → AreAlike s q → (r : List Slot) (xs : List Numbered) (x : Event) → denial_of s r xs x ≡ denial_of q r xs x
denial_alike s q alike r xs (Join slot task cost period early) =
    ap₂ (λ base cap. join_denial (load_of base xs) (share_of base cost period).units cap) alike.base alike.cap
denial_alike s q alike r xs (Leave slot task) = ap (λ base. leave_denial slot (member_at base r xs task)) alike.base
denial_alike s q alike r xs (Delay slot task by) = ap (λ base. delay_denial slot (member_at base r xs task)) alike.base
denial_alike s q alike r xs (Limit slot count) = refl

failing_alike : (s q : System) → AreAlike s q → (r : List Slot) (denials : List Denied) (before xs : List Numbered) →
    denials_behind s r denials before xs ≡ denials_behind q r denials before xs
failing_alike s q alike r denials before [] = refl
failing_alike s q alike r denials before (x ∷ xs) =
    ap₂ (λ o rest. denied_for x (length r) o ++ rest) (denial_alike s q alike r (in_force denials before) x.event)
    (failing_alike s q alike r denials (before ++ x ∷ []) xs)

same_next : (s q : Plan) (r : List Slot) (slot : Slot) → AreAlike s.settings q.settings →
    past s (length r) ≡ past q (length r) → events_of s (length r) ≡ events_of q (length r) → IsNextSlot s r slot → IsNextSlot q r slot
same_next s q r slot alike before events next =
    let denials = denials_of (r ++ slot ∷ []) in
    let xs = events_in_force s (r ++ slot ∷ []) (suc (length r)) in
    let stands : xs ≡ events_in_force q (r ++ slot ∷ []) (suc (length r)) = ap₂ (λ early late. in_force denials (early ++ late)) before events in
    record {
      denials = next.denials ∙ failing_alike s.settings q.settings alike r denials (past s (length r)) (events_of s (length r))
          ∙ ap₂ (denials_behind q.settings r denials) before events;
      picks = record {
        chosen = next.picks.chosen;
        are_first = subst₂ (λ n keys. AreFirst n keys next.picks.chosen) (ap₂ count_of alike.processors stands)
            (ap₂ (λ base at. ready base r at) alike.base stands) next.picks.are_first;
        subtasks = next.picks.subtasks;
      };
    }

-- Use: with the same events below n, a run over n slots is one at another horizon too.
pub run_alike : (s q : Plan) (n : ℕ) (r : List Slot) → AreAlike s.settings q.settings →
    events_below n s.events ≡ events_below n q.events → IsRun s n r → IsRun q n r
run_alike s q n r alike same run = record {
  slots = run.slots;
  each = λ t d below.
      let long : length (take t r) ≡ t = length-take-le t r (let all : length r ≡ n = run.slots in omega arith) in
      same_next s q (take t r) (get_or r t d) alike
      (same_past s q n (length (take t r)) same (omega arith))
      (same_events s q n (length (take t r)) same (omega arith))
      (run.each t d below);
}

pub runs_rest_on_past : RunsRestOnPast
runs_rest_on_past = run_alike

-- The computed run is the run.
pub run_more : (s : Plan) (r : List Slot) (slot : Slot) → IsRun s (length r) r → IsNextSlot s r slot →
    IsRun s (suc (length r)) (r ++ slot ∷ [])
run_more s r slot run next = record {
  slots = length_snoc r slot;
  each = λ t d below. ⊎_elim
      (λ early. subst₂ (IsNextSlot s) (sym (take-append-le t r (slot ∷ []) (omega arith))) (sym (get_or_append_left r (slot ∷ []) d t early))
      (run.each t d early))
      (λ last.
      let e : length r ≡ t = omega arith in
      subst₂ (IsNextSlot s) (sym (take_at r (slot ∷ []) t e)) (sym (get_or_at r slot [] d t e)) next)
      (cases_lt t (length r));
}

-- a slot as it is computed from the events in force before it
pub next_computed : (s : Plan) (r : List Slot) (slot : Slot) → IsScenario s → IsRun s (length r) r →
    slot.denials ≡ denials_among s.settings r (events_in_force s r (length r)) (events_of s (length r)) →
    slot.picks ≡ map pick_of_key (picks_of s.settings r (after_events s.settings r (events_in_force s r (length r)) (events_of s (length r)))) →
    IsNextSlot s r slot
next_computed s r slot scenario run denials picks =
    let both = next_from_one_by_one s r slot scenario run denials in
    let xs = after_events s.settings r (events_in_force s r (length r)) (events_of s (length r)) in
    next_slot s r slot scenario run denials (record {
      chosen = picks_of s.settings r xs;
      are_first = first_is_first (count_of s.settings.processors xs) (ready s.settings.base r xs)
          (ready_differ s.settings.base r xs
          (subst (λ at. AllPairs (λ x y. join_alike x.event y.event ≡ false) at) both.stands
          (joins_once_in_force s (suc (length r)) (denials_of (r ++ slot ∷ [])) scenario)));
      subtasks = picks;
    })

-- the slots of a course are a run, with what is in force after it
pub record IsCourse (s : Plan) (n : ℕ) (c : RunCourse) : Type 0 where
  pub is_run : IsRun s n c.slots
  pub stands : c.standing ≡ events_in_force s c.slots n

none_stands : (s : Plan) → [] ≡ events_in_force s [] 0
unfolding in_force
none_stands s = refl

course_more : (s : Plan) (c : RunCourse) → IsScenario s → IsCourse s (length c.slots) c →
    IsCourse s (suc (length c.slots)) (next_course s c (events_of s (length c.slots)))
course_more s c scenario course =
    let r = c.slots in
    let events = events_of s (length r) in
    let slot : Slot = record {
      picks = map pick_of_key (picks_of s.settings r (after_events s.settings r c.standing events));
      denials = denials_among s.settings r c.standing events;
    } in
    let denials = ap (λ at. denials_among s.settings r at events) course.stands in
    record {
      is_run = run_more s r slot course.is_run
          (next_computed s r slot scenario course.is_run denials
          (ap (λ at. map pick_of_key (picks_of s.settings r (after_events s.settings r at events))) course.stands));
      stands = ap (λ at. after_events s.settings r at events) course.stands
          ∙ sym (next_from_one_by_one s r slot scenario course.is_run denials).stands;
    }

pub course_is_run : (s : Plan) (n : ℕ) → IsScenario s → IsCourse s n (course_of s n)
unfolding course_of
course_is_run s zero scenario = record { is_run = run_none s; stands = none_stands s }
course_is_run s (suc n) scenario =
    let before = course_is_run s n scenario in
    let c = course_of s n in
    subst (λ m. IsCourse s (suc m) (next_course s c (events_of s m))) before.is_run.slots
    (course_more s c scenario (subst (λ m. IsCourse s m c) (sym before.is_run.slots) before))

pub run_is_computed : RunIsComputed
run_is_computed s n scenario = (course_is_run s n scenario).is_run

-- Use: the same laws of the run as it is computed.
pub computed_length : (s : Plan) (n : ℕ) → IsScenario s → length (run_of s n) ≡ n
computed_length s n scenario = (run_is_computed s n scenario).slots

pub computed_begins : (s : Plan) (n t : ℕ) → IsScenario s → t ≤ n → take t (run_of s n) ≡ run_of s t
computed_begins s n t scenario within =
    one_run s t _ _ scenario (run_begins s n t _ (run_is_computed s n scenario) within) (run_is_computed s t scenario)

pub computed_alike : (s q : Plan) (n : ℕ) → IsScenario s → IsScenario q → AreAlike s.settings q.settings →
    events_below n s.events ≡ events_below n q.events → run_of s n ≡ run_of q n
computed_alike s q n of_s of_q alike same =
    one_run q n _ _ of_q (run_alike s q n _ alike same (run_is_computed s n of_s)) (run_is_computed q n of_q)

-- the first keys, computed
pub first_are_computed : FirstAreComputed
first_are_computed n keys chosen differ = (
  (λ are. first_is_one n keys chosen (first_keys n keys) are (first_is_first n keys differ)),
  (λ same. subst (λ (ks : List Priority). AreFirst n keys ks) (sym same) (first_is_first n keys differ)),
)
