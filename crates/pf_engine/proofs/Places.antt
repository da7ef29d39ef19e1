-- Where the task of a number stands in a roster, and what an edit leaves.
use Rattle.std.proofs.Common.{◌≡◌, ◌≢◌, ℕ, zero, suc, ◌+◌, ◌<◌, ◌≤◌, Bool, true, false, not, ◌==◌, cond, Option, Some, None, List, [], ◌∷◌, ◌++◌, length, filter, find, slice_get, get_or, set, remove, option_map, All, ⊎_elim, refl, sym, ap, ◌∙◌, arith}
use Rattle.std.proofs.lemmas.Bool.{cases_lt, cases_eq, eq-eqb, ne_eqb, true≢false}
use Rattle.std.proofs.lemmas.Option.{slice_get-get_or}
use Rattle.std.proofs.lemmas.List.{get_or-map, length-map, length-set, get_or-set_same, get_or-set_other, get_or_append_left, get_or_push, length_push, same_lists, get_or_default}
use Rattle.std.proofs.lemmas.List.Elements.{All-nil, All-cons, All-push}
use Rattle.std.proofs.lemmas.List.Folds.{find_at, map_fixed, list_any_none}
use Rattle.std.proofs.lemmas.List.Sums.{position_or_len_is}
use Rattle.pf_collections.specs.Table.Grown.{Grown, value_of, size_of, with_value}
use Rattle.pf_admit.specs.declared.member.Member.{Member}
use Rattle.pf_scenario.proofs.Lists.{find_none}
use Rattle.pf_engine.specs.Fits.{KeptTask}
use Rattle.pf_engine.specs.Kept.{member_in, changed_task, changed_tasks, other_tasks}
use Rattle.pf_engine.specs.Places.{IsListed, IsListedTo, HasNoTask, IsOnlyAt}

abbrev has_number : ℕ → KeptTask → Bool
has_number task k = k.task == task

-- only the place that the table has can hold the number
elsewhere : (places : Grown ℕ) (tasks : List KeptTask) (task k : ℕ) (d : KeptTask) → IsListed places tasks → k < length tasks →
    k ≢ value_of places task → (get_or tasks k d).task ≢ task
elsewhere places tasks task k d is within other same = other (sym (is.listed k d within) ∙ ap (value_of places) same)

pub none_beyond : (places : Grown ℕ) (tasks : List KeptTask) (task place : ℕ) → IsListed places tasks → place ≡ value_of places task →
    length tasks ≤ place → HasNoTask task tasks
none_beyond places tasks task place is at past = λ k d within. elsewhere places tasks task k d is within (λ e. absurd (omega arith))

pub none_there : (places : Grown ℕ) (tasks : List KeptTask) (task place : ℕ) (d : KeptTask) → IsListed places tasks → place ≡ value_of places task →
    (get_or tasks place d).task ≢ task → HasNoTask task tasks
none_there places tasks task place d is at other = λ k e within same.
    let there : k ≡ place = sym (is.listed k e within) ∙ ap (value_of places) same ∙ sym at in
    other (ap (λ i. (get_or tasks i d).task) (sym there) ∙ ap (λ (x : KeptTask). x.task) (get_or_default tasks k d e within) ∙ same)

pub only_there : (places : Grown ℕ) (tasks : List KeptTask) (task place : ℕ) (d : KeptTask) → IsListed places tasks → place ≡ value_of places task →
    place < length tasks → (get_or tasks place d).task ≡ task → IsOnlyAt task tasks place
only_there places tasks task place d is at within same = record {
  within = within;
  here = λ e. ap (λ (x : KeptTask). x.task) (get_or_default tasks place e d within) ∙ same;
  alone = λ k e inside differ. elsewhere places tasks task k e is inside (λ there. differ (there ∙ sym at));
}

-- the member of a number
pub member_at_place : (tasks : List KeptTask) (task place : ℕ) (x : KeptTask) → IsOnlyAt task tasks place → x ≡ get_or tasks place x →
    Some x.member ≡ member_in tasks task
member_at_place tasks task place x is read =
    let p = has_number task in
    sym (ap (option_map (λ (k : KeptTask). k.member))
    (find_at p tasks
    ∙ ap (slice_get tasks)
    (position_or_len_is p tasks place x (omega (arith, is.within))
    (λ k before. ne_eqb _ _ (is.alone k x (omega (arith, is.within)) (λ e. absurd (omega arith))))
    (λ _. eq-eqb _ _ (is.here x)))
    ∙ slice_get-get_or tasks place x is.within
    ∙ ap Some (sym read)))

pub no_member : (tasks : List KeptTask) (task : ℕ) → HasNoTask task tasks → None ≡ member_in tasks task
no_member tasks task none =
    sym (ap (option_map (λ (k : KeptTask). k.member))
    (find_none (has_number task) tasks (list_any_none (has_number task) tasks (λ k d within. ne_eqb _ _ (none k d within)))))

not_first : (b : Bool) (k : KeptTask) (o : Option KeptTask) → option_map (λ (q : KeptTask). q.member) (cond b (Some k) o) ≡ None →
    (b ≡ false) × (option_map (λ (q : KeptTask). q.member) o ≡ None)
not_first true k o e = cc
not_first false k o e = (refl, e)

pub has_no_task : (tasks : List KeptTask) (task : ℕ) → member_in tasks task ≡ None → HasNoTask task tasks
has_no_task [] task none = All-nil (λ (k : KeptTask). k.task ≢ task)
has_no_task (k ∷ ks) task none =
    let rest = not_first (k.task == task) k (find (has_number task) ks) none in
    All-cons (λ (q : KeptTask). q.task ≢ task) k ks (λ same. true≢false (sym (eq-eqb _ _ same) ∙ rest.0)) (has_no_task ks task rest.1)

-- a table that has another value at a number
pub same_size : (places : Grown ℕ) (task place : ℕ) → size_of (with_value places task place) ≡ size_of places
same_size places task place = length-set places.0 task place

-- one task more
pub listed_push : (places : Grown ℕ) (tasks : List KeptTask) (x : KeptTask) → IsListed places tasks → x.task < size_of places →
    member_in tasks x.task ≡ None → IsListed (with_value places x.task (length tasks)) (tasks ++ x ∷ [])
listed_push places tasks x is small none =
    let long = same_size places x.task (length tasks) in
    record {
      few = omega (arith, long, is.few);
      numbers = All-push (λ k. k.task < size_of (with_value places x.task (length tasks))) tasks x
          (λ k d within. omega (arith, long, is.numbers k d within)) (omega (arith, long));
      listed = λ k d within. ⊎_elim
          (λ before.
          ap (λ (y : KeptTask). value_of (with_value places x.task (length tasks)) y.task) (get_or_append_left tasks (x ∷ []) d k before)
          ∙ get_or-set_other places.0 x.task (get_or tasks k d).task (length tasks) places.1 (has_no_task tasks x.task none k d before)
          ∙ is.listed k d before)
          (λ last. let at : length tasks ≡ k = omega (arith, length_push tasks x) in
          ap (λ (y : KeptTask). value_of (with_value places x.task (length tasks)) y.task) (get_or_push tasks x d k at)
          ∙ get_or-set_same places.0 x.task (length tasks) places.1 small
          ∙ at)
          (cases_lt k (length tasks));
    }

here_changed : (b : Bool) (f : Member → Member) (k : KeptTask) → b ≡ true →
    cond b (record { task = k.task; member = f k.member }) k ≡ record { task = k.task; member = f k.member }
here_changed true f k e = refl
here_changed false f k e = cc

not_changed : (b : Bool) (f : Member → Member) (k : KeptTask) → b ≡ false → cond b (record { task = k.task; member = f k.member }) k ≡ k
not_changed true f k e = cc
not_changed false f k e = refl

pub edited : (tasks : List KeptTask) (task place : ℕ) (x y : KeptTask) (f : Member → Member) → IsOnlyAt task tasks place →
    x ≡ get_or tasks place x → y ≡ record { task = x.task; member = f x.member } → set tasks place y ≡ changed_tasks task f tasks
edited tasks task place x y f is read new =
    let own : (d : KeptTask) → get_or tasks place d ≡ x = λ d. get_or_default tasks place d x is.within ∙ sym read in
    let number : x.task ≡ task = ap (λ (k : KeptTask). k.task) read ∙ is.here x in
    let long = length-set tasks place y in
    same_lists _ _ (long ∙ sym (length-map tasks (changed_task task f)))
    (λ k d inside.
    let low : k < length tasks = omega arith in
    ⊎_elim
    (λ here.
    ap (λ i. get_or (set tasks place y) i d) here
    ∙ get_or-set_same tasks place y d is.within
    ∙ new
    ∙ sym (here_changed (x.task == task) f x (eq-eqb _ _ number))
    ∙ ap (changed_task task f) (sym (own d))
    ∙ ap (λ i. changed_task task f (get_or tasks i d)) (sym here))
    (λ other.
    get_or-set_other tasks place k y d other
    ∙ sym (not_changed ((get_or tasks k d).task == task) f (get_or tasks k d) (ne_eqb _ _ (is.alone k d low other))))
    (cases_eq k place)
    ∙ sym (get_or-map (changed_task task f) tasks k d d low))

pub unchanged : (tasks : List KeptTask) (task : ℕ) (f : Member → Member) → HasNoTask task tasks → tasks ≡ changed_tasks task f tasks
unchanged tasks task f none =
    sym (map_fixed (changed_task task f) tasks
    (λ k d within. not_changed ((get_or tasks k d).task == task) f (get_or tasks k d) (ne_eqb _ _ (none k d within))))

-- those of other numbers
all_stay : {A : Type 0} (p : A → Bool) (xs : List A) → All (λ x. p x ≡ false) xs → filter (λ x. not (p x)) xs ≡ xs
all_stay p [] none = refl
all_stay p (x ∷ xs) none =
    ap (λ b. cond (not b) (x ∷ filter (λ y. not (p y)) xs) (filter (λ y. not (p y)) xs)) (none 0 x (omega arith))
    ∙ ap (λ ys. x ∷ ys) (all_stay p xs (λ k d within. none (suc k) d (omega arith)))

pub none_to_leave : (tasks : List KeptTask) (task : ℕ) → HasNoTask task tasks → tasks ≡ other_tasks task tasks
none_to_leave tasks task none = sym (all_stay (has_number task) tasks (λ k d within. ne_eqb _ _ (none k d within)))

one_out : {A : Type 0} (p : A → Bool) (xs : List A) (i : ℕ) (d : A) → i < length xs → ((e : A) → p (get_or xs i e) ≡ true) →
    ((k : ℕ) (e : A) → k < length xs → k ≢ i → p (get_or xs k e) ≡ false) → filter (λ x. not (p x)) xs ≡ remove xs i
one_out p [] i d within here other = absurd (omega arith)
one_out p (x ∷ xs) zero d within here other =
    ap (λ b. cond (not b) (x ∷ filter (λ y. not (p y)) xs) (filter (λ y. not (p y)) xs)) (here x)
    ∙ all_stay p xs (λ k e inside. other (suc k) e (omega arith) (λ z. absurd (omega arith)))
one_out p (x ∷ xs) (suc i) d within here other =
    ap (λ b. cond (not b) (x ∷ filter (λ y. not (p y)) xs) (filter (λ y. not (p y)) xs)) (other 0 x (omega arith) (λ z. absurd (omega arith)))
    ∙ ap (λ ys. x ∷ ys) (one_out p xs i d (omega arith) here
    (λ k e inside differ. other (suc k) e (omega arith) (λ z. differ (omega arith))))

pub tasks_removed : (tasks : List KeptTask) (task place : ℕ) (d : KeptTask) → IsOnlyAt task tasks place → remove tasks place ≡ other_tasks task tasks
tasks_removed tasks task place d is =
    sym (one_out (has_number task) tasks place d is.within (λ e. eq-eqb _ _ (is.here e)) (λ k e within other. ne_eqb _ _ (is.alone k e within other)))

-- one place more written down
pub listed_more : (places : Grown ℕ) (tasks : List KeptTask) (place : ℕ) (x : KeptTask) → IsListedTo place places tasks → place < length tasks →
    x ≡ get_or tasks place x → IsListedTo (place + 1) (with_value places x.task place) tasks
listed_more places tasks place x is at read =
    let long = same_size places x.task place in
    let number : (d : KeptTask) → (get_or tasks place d).task ≡ x.task =
    λ d. ap (λ (y : KeptTask). y.task) (get_or_default tasks place d x at ∙ sym read) in
    record {
      few = omega (arith, long, is.few);
      numbers = λ k d within. omega (arith, long, is.numbers k d within);
      apart = is.apart;
      listed = λ k d within below. ⊎_elim
          (λ before.
          get_or-set_other places.0 x.task (get_or tasks k d).task place places.1 (λ same. is.apart k place d before at (same ∙ sym (number d)))
          ∙ is.listed k d within before)
          (λ late.
          let here : k ≡ place = omega arith in
          ap (value_of (with_value places x.task place)) (ap (λ i. (get_or tasks i d).task) here ∙ number d)
          ∙ get_or-set_same places.0 x.task place places.1 (omega (arith, is.numbers place x at, number x))
          ∙ sym here)
          (cases_lt k place);
    }

-- the member of a number, once its task is changed
pub member_edited : (tasks : List KeptTask) (task place : ℕ) (x y : KeptTask) (f : Member → Member) → IsOnlyAt task tasks place →
    x ≡ get_or tasks place x → y ≡ record { task = x.task; member = f x.member } → Some y.member ≡ member_in (set tasks place y) task
member_edited tasks task place x y f is read new =
    let number : y.task ≡ task = ap (λ (k : KeptTask). k.task) (new ∙ refl) ∙ ap (λ (k : KeptTask). k.task) read ∙ is.here x in
    member_at_place (set tasks place y) task place y
    (record {
      within = omega (arith, is.within, length-set tasks place y);
      here = λ e. ap (λ (k : KeptTask). k.task) (get_or-set_same tasks place y e is.within) ∙ number;
      alone = λ k e within other same. is.alone k e (omega (arith, length-set tasks place y)) other
          (ap (λ (q : KeptTask). q.task) (sym (get_or-set_other tasks place k y e other)) ∙ same);
    })
    (sym (get_or-set_same tasks place y y is.within))
