-- Denied events by task: each is of the task of the event that has its number.
use Rattle.std.proofs.Common.{◌≡◌, ◌∙◌, ℕ, zero, suc, ◌+◌, ◌<◌, ◌≤◌, Bool, true, false, ◌||◌, ◌&&◌, ◌==◌, cond, Option, None, Some, List, [], ◌∷◌, ◌++◌, length, take, get_or, filter, find, sym, ap, ap₂, subst, refl, ⊎_elim, ltb, arith, eq-eqb}
use Rattle.std.specs.List.{AllWithin, list_any}
use Rattle.std.specs.List.Sorted.{IsNonDecreasingBy, IsPartitionPoint}
use Rattle.std.specs.Option.{option_and_then, option_map_or}
use Rattle.std.proofs.lemmas.Bool.{cases_Bool, cases_lt, cond-false, eqb-true, ltb-true, ltb-false, ne_eqb}
use Rattle.std.proofs.lemmas.List.{append-nil, get_or_default, take_all, take_more}
use Rattle.std.proofs.lemmas.List.Elements.{All-filter, filter-append}
use Rattle.std.proofs.lemmas.List.Folds.{list_any_none}
use Rattle.pf_scenario.specs.Event.{task_of}
use Rattle.pf_scenario.specs.declared.event.Numbered.{Numbered}
use Rattle.pf_run.specs.declared.denied.Denied.{Denied}
use Rattle.pf_scenario.proofs.Lists.{find_none}
use Rattle.pf_collections.specs.Table.Lists.{noted_of}
use Rattle.pf_tally.specs.Own.{is_own, events_of_task}
use Rattle.pf_picture.specs.Drawing.{is_denial_of}
use Rattle.pf_picture.specs.Denials.{AreDenialsByTask, HaveRisingNumbers, owner_of}

-- events after the first one
rest_rises : (x : Numbered) (xs : List Numbered) → HaveRisingNumbers (x ∷ xs) → HaveRisingNumbers xs
rest_rises x xs rising = λ i j d before within. rising (suc i) (suc j) d (omega arith) (omega arith)

-- Use: their numbers do not fall.
pub non_decreasing : (xs : List Numbered) → HaveRisingNumbers xs → IsNonDecreasingBy (λ x. x.id) xs
non_decreasing xs rising = λ i j d le within.
    ⊎_elim
    (λ before. let up : (get_or xs i d).id < (get_or xs j d).id = rising i j d before within in omega arith)
    (λ same. let at : i ≡ j = omega arith in let equal : (get_or xs i d).id ≡ (get_or xs j d).id = ap (λ i. (get_or xs i d).id) at in omega arith)
    (cases_lt i j)

-- Use: the place that parts the lower numbers from the others.
pub parted : (xs : List Numbered) (id at : ℕ) → IsPartitionPoint (λ x. ltb x.id id ≡ true) (λ x. ltb x.id id ≡ false) xs at →
    AllWithin (λ x. x.id < id) xs 0 at × AllWithin (λ x. id ≤ x.id) xs at (length xs)
parted xs id at point = (
  λ k d low high. ltb-true (get_or xs k d).id id (point.0 k d low high),
  λ k d low high. ltb-false (get_or xs k d).id id (point.1 k d low high),
)

-- Use: the event of this number is found where those before it have lower ones.
pub found : (xs : List Numbered) (id k : ℕ) (d : Numbered) → k < length xs → AllWithin (λ x. x.id < id) xs 0 k → (get_or xs k d).id ≡ id →
    find (λ x. x.id == id) xs ≡ Some (get_or xs k d)
found [] id k d within below is = absurd (omega arith)
found (x ∷ xs) id zero d within below is = ap (λ b. cond b (Some x) (find (λ x. x.id == id) xs)) (eq-eqb x.id id is)
found (x ∷ xs) id (suc k) d within below is =
    let low : x.id < id = below 0 d (omega arith) (omega arith) in
    cond-false (x.id == id) (Some x) (find (λ x. x.id == id) xs) (ne_eqb x.id id (λ e. omega arith))
    ∙ found xs id k d (omega arith) (λ i d low high. below (suc i) d (omega arith) (omega arith)) is

-- Use: no event has this number where the first one whose number other lower has another.
pub not_found : (xs : List Numbered) (id k : ℕ) → AllWithin (λ x. x.id < id) xs 0 k → AllWithin (λ x. id ≤ x.id) xs k (length xs) → HaveRisingNumbers xs →
    ((d : Numbered) → k < length xs → (get_or xs k d).id ≡ id → ⊥) → find (λ x. x.id == id) xs ≡ None
not_found xs id k below others rising other =
    find_none (λ x. x.id == id) xs (list_any_none (λ x. x.id == id) xs (λ i d within. ne_eqb (get_or xs i d).id id (λ e.
    ⊎_elim (λ before. let low : (get_or xs i d).id < id = below i d (omega arith) before in omega arith)
    (λ behind. ⊎_elim
    (λ far. let first : id ≤ (get_or xs k d).id = others k d (omega arith) (omega arith) in let up : (get_or xs k d).id < (get_or xs i d).id = rising k i d far within in omega arith)
    (λ near. let at : k ≡ i = omega arith in other d (omega arith) (ap (λ i. (get_or xs i d).id) at ∙ e))
    (cases_lt k i))
    (cases_lt i k))))

and_or : (own : Bool) → ((own && true) || false) ≡ own
and_or true = refl
and_or false = refl

nand_or : (own b : Bool) → ((own && false) || b) ≡ b
nand_or true b = refl
nand_or false b = refl

-- Use: an event within the list is the same whatever a place after its end would give.
pub other_at : (xs : List Numbered) (id k : ℕ) (e d : Numbered) → k < length xs → ((get_or xs k e).id ≡ id → ⊥) → (get_or xs k d).id ≡ id → ⊥
other_at xs id k e d within other is = other (ap (λ (x : Numbered). x.id) (get_or_default xs k e d within) ∙ is)

-- of one event and others
any_own : (p : Numbered → Bool) (own : Bool) (x : Numbered) (ys : List Numbered) → list_any p (cond own (x ∷ ys) ys) ≡ ((own && p x) || list_any p ys)
any_own p true x ys = refl
any_own p false x ys = refl

-- the events after the first one have other numbers
none_behind : (x : Numbered) (xs : List Numbered) (task : ℕ) → HaveRisingNumbers (x ∷ xs) → list_any (λ y. y.id == x.id) (events_of_task task xs) ≡ false
none_behind x xs task rising =
    list_any_none (λ y. y.id == x.id) (events_of_task task xs)
    (All-filter (λ y. is_own task y.event) (λ y. (y.id == x.id) ≡ false) xs
    (λ k d within. let up : x.id < (get_or xs k d).id = rising 0 (suc k) d (omega arith) (omega arith) in ne_eqb (get_or xs k d).id x.id (λ e. omega arith)))

-- a denied event is one of the task's own events where it has the number of an event of the task
own_denial : (xs : List Numbered) (task : ℕ) (denied : Denied) → HaveRisingNumbers xs →
    is_denial_of (events_of_task task xs) denied ≡ option_map_or (λ owner. owner == task) (owner_of xs denied.id) false
own_denial [] task denied rising = refl
own_denial (x ∷ xs) task denied rising =
    let own = is_own task x.event in
    let ys = events_of_task task xs in
    let split = any_own (λ y. y.id == denied.id) own x ys in
    ⊎_elim
    (λ is.
    let same : x.id ≡ denied.id = eqb-true x.id denied.id is in
    let none : list_any (λ y. y.id == denied.id) ys ≡ false = ap (λ id. list_any (λ y. y.id == id) ys) (sym same) ∙ none_behind x xs task rising in
    split ∙ ap₂ (λ a b. (own && a) || b) is none ∙ and_or own
    ∙ sym (ap (λ b. option_map_or (λ owner. owner == task) (option_and_then (λ x. task_of x.event) (cond b (Some x) (find (λ y. y.id == denied.id) xs))) false) is))
    (λ other.
    split ∙ ap (λ a. (own && a) || list_any (λ y. y.id == denied.id) ys) other ∙ nand_or own (list_any (λ y. y.id == denied.id) ys)
    ∙ own_denial xs task denied (rest_rises x xs rising)
    ∙ sym (ap (λ b. option_map_or (λ owner. owner == task) (option_and_then (λ x. task_of x.event) (cond b (Some x) (find (λ y. y.id == denied.id) xs))) false) other))
    (cases_Bool (x.id == denied.id))

-- The walk that notes each denial of the task of its event: before any, after one more, and after all.
pub no_denials : (xs : List Numbered) (denials : List Denied) (table : List (List Denied)) → ((task : ℕ) → noted_of table task ≡ []) → AreDenialsByTask xs (take 0 denials) table
no_denials xs denials table empty = record { each = empty }

denials_push : (xs : List Numbered) (task : ℕ) (denials : List Denied) (x : Denied) (owner : Option ℕ) → HaveRisingNumbers xs → owner ≡ owner_of xs x.id →
    filter (is_denial_of (events_of_task task xs)) (denials ++ x ∷ []) ≡
    filter (is_denial_of (events_of_task task xs)) denials ++ cond (option_map_or (λ o. o == task) owner false) (x ∷ []) []
denials_push xs task denials x owner rising of_owner =
    filter-append (is_denial_of (events_of_task task xs)) denials (x ∷ [])
    ∙ ap (λ b. filter (is_denial_of (events_of_task task xs)) denials ++ cond b (x ∷ []) [])
    (own_denial xs task x rising ∙ ap (λ owner. option_map_or (λ o. o == task) owner false) (sym of_owner))

pub denial_none : (xs : List Numbered) (denials : List Denied) (table : List (List Denied)) (k : ℕ) (d : Denied) → HaveRisingNumbers xs → k < length denials →
    None ≡ owner_of xs (get_or denials k d).id → AreDenialsByTask xs (take k denials) table → AreDenialsByTask xs (take (k + 1) denials) table
denial_none xs denials table k d rising within of_owner before =
    let P : List Denied → Type 0 = λ ys. AreDenialsByTask xs ys table in
    subst P (sym (take_more denials k d within)) (record {
      each = λ task.
          before.each task
          ∙ sym (denials_push xs task (take k denials) (get_or denials k d) None rising of_owner ∙ append-nil (filter (is_denial_of (events_of_task task xs)) (take k denials)));
    })

pub denial_some : (xs : List Numbered) (denials : List Denied) (table after : List (List Denied)) (k owner : ℕ) (d : Denied) → HaveRisingNumbers xs → k < length denials →
    Some owner ≡ owner_of xs (get_or denials k d).id →
    ((task : ℕ) → noted_of after task ≡ noted_of table task ++ cond (owner == task) (get_or denials k d ∷ []) []) →
    AreDenialsByTask xs (take k denials) table → AreDenialsByTask xs (take (k + 1) denials) after
denial_some xs denials table after k owner d rising within of_owner noted before =
    let x = get_or denials k d in
    let P : List Denied → Type 0 = λ ys. AreDenialsByTask xs ys after in
    subst P (sym (take_more denials k d within)) (record {
      each = λ task.
          noted task ∙ ap (λ ys. ys ++ cond (owner == task) (x ∷ []) []) (before.each task)
          ∙ sym (denials_push xs task (take k denials) x (Some owner) rising of_owner);
    })

pub all_denials : (xs : List Numbered) (denials : List Denied) (table : List (List Denied)) (k : ℕ) → length denials ≤ k → AreDenialsByTask xs (take k denials) table →
    AreDenialsByTask xs denials table
all_denials xs denials table k over are = let P : List Denied → Type 0 = λ ys. AreDenialsByTask xs ys table in subst P (take_all k denials over) are
