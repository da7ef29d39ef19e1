-- What tasks ask for with the costs of a switch: a longer one leaves less room.
use Rattle.std.proofs.Common.{◌≡◌, ℕ, ◌+◌, ◌-◌, ◌*◌, ◌/◌, ◌<◌, ◌≤◌, inl, inr, Bool, true, false, List, [], ◌∷◌, take, map, length, get_or, Option, None, Some, MatchOption, refl, sym, ◌∙◌, ap, subst, arith}
use Rattle.std.specs.Int.{div_ceil}
use Rattle.std.specs.List.{sum_by, zip}
use Rattle.std.specs.Prelude.{All, IsTrue, leb}
use Rattle.std.proofs.Math.Nat.{mul-le-mul}
use Rattle.std.proofs.lemmas.Bool.{cases_lt, leb-true, leb-false, true_from_ne_false, false≢true}
use Rattle.std.proofs.lemmas.List.{get_or-map, get_or_default, length-map, take_all}
use Rattle.std.proofs.lemmas.List.Elements.{All-map}
use Rattle.std.proofs.lemmas.List.Sums.{sum_by-cons, sum_by-le-sum_by}
use Rattle.std.proofs.lemmas.Slice.Zip.{get_or-zip, length-zip}
use Rattle.pf_weight.specs.declared.base.TheConstants.{LARGEST_BASE}
use Rattle.pf_convert.specs.declared.plan.Plan.{Plan}
use Rattle.pf_convert.specs.declared.slotted.Slotted.{Slotted}
use Rattle.pf_convert.specs.declared.timed.Timed.{Timed}
use Rattle.pf_convert.specs.Margins.Fitting.{FitOver, IsPlan, no_task}
use Rattle.pf_convert.specs.Margins.Switches.{HasNoSwitch, HasRoomForSwitch, IsMostSwitch, with_costs}
use Rattle.pf_convert.specs.Margins.Works.{with_cost}
use Rattle.pf_convert.specs.Rounding.{Holds, load_over, rounded}
use Rattle.pf_convert.proofs.Counting.{cover_of}
use Rattle.pf_convert.proofs.Rounding.{IsLoadSoFar, task_loaded, units_over}
use Rattle.pf_convert.proofs.MarginsLemmas.Fitting.{IsPart, part_at}

-- a task with the cost of its work
abbrev pub costed : ℕ → Timed × Slotted → Slotted
costed part p = with_cost p.1 (div_ceil p.0.work part)

-- more time for work costs no more quanta
cost_falls : (work part more : ℕ) → 1 ≤ part → part ≤ more → div_ceil work more ≤ div_ceil work part
cost_falls work part more some le =
    let least = cover_of work part (div_ceil work part) some refl in
    let enough : work ≤ div_ceil work part * more =
    omega (arith, least.covers, mul-le-mul {n₁ = div_ceil work part} {m₁ = part} {n₂ = div_ceil work part} {m₂ = more} (omega arith) le) in
    (cover_of work more (div_ceil work more) (omega (arith, some, le)) refl).least (div_ceil work part) enough

sum_of_map : {X : Type 0} (f : X → Slotted) (g : Slotted → ℕ) (xs : List X) → sum_by g (map f xs) ≡ sum_by (λ x. g (f x)) xs
sum_of_map f g [] = refl
sum_of_map f g (x ∷ xs) = omega (arith, sum_by-cons g (f x) (map f xs), sum_by-cons (λ x. g (f x)) x xs, sum_of_map f g xs)

at_pair : (base part : ℕ) (ps : List (Timed × Slotted)) (place : ℕ) (d : Timed × Slotted) → place < length ps → Holds base (map (costed part) ps)
    → (costed part (get_or ps place d)).cost ≤ rounded base (get_or ps place d).1.period
at_pair base part ps place d lt holds =
    subst (λ (s : Slotted). s.cost ≤ rounded base s.period) (get_or-map (costed part) ps place d (costed part d) lt)
    (holds place (costed part d) (omega (arith, length-map ps (costed part), lt)))

fit_falls : (processors base part more : ℕ) (ps : List (Timed × Slotted)) → 1 ≤ part → part ≤ more → FitOver processors base (map (costed part) ps)
    → FitOver processors base (map (costed more) ps)
fit_falls processors base part more ps some le f =
    let falls : (p : Timed × Slotted) → (costed more p).cost ≤ (costed part p).cost = λ p. cost_falls p.0.work part more some le in
    let units : (p : Timed × Slotted) → units_over base (costed more p) ≤ units_over base (costed part p) = λ p.
    mul-le-mul {n₁ = (costed more p).cost} {m₁ = base / rounded base p.1.period} {n₂ = (costed part p).cost} {m₂ = base / rounded base p.1.period}
    (falls p) (omega arith) in
    record {
      holds =
          All-map (λ (s : Slotted). s.cost ≤ rounded base s.period) (costed more) ps
          (λ place d lt. omega (arith, falls (get_or ps place d), at_pair base part ps place d lt f.holds));
      enough =
          omega (
            arith,
            f.enough,
            sum_of_map (costed more) (units_over base) ps,
            sum_of_map (costed part) (units_over base) ps,
            sum_by-le-sum_by (λ p. units_over base (costed more p)) (λ p. units_over base (costed part p)) ps units,
          );
    }

pub room_falls : (processors quantum : ℕ) (times : List Timed) (plan : Plan) (c d : ℕ) → d ≤ c → HasRoomForSwitch processors quantum times plan c
    → HasRoomForSwitch processors quantum times plan d
room_falls processors quantum times plan c d le h = record {
  within = omega (arith, le, h.within);
  fit =
      fit_falls processors plan.base (quantum - c) (quantum - d) (zip times plan.tasks.items) (omega (arith, h.within)) (omega (arith, le, h.within)) h.fit;
}

pub no_switch : (processors quantum : ℕ) (times : List Timed) (plan : Plan) → (HasRoomForSwitch processors quantum times plan 0 → ⊥)
    → HasNoSwitch processors quantum times plan
no_switch processors quantum times plan never = λ c h. never (room_falls processors quantum times plan c 0 (omega arith) h)

pub most_switch : (processors quantum : ℕ) (times : List Timed) (plan : Plan) (least above : ℕ) → above ≤ least + 1
    → HasRoomForSwitch processors quantum times plan least → (HasRoomForSwitch processors quantum times plan above → ⊥)
    → IsMostSwitch processors quantum times plan least
most_switch processors quantum times plan least above next room never = record {
  room = room;
  most = λ c h.
      elim (cases_lt least c) [
        | inl more ↦ absurd (never (room_falls processors quantum times plan c above (omega (arith, more, next)) h))
        | inr less ↦ less
      ];
}

-- the load of the first tasks
costs_at : (part : ℕ) (times : List Timed) (tasks : List Slotted) (i : ℕ) (t : Timed) (s d : Slotted) → length times ≡ length tasks → i < length tasks
    → t ≡ get_or times i t → s ≡ get_or tasks i s → get_or (with_costs part times tasks) i d ≡ with_cost s (div_ceil t.work part)
costs_at part times tasks i t s d same lt read-t read-s =
    let long : i < length (zip times tasks) = omega (arith, length-zip times tasks, same, lt) in
    get_or-map (costed part) (zip times tasks) i (t, s) d long
    ∙ ap (costed part) (get_or-zip times tasks i (t, s) (omega (arith, same, lt)) lt)
    ∙ ap (λ t. with_cost (get_or tasks i s) (div_ceil (Timed.work t) part)) (sym read-t)
    ∙ ap (λ s. with_cost s (div_ceil t.work part)) (sym read-s)

length_costs : (part : ℕ) (times : List Timed) (tasks : List Slotted) → length times ≡ length tasks → length (with_costs part times tasks) ≡ length tasks
length_costs part times tasks same = omega (arith, length-map (zip times tasks) (costed part), length-zip times tasks, same)

pub cost_loaded : (plan : Plan) (part : ℕ) (times : List Timed) (i l cost : ℕ) (t : Timed) (s : Slotted) → IsPlan plan → length times ≡ length plan.tasks.items
    → i < length plan.tasks.items → t ≡ get_or times i t → s ≡ get_or plan.tasks.items i s → cost ≡ div_ceil t.work part → cost ≤ s.period
    → IsLoadSoFar plan.base (with_costs part times plan.tasks.items) i l
    → IsLoadSoFar plan.base (with_costs part times plan.tasks.items) (i + 1) (l + cost * (plan.base / s.period))
cost_loaded plan part times i l cost t s p same lt read-t read-s is fits h =
    let costs = with_costs part times plan.tasks.items in
    let at : get_or costs i s ≡ with_cost s (div_ceil t.work part) = costs_at part times plan.tasks.items i t s s same lt read-t read-s in
    let stays : s.period ≡ rounded plan.base s.period = (subst (IsPart plan) (sym read-s) (part_at plan i s p lt)).stays in
    let cost-at : (get_or costs i s).cost ≡ cost = ap (λ (s : Slotted). s.cost) at ∙ sym is in
    let period-at : s.period ≡ rounded plan.base (get_or costs i s).period = stays ∙ ap (λ (s : Slotted). rounded plan.base s.period) (sym at) in
    subst (λ v. IsLoadSoFar plan.base costs (i + 1) (l + v * (plan.base / s.period))) cost-at
    (task_loaded plan.base costs i l s.period s (omega (arith, length_costs part times plan.tasks.items same, lt)) p.within h period-at
    (omega (arith, cost-at, fits)))

pub not_held : (processors : ℕ) (plan : Plan) (quantum switch : ℕ) (times : List Timed) (i cost : ℕ) (t : Timed) (s : Slotted) → IsPlan plan
    → length times ≡ length plan.tasks.items → i < length plan.tasks.items → t ≡ get_or times i t → s ≡ get_or plan.tasks.items i s
    → cost ≡ div_ceil t.work (quantum - switch) → s.period < cost → HasRoomForSwitch processors quantum times plan switch → ⊥
not_held processors plan quantum switch times i cost t s p same lt read-t read-s is above h =
    let part = quantum - switch in
    let costs = with_costs part times plan.tasks.items in
    let at : get_or costs i s ≡ with_cost s (div_ceil t.work part) = costs_at part times plan.tasks.items i t s s same lt read-t read-s in
    let stays : s.period ≡ rounded plan.base s.period = (subst (IsPart plan) (sym read-s) (part_at plan i s p lt)).stays in
    let holds : div_ceil t.work part ≤ rounded plan.base s.period =
    subst (λ (s : Slotted). s.cost ≤ rounded plan.base s.period) at (h.fit.holds i s (omega (arith, length_costs part times plan.tasks.items same, lt))) in
    omega (arith, holds, stays, is, above)

-- where all are looked at, that the load is within the processors decides
pub record IsCostLoad (processors : ℕ) (plan : Plan) (costs : List Slotted) (load : ℕ) : Type 0 where
  pub room : load ≤ processors * plan.base → FitOver processors plan.base costs
  pub none : processors * plan.base < load → FitOver processors plan.base costs → ⊥

pub all_loaded : (processors : ℕ) (plan : Plan) (part : ℕ) (times : List Timed) (i l : ℕ) → length times ≡ length plan.tasks.items → length plan.tasks.items ≤ i
    → IsLoadSoFar plan.base (with_costs part times plan.tasks.items) i l → IsCostLoad processors plan (with_costs part times plan.tasks.items) l
all_loaded processors plan part times i l same le h =
    let costs = with_costs part times plan.tasks.items in
    let all : take i costs ≡ costs = take_all i costs (omega (arith, length_costs part times plan.tasks.items same, le)) in
    let load : l ≡ load_over plan.base costs = h.load ∙ ap (load_over plan.base) all in
    record {
      room = λ enough. record { holds = subst (Holds plan.base) all h.holds; enough = omega (arith, enough, load) };
      none = λ less f. omega (arith, less, load, f.enough);
    }

-- there is room for the first switch, and none for the second
pub record IsBetween (processors quantum : ℕ) (times : List Timed) (plan : Plan) (least above : ℕ) : Type 0 where
  pub order : least < above
  pub within : above ≤ quantum
  pub room : HasRoomForSwitch processors quantum times plan least
  pub none : HasRoomForSwitch processors quantum times plan above → ⊥

decided : (P : Type 0) (a b : ℕ) → (a ≤ b → P) → (b < a → P → ⊥) → (IsTrue (leb a b) → P) × (P → IsTrue (leb a b))
decided P a b within above = ((λ h. within (leb-true a b h)), (λ p. true_from_ne_false (leb a b) (λ f. above (leb-false a b f) p)))

refuted : (P : Type 0) → (P → ⊥) → (IsTrue false → P) × (P → IsTrue false)
refuted P never = ((λ f. absurd (false≢true f)), (λ p. absurd (never p)))

-- an element is what it is read as
read_again : {X : Type 0} (xs : List X) (i : ℕ) (d : X) → i < length xs → get_or xs i d ≡ get_or xs i (get_or xs i d)
read_again xs i d lt = get_or_default xs i d (get_or xs i d) lt

-- the same, for the tasks that the loop is over
pub loop_loaded : (plan : Plan) (part : ℕ) (times : List Timed) (ts : List Slotted) (i l cost : ℕ) (dt : Timed) (ds : Slotted) → IsPlan plan
    → length times ≡ length plan.tasks.items → ts ≡ plan.tasks.items → i < length ts → cost ≡ div_ceil (get_or times i dt).work part → cost ≤ (get_or ts i ds).period
    → IsLoadSoFar plan.base (with_costs part times plan.tasks.items) i l
    → IsLoadSoFar plan.base (with_costs part times plan.tasks.items) (i + 1) (l + cost * (plan.base / (get_or ts i ds).period))
loop_loaded plan part times ts i l cost dt ds p same are lt is fits h =
    let here : i < length plan.tasks.items = subst (λ xs. i < length xs) are lt in
    cost_loaded plan part times i l cost (get_or times i dt) (get_or ts i ds) p same here (read_again times i dt (omega (arith, same, here)))
    (subst (λ xs. get_or ts i ds ≡ get_or xs i (get_or ts i ds)) are (read_again ts i ds lt)) is fits h

pub loop_refuted : (processors : ℕ) (plan : Plan) (quantum switch : ℕ) (times : List Timed) (ts : List Slotted) (i cost : ℕ) (dt : Timed) (ds : Slotted) → IsPlan plan
    → length times ≡ length plan.tasks.items → ts ≡ plan.tasks.items → i < length ts → cost ≡ div_ceil (get_or times i dt).work (quantum - switch)
    → (get_or ts i ds).period < cost
    → (IsTrue false → HasRoomForSwitch processors quantum times plan switch) × (HasRoomForSwitch processors quantum times plan switch → IsTrue false)
loop_refuted processors plan quantum switch times ts i cost dt ds p same are lt is above =
    let here : i < length plan.tasks.items = subst (λ xs. i < length xs) are lt in
    refuted (HasRoomForSwitch processors quantum times plan switch)
    (not_held processors plan quantum switch times i cost (get_or times i dt) (get_or ts i ds) p same here (read_again times i dt (omega (arith, same, here)))
    (subst (λ xs. get_or ts i ds ≡ get_or xs i (get_or ts i ds)) are (read_again ts i ds lt)) is above)

pub loop_decided : (processors : ℕ) (plan : Plan) (quantum switch : ℕ) (times : List Timed) (i l : ℕ) → length times ≡ length plan.tasks.items → switch < quantum
    → length plan.tasks.items ≤ i → IsLoadSoFar plan.base (with_costs (quantum - switch) times plan.tasks.items) i l
    → (IsTrue (leb l (processors * plan.base)) → HasRoomForSwitch processors quantum times plan switch)
    × (HasRoomForSwitch processors quantum times plan switch → IsTrue (leb l (processors * plan.base)))
loop_decided processors plan quantum switch times i l same lt le h =
    let all = all_loaded processors plan (quantum - switch) times i l same le h in
    decided (HasRoomForSwitch processors quantum times plan switch) l (processors * plan.base) (λ enough. record { within = lt; fit = all.room enough })
    (λ less room. all.none less room.fit)
