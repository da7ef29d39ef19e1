-- The greatest cost for which there is room, and the most work of that cost.
use Rattle.std.proofs.Common.{◌≡◌, ℕ, zero, suc, ◌+◌, ◌-◌, ◌*◌, ◌/◌, ◌%◌, ◌<◌, ◌≤◌, List, length, get_or, set, refl, sym, ◌∙◌, ap, subst, arith}
use Rattle.std.proofs.Math.Nat.{mul-le-mul, div-mul-le_self, le_of_mul-le-mul_right}
use Rattle.std.proofs.lemmas.Nat.{le-div}
use Rattle.std.proofs.lemmas.List.{get_or_default}
use Rattle.std.specs.Int.{div_ceil}
use Rattle.std.specs.Prelude.{min}
use Rattle.pf_weight.specs.declared.base.TheConstants.{LARGEST_BASE}
use Rattle.pf_convert.specs.declared.plan.Plan.{Plan}
use Rattle.pf_convert.specs.declared.quantum.Quantum.{Quantum}
use Rattle.pf_convert.specs.declared.slotted.Slotted.{Slotted}
use Rattle.pf_convert.specs.Counting.{IsLeastCover}
use Rattle.pf_convert.specs.Margins.Fitting.{FitOver, IsPlan, no_task, room_beside, task_at, units_beside, with_task}
use Rattle.pf_convert.specs.Margins.Works.{HasNoWork, HasRoomForWork, IsMostWork, with_cost}
use Rattle.pf_convert.specs.Rounding.{load_over, rounded}
use Rattle.pf_convert.specs.Slots.{IsQuantum}
use Rattle.pf_convert.proofs.Counting.{cover_of}
use Rattle.pf_convert.proofs.Rounding.{units_over}
use Rattle.pf_convert.proofs.MarginsLemmas.Fitting.{IsInLoad, IsPart, task_units, plan_holds, load_with, holds_with, holds_at}

-- the load with another cost of a task is what the others ask for and what this cost does
cost_load : (plan : Plan) (place cost : ℕ) → IsPlan plan → place < length plan.tasks.items
    → load_over plan.base (with_task plan place (with_cost (task_at plan place) cost)) ≡ units_beside plan place + cost * (plan.base / (task_at plan place).period)
cost_load plan place cost p lt =
    let t = task_at plan place in
    let is = task_units plan place no_task p lt in
    let units : units_over plan.base (with_cost t cost) ≡ cost * (plan.base / t.period) = sym (ap (λ v. cost * (plan.base / v)) is.part.stays) in
    let both = load_with plan.base plan.tasks.items place (with_cost t cost) no_task lt in
    omega (arith, units, both, is.part.units, is.within, p.asks)

pub room_for_cost : (processors : ℕ) (plan : Plan) (place cost : ℕ) → IsPlan plan → place < length plan.tasks.items → 1 ≤ cost
    → cost ≤ (task_at plan place).period → cost * (plan.base / (task_at plan place).period) ≤ room_beside processors plan place
    → FitOver processors plan.base (with_task plan place (with_cost (task_at plan place) cost))
room_for_cost processors plan place cost p lt some fits room =
    let t = task_at plan place in
    let is = task_units plan place no_task p lt in
    let units : 1 ≤ cost * (plan.base / t.period) = mul-le-mul {n₁ = 1} {m₁ = 1} {n₂ = cost} {m₂ = plan.base / t.period} some is.part.turns in
    record {
      holds = holds_with plan.base plan.tasks.items place (with_cost t cost) (subst (λ v. cost ≤ v) is.part.stays fits) (plan_holds plan p);
      enough = omega (arith, cost_load plan place cost p lt, room, units);
    }

pub record IsCostInRoom (processors : ℕ) (plan : Plan) (place cost : ℕ) : Type 0 where
  pub fits : cost ≤ (task_at plan place).period
  pub room : cost * (plan.base / (task_at plan place).period) ≤ room_beside processors plan place

pub cost_in_room : (processors : ℕ) (plan : Plan) (place cost : ℕ) → IsPlan plan → place < length plan.tasks.items
    → FitOver processors plan.base (with_task plan place (with_cost (task_at plan place) cost)) → IsCostInRoom processors plan place cost
cost_in_room processors plan place cost p lt f =
    let t = task_at plan place in
    let is = task_units plan place no_task p lt in
    let holds : cost ≤ rounded plan.base t.period = holds_at plan.base plan.tasks.items place (with_cost t cost) lt f.holds in
    record {
      fits = omega (arith, holds, is.part.stays);
      room = omega (arith, cost_load plan place cost p lt, f.enough);
    }

-- the work of so many whole parts takes as many
pub whole : (part cost : ℕ) → 1 ≤ part → div_ceil (cost * part) part ≡ cost
whole part cost some =
    let cover = cover_of (cost * part) part (div_ceil (cost * part) part) some refl in
    omega (arith, cover.least cost (omega arith), le_of_mul-le-mul_right {m = cost} {n = div_ceil (cost * part) part} {k = part} cover.covers some)

-- the greatest cost within the room and the period
pub record IsGreatestCost (free units period cost : ℕ) : Type 0 where
  pub fits : cost ≤ period
  pub room : cost * units ≤ free
  pub greatest : (c : ℕ) → c ≤ period → c * units ≤ free → c ≤ cost

greatest_cost : (room units period cost : ℕ) → 1 ≤ units → cost ≡ min (room / units) period → IsGreatestCost room units period cost
greatest_cost room units period cost some e =
    let both : cost ≤ room / units = omega (arith, e) in
    record {
      fits = omega (arith, e);
      room = omega (arith, mul-le-mul {n₁ = cost} {m₁ = units} {n₂ = room / units} {m₂ = units} both (omega arith), div-mul-le_self room units);
      greatest = λ c fits room'. omega (arith, e, fits, le-div c room units some room');
    }

greatest_of : (processors : ℕ) (plan : Plan) (place cost : ℕ) → IsPlan plan → place < length plan.tasks.items
    → cost ≡ min (room_beside processors plan place / (plan.base / (task_at plan place).period)) (task_at plan place).period
    → IsGreatestCost (room_beside processors plan place) (plan.base / (task_at plan place).period) (task_at plan place).period cost
greatest_of processors plan place cost p lt e =
    greatest_cost (room_beside processors plan place) (plan.base / (task_at plan place).period) (task_at plan place).period cost
    (task_units plan place no_task p lt).part.turns e

-- a cost for which there is room is no greater
no_greater : (processors : ℕ) (q : Quantum) (plan : Plan) (place cost w : ℕ) → IsQuantum q → IsPlan plan → place < length plan.tasks.items
    → IsGreatestCost (room_beside processors plan place) (plan.base / (task_at plan place).period) (task_at plan place).period cost
    → HasRoomForWork processors q plan place w → w ≤ cost * (q.length - q.switch)
no_greater processors q plan place cost w is p lt g f =
    let part = q.length - q.switch in
    let some : 1 ≤ part = omega (arith, is.switch) in
    let r = cost_in_room processors plan place (div_ceil w part) p lt f in
    let less : div_ceil w part ≤ cost = g.greatest (div_ceil w part) r.fits r.room in
    let cover = cover_of w part (div_ceil w part) some refl in
    omega (arith, cover.covers, mul-le-mul {n₁ = div_ceil w part} {m₁ = part} {n₂ = cost} {m₂ = part} less (omega arith))

-- the greatest cost, where the task and the room are told as they were read
cost_at : (processors : ℕ) (plan : Plan) (place free cost : ℕ) (t : Slotted) → place < length plan.tasks.items → t ≡ get_or plan.tasks.items place t
    → free ≡ room_beside processors plan place → cost ≡ min (free / (plan.base / t.period)) t.period
    → cost ≡ min (room_beside processors plan place / (plan.base / (task_at plan place).period)) (task_at plan place).period
cost_at processors plan place free cost t lt read is e =
    let same : t ≡ task_at plan place = read ∙ get_or_default plan.tasks.items place t no_task lt in
    e ∙ ap (λ f. min (f / (plan.base / t.period)) t.period) is
    ∙ ap (λ (s : Slotted). min (room_beside processors plan place / (plan.base / s.period)) s.period) same

pub most_of : (processors : ℕ) (q : Quantum) (plan : Plan) (place free cost : ℕ) (t : Slotted) → IsQuantum q → IsPlan plan → place < length plan.tasks.items
    → t ≡ get_or plan.tasks.items place t → free ≡ room_beside processors plan place → cost ≡ min (free / (plan.base / t.period)) t.period → 1 ≤ cost
    → IsMostWork processors q plan place (cost * (q.length - q.switch))
most_of processors q plan place free cost t is p lt read room e some =
    let part = q.length - q.switch in
    let one : 1 ≤ part = omega (arith, is.switch) in
    let g = greatest_of processors plan place cost p lt (cost_at processors plan place free cost t lt read room e) in
    record {
      some = mul-le-mul {n₁ = 1} {m₁ = 1} {n₂ = cost} {m₂ = part} some one;
      room =
          subst (λ c. FitOver processors plan.base (with_task plan place (with_cost (task_at plan place) c))) (sym (whole part cost one))
          (room_for_cost processors plan place cost p lt some g.fits g.room);
      most = λ w f. no_greater processors q plan place cost w is p lt g f;
    }

pub none_of : (processors : ℕ) (q : Quantum) (plan : Plan) (place free cost : ℕ) (t : Slotted) → IsQuantum q → IsPlan plan → place < length plan.tasks.items
    → t ≡ get_or plan.tasks.items place t → free ≡ room_beside processors plan place → cost ≡ min (free / (plan.base / t.period)) t.period → cost ≡ 0
    → HasNoWork processors q plan place
none_of processors q plan place free cost t is p lt read room e none = λ w some f.
    let g = greatest_of processors plan place cost p lt (cost_at processors plan place free cost t lt read room e) in
    let less : w ≤ cost * (q.length - q.switch) = no_greater processors q plan place cost w is p lt g f in
    let nothing : w ≤ 0 * (q.length - q.switch) = subst (λ v. w ≤ v * (q.length - q.switch)) none less in
    omega (arith, nothing, some)

-- so much work fits 64 bits
pub work_within : (q : Quantum) (plan : Plan) (place cost free : ℕ) (t : Slotted) → IsQuantum q → IsPlan plan → place < length plan.tasks.items
    → t ≡ get_or plan.tasks.items place t → cost ≡ min free t.period → cost * (q.length - q.switch) ≤ 1073741824000000000
work_within q plan place cost free t is p lt read e =
    let in' : IsInLoad plan t = subst (IsInLoad plan) (sym read) (task_units plan place t p lt) in
    omega (
      arith,
      mul-le-mul {n₁ = cost} {m₁ = q.length - q.switch} {n₂ = 1073741824} {m₂ = 1000000000} (omega (arith, e, in'.part.within, p.within)) (omega (arith, is.length)),
    )
