-- The least period for which there is room.
use Rattle.std.proofs.Common.{◌≡◌, ℕ, zero, suc, ◌+◌, ◌-◌, ◌*◌, ◌/◌, ◌%◌, ◌<◌, ◌≤◌, ◌⊎◌, inl, inr, List, [], ◌∷◌, length, get_or, set, Option, None, Some, MatchOption, refl, sym, ◌∙◌, ap, subst, arith}
use Rattle.std.specs.Int.{div_ceil}
use Rattle.std.specs.Prelude.{All, Contains, max}
use Rattle.std.proofs.Math.Nat.{mul-le-mul, mul-mod_right, mul-div_cancel, le-max_left, le-max_right, max-le}
use Rattle.std.proofs.lemmas.Bool.{cases_lt}
use Rattle.std.proofs.lemmas.List.{get_or_default}
use Rattle.std.proofs.lemmas.List.Elements.{All-contains, All-head, All-tail}
use Rattle.std.proofs.lemmas.List.Sums.{sum_by-cons}
use Rattle.pf_weight.specs.declared.base.TheConstants.{LARGEST_BASE}
use Rattle.pf_convert.specs.declared.plan.Plan.{Plan}
use Rattle.pf_convert.specs.declared.slotted.Slotted.{Slotted}
use Rattle.pf_convert.specs.Margins.Fitting.{FitOver, IsPlan, no_task, room_beside, task_at, units_beside, units_of, with_task}
use Rattle.pf_convert.specs.Margins.Periods.{AllBelow, HasNoDivisor, HasRoomForPeriod, IsLeastDivisor, IsLeastFrom, IsLeastPeriod, with_period}
use Rattle.pf_convert.specs.Multiples.{IsCommon}
use Rattle.pf_convert.specs.Rounding.{Holds, load_over, rounded}
use Rattle.pf_convert.specs.Slots.{IsSlotted}
use Rattle.pf_convert.specs.Smooth.{AreDivisors}
use Rattle.pf_convert.proofs.Counting.{cover_of}
use Rattle.pf_convert.proofs.Division.{quotient_of}
use Rattle.pf_convert.proofs.Planned.{divisor_stays}
use Rattle.pf_convert.proofs.Rounding.{units_over}
use Rattle.pf_convert.proofs.MarginsLemmas.Fitting.{IsInLoad, IsPart, task_units, part_at, load_with, holds_with, holds_at}

-- a multiple of the base, and a divisor of the base
pub record IsOnMultiple (base n period : ℕ) : Type 0 where
  pub stays : period ≡ rounded (base * n) period
  pub turns : (base * n) / period ≡ n * (base / period)

on_product : (n period turns : ℕ) → 1 ≤ period → (period * turns * n) / period ≡ n * turns
on_product n period turns some =
    let back : period * turns * n ≡ n * turns * period = omega arith in
    ap (λ v. v / period) back ∙ mul-div_cancel (n * turns) {n = period} (omega (arith, some))

divides_product : (n period turns : ℕ) → (period * turns * n) % period ≡ 0
divides_product n period turns =
    let back : period * turns * n ≡ period * (turns * n) = omega arith in
    ap (λ v. v % period) back ∙ mul-mod_right period (turns * n)

on_multiple : (base n period : ℕ) → 1 ≤ period → base % period ≡ 0 → IsOnMultiple base n period
on_multiple base n period some e =
    let product : base ≡ period * (base / period) = quotient_of base period e in
    record {
      stays =
          divisor_stays (base * n) period some
          (ap (λ v. (v * n) % period) product ∙ divides_product n period (base / period));
      turns = ap (λ v. (v * n) / period) product ∙ on_product n period (base / period) some;
    }

-- over a multiple of the base the tasks ask for so many times as much
units_scaled : (base n : ℕ) (t : Slotted) → 1 ≤ t.period → base % t.period ≡ 0 → units_over (base * n) t ≡ n * units_over base t
units_scaled base n t some e =
    let on = on_multiple base n t.period some e in
    let stays : t.period ≡ rounded base t.period = divisor_stays base t.period some e in
    let over : units_over (base * n) t ≡ t.cost * (n * (base / t.period)) = ap (λ p. t.cost * ((base * n) / p)) (sym on.stays) ∙ ap (λ v. t.cost * v) on.turns in
    let once : units_over base t ≡ t.cost * (base / t.period) = ap (λ p. t.cost * (base / p)) (sym stays) in
    over ∙ regrouped t.cost n (base / t.period) ∙ ap (λ v. n * v) (sym once)
  where
    regrouped : (a b c : ℕ) → a * (b * c) ≡ b * (a * c)
    regrouped a b c = omega arith

pub load_scaled : (base n : ℕ) (tasks : List Slotted) → All IsSlotted tasks → IsCommon tasks base → load_over (base * n) tasks ≡ n * load_over base tasks
load_scaled base n [] slotted common = omega arith
load_scaled base n (t ∷ tasks) slotted common =
    let s : IsSlotted t = All-head IsSlotted t tasks slotted in
    let e : base % t.period ≡ 0 = All-head (λ (s : Slotted). base % s.period ≡ 0) t tasks common in
    let rest = load_scaled base n tasks (All-tail IsSlotted t tasks slotted) (All-tail (λ (s : Slotted). base % s.period ≡ 0) t tasks common) in
    let here = units_scaled base n t (omega (arith, s.some, s.within)) e in
    let once : n * load_over base (t ∷ tasks) ≡ n * (units_over base t + load_over base tasks) = ap (λ v. n * v) (sum_by-cons (units_over base) t tasks) in
    omega (arith, sum_by-cons (units_over (base * n)) t tasks, here, rest, once)

-- what the others ask for, apart
apart : (n all one rest more load : ℕ) → load + n * one ≡ n * all + more → all ≡ rest + one → load ≡ n * rest + more
apart n all one rest more load both is = omega (arith, both, ap (λ v. n * v) is)

mod_of_product : (base n : ℕ) → (base * n) % n ≡ 0
mod_of_product base n = let back : base * n ≡ n * base = omega arith in ap (λ v. v % n) back ∙ mul-mod_right n base

over_itself : (base n cost : ℕ) → 1 ≤ n → cost * ((base * n) / rounded (base * n) n) ≡ cost * base
over_itself base n cost some =
    let stays : n ≡ rounded (base * n) n = divisor_stays (base * n) n some (mod_of_product base n) in
    ap (λ p. cost * ((base * n) / p)) (sym stays) ∙ ap (λ v. cost * v) (mul-div_cancel base {n = n} (omega (arith, some)))

period_load : (plan : Plan) (place n : ℕ) → IsPlan plan → place < length plan.tasks.items → 1 ≤ n
    → load_over (plan.base * n) (with_task plan place (with_period (task_at plan place) n)) ≡ n * units_beside plan place + (task_at plan place).cost * plan.base
period_load plan place n p lt some =
    let t = task_at plan place in
    let is = task_units plan place no_task p lt in
    let both = load_with (plan.base * n) plan.tasks.items place (with_period t n) no_task lt in
    let ours : units_over (plan.base * n) t ≡ n * units_over plan.base t = units_scaled plan.base n t is.part.comes is.part.divides in
    let all : load_over (plan.base * n) plan.tasks.items ≡ n * load_over plan.base plan.tasks.items = load_scaled plan.base n plan.tasks.items p.slotted p.common in
    let new : units_over (plan.base * n) (with_period t n) ≡ t.cost * plan.base = over_itself plan.base n t.cost some in
    apart n (load_over plan.base plan.tasks.items) (units_over plan.base t) (units_beside plan place) (t.cost * plan.base)
    (load_over (plan.base * n) (with_task plan place (with_period t n))) (omega (arith, both, ours, all, new)) (omega (arith, is.within, is.part.units, p.asks))

others_hold : (plan : Plan) (n : ℕ) → IsPlan plan → Holds (plan.base * n) plan.tasks.items
others_hold plan n p place d lt =
    let part = part_at plan place d p lt in
    subst (λ v. (get_or plan.tasks.items place d).cost ≤ v) (on_multiple plan.base n (get_or plan.tasks.items place d).period part.comes part.divides).stays
    part.slotted.within

-- a part of the room, so many times
in_room : (n rest room part m base : ℕ) → m * base ≡ rest + room → part ≤ n * room → n * rest + part ≤ m * (base * n)
in_room n rest room part m base is le = omega (arith, le, ap (λ v. n * v) is)

of_room : (n rest part m base : ℕ) → 1 ≤ part → n * rest + part ≤ m * (base * n) → part ≤ n * (m * base - rest)
of_room n rest part m base some le =
    elim (cases_lt (m * base) rest) [
      | inl lt ↦
          (let more : n * (m * base) ≤ n * rest = mul-le-mul {n₁ = n} {m₁ = m * base} {n₂ = n} {m₂ = rest} (omega arith) (omega (arith, lt)) in
          absurd (omega (arith, more, le, some)))
      | inr ge ↦
          (let is : m * base ≡ rest + (m * base - rest) = omega (arith, ge) in
          taken n rest part (m * base - rest) (m * base) is (omega (arith, le)))
    ]
  where
    taken : (n rest part room all : ℕ) → all ≡ rest + room → n * rest + part ≤ n * all → part ≤ n * room
    taken n rest part room all is le = omega (arith, le, ap (λ v. n * v) is)

-- what a period has to be
pub record IsPeriodInRoom (processors : ℕ) (plan : Plan) (place n : ℕ) : Type 0 where
  pub some : 1 ≤ n
  pub fits : (task_at plan place).cost ≤ n
  pub room : (task_at plan place).cost * plan.base ≤ n * room_beside processors plan place

asks_some : (plan : Plan) (place : ℕ) → IsPlan plan → place < length plan.tasks.items → 1 ≤ (task_at plan place).cost * plan.base
asks_some plan place p lt =
    mul-le-mul {n₁ = 1} {m₁ = 1} {n₂ = (task_at plan place).cost} {m₂ = plan.base} (task_units plan place no_task p lt).part.slotted.some p.some

pub room_for_period : (processors : ℕ) (plan : Plan) (place n : ℕ) → IsPlan plan → place < length plan.tasks.items → IsPeriodInRoom processors plan place n
    → HasRoomForPeriod processors plan place n
room_for_period processors plan place n p lt h =
    let t = task_at plan place in
    let stays : n ≡ rounded (plan.base * n) n = divisor_stays (plan.base * n) n h.some (mod_of_product plan.base n) in
    record {
      holds = holds_with (plan.base * n) plan.tasks.items place (with_period t n) (subst (λ v. t.cost ≤ v) stays h.fits) (others_hold plan n p);
      enough =
          subst (λ v. v ≤ processors * (plan.base * n)) (sym (period_load plan place n p lt h.some))
          (in_room n (units_beside plan place) (room_beside processors plan place) (t.cost * plan.base) processors plan.base
          (rest_and_room n (t.cost * plan.base) (processors * plan.base) (units_beside plan place) (asks_some plan place p lt) h.room) h.room);
    }
  where
    rest_and_room : (n part all rest : ℕ) → 1 ≤ part → part ≤ n * (all - rest) → all ≡ rest + (all - rest)
    rest_and_room n part all rest some le =
        elim (cases_lt rest all) [
          | inl lt ↦ omega (arith, lt)
          | inr ge ↦
              (let none : all - rest ≡ 0 = omega (arith, ge) in
              let nothing : part ≤ n * 0 = subst (λ v. part ≤ n * v) none le in
              absurd (omega (arith, nothing, some)))
        ]

none_at_zero : (base cost : ℕ) → 1 ≤ cost → cost ≤ rounded base zero → ⊥
unfolding rounded
none_at_zero base cost some le = omega (arith, le, some)

some_period : (plan : Plan) (place n : ℕ) → IsPlan plan → place < length plan.tasks.items → (task_at plan place).cost ≤ rounded (plan.base * n) n → 1 ≤ n
some_period plan place zero p lt le = absurd (none_at_zero (plan.base * zero) (task_at plan place).cost (task_units plan place no_task p lt).part.slotted.some le)
some_period plan place (suc n) p lt le = omega arith

pub period_in_room : (processors : ℕ) (plan : Plan) (place n : ℕ) → IsPlan plan → place < length plan.tasks.items → HasRoomForPeriod processors plan place n
    → IsPeriodInRoom processors plan place n
period_in_room processors plan place n p lt f =
    let t = task_at plan place in
    let holds : t.cost ≤ rounded (plan.base * n) n = holds_at (plan.base * n) plan.tasks.items place (with_period t n) lt f.holds in
    let some : 1 ≤ n = some_period plan place n p lt holds in
    let stays : n ≡ rounded (plan.base * n) n = divisor_stays (plan.base * n) n some (mod_of_product plan.base n) in
    record {
      some = some;
      fits = omega (arith, holds, stays);
      room =
          of_room n (units_beside plan place) (t.cost * plan.base) processors plan.base (asks_some plan place p lt)
          (subst (λ v. v ≤ processors * (plan.base * n)) (period_load plan place n p lt some) f.enough);
    }

-- the least period that there is room for
pub least_of : (processors : ℕ) (plan : Plan) (place free cost least : ℕ) → IsPlan plan → place < length plan.tasks.items → free ≡ room_beside processors plan place
    → 1 ≤ free → cost ≡ (task_at plan place).cost → least ≡ max (div_ceil (cost * plan.base) free) cost → IsLeastPeriod processors plan place least
least_of processors plan place free cost least p lt is some same e =
    let t = task_at plan place in
    let cover = cover_of (cost * plan.base) free (div_ceil (cost * plan.base) free) some refl in
    let high : div_ceil (cost * plan.base) free ≤ least = omega (arith, e) in
    let fits : cost ≤ least = omega (arith, e) in
    let cost-some : 1 ≤ cost = omega (arith, (task_units plan place no_task p lt).part.slotted.some, same) in
    let room : cost * plan.base ≤ least * free =
    omega (arith, cover.covers, mul-le-mul {n₁ = div_ceil (cost * plan.base) free} {m₁ = free} {n₂ = least} {m₂ = free} high (omega arith)) in
    record {
      room =
          room_for_period processors plan place least p lt (record {
            some = omega (arith, fits, cost-some);
            fits = omega (arith, fits, same);
            room = subst (λ v. v * plan.base ≤ least * room_beside processors plan place) same (subst (λ v. cost * plan.base ≤ least * v) is room);
          });
      least = λ n f.
          let h = period_in_room processors plan place n p lt f in
          let enough : cost * plan.base ≤ n * free =
          subst (λ v. v * plan.base ≤ n * free) (sym same) (subst (λ v. t.cost * plan.base ≤ n * v) (sym is) h.room) in
          omega (arith, e, cover.least n enough, h.fits, same);
    }

pub no_period : (processors : ℕ) (plan : Plan) (place free : ℕ) → IsPlan plan → place < length plan.tasks.items → free ≡ room_beside processors plan place
    → free ≡ 0 → (n : ℕ) → HasRoomForPeriod processors plan place n → ⊥
no_period processors plan place free p lt is none = λ n f.
    let h = period_in_room processors plan place n p lt f in
    let nothing : (task_at plan place).cost * plan.base ≤ n * 0 = subst (λ v. (task_at plan place).cost * plan.base ≤ n * v) (sym is ∙ none) h.room in
    omega (arith, nothing, asks_some plan place p lt)

-- of the divisors, the least that is not below the least period
divisor_of : (processors : ℕ) (plan : Plan) (place least d : ℕ) (divisors : List ℕ) → IsPlan plan → place < length plan.tasks.items
    → AreDivisors plan.base divisors → IsLeastPeriod processors plan place least → IsLeastFrom least divisors d → IsLeastDivisor processors plan place d
divisor_of processors plan place least d divisors p lt are is from =
    let h = period_in_room processors plan place least p lt is.room in
    record {
      divides = All-contains (λ n. plan.base % n ≡ 0) divisors d are.sound from.among;
      room =
          room_for_period processors plan place d p lt (record {
            some = omega (arith, h.some, from.from);
            fits = omega (arith, h.fits, from.from);
            room =
                omega (
                  arith,
                  h.room,
                  mul-le-mul {n₁ = least} {m₁ = room_beside processors plan place} {n₂ = d} {m₂ = room_beside processors plan place} from.from (omega arith),
                );
          });
      least = λ n e f.
          let some = (period_in_room processors plan place n p lt f).some in
          All-contains (λ m. least ≤ m → d ≤ m) divisors n from.least (are.complete n some e) (is.least n f);
    }

no_divisor : (processors : ℕ) (plan : Plan) (place least : ℕ) (divisors : List ℕ) → IsPlan plan → place < length plan.tasks.items
    → AreDivisors plan.base divisors → IsLeastPeriod processors plan place least → AllBelow least divisors → HasNoDivisor processors plan place
no_divisor processors plan place least divisors p lt are is below = λ n e f.
    let some = (period_in_room processors plan place n p lt f).some in
    omega (arith, All-contains (λ m. m < least) divisors n below (are.complete n some e), is.least n f)

pub divisor_from : (processors : ℕ) (plan : Plan) (place least : ℕ) (divisors : List ℕ) (d : Option ℕ) → IsPlan plan → place < length plan.tasks.items
    → AreDivisors plan.base divisors → IsLeastPeriod processors plan place least → MatchOption d (AllBelow least divisors) (IsLeastFrom least divisors)
    → MatchOption d (HasNoDivisor processors plan place) (IsLeastDivisor processors plan place)
divisor_from processors plan place least divisors None p lt are is h = no_divisor processors plan place least divisors p lt are is h
divisor_from processors plan place least divisors (Some d) p lt are is h = divisor_of processors plan place least d divisors p lt are is h

-- the same, where the task is told as it was read
pub least_at : (processors : ℕ) (plan : Plan) (place free quotient least : ℕ) (t : Slotted) → IsPlan plan → place < length plan.tasks.items
    → free ≡ room_beside processors plan place → 1 ≤ free → t ≡ get_or plan.tasks.items place t → quotient ≡ div_ceil (t.cost * plan.base) free
    → least ≡ max quotient t.cost → IsLeastPeriod processors plan place least
least_at processors plan place free quotient least t p lt is some read q e =
    let same : t ≡ task_at plan place = read ∙ get_or_default plan.tasks.items place t no_task lt in
    least_of processors plan place free t.cost least p lt is some (ap (λ (s : Slotted). s.cost) same) (e ∙ ap (λ v. max v t.cost) q)

pub cost_within : (plan : Plan) (place : ℕ) (t : Slotted) → IsPlan plan → place < length plan.tasks.items → t ≡ get_or plan.tasks.items place t
    → t.cost * plan.base ≤ 1152921504606846976
cost_within plan place t p lt read =
    let in' : IsInLoad plan t = subst (IsInLoad plan) (sym read) (task_units plan place t p lt) in
    let cost : t.cost ≤ 1073741824 = omega (arith, in'.part.slotted.within, in'.part.within, p.within) in
    omega (arith, mul-le-mul {n₁ = t.cost} {m₁ = plan.base} {n₂ = 1073741824} {m₂ = 1073741824} cost (omega (arith, p.within)))
