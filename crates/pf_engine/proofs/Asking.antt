-- What taking one event asks of the members inside.
use Rattle.std.proofs.Common.{◌≡◌, ℕ, ◌≤◌, Bool, true, false, ◌==◌, cond, Option, Some, None, List, [], ◌∷◌, find, All, option_map, refl, ap, subst, arith}
use Rattle.std.proofs.lemmas.List.Elements.{All-head, All-tail}
use Rattle.pf_admit.specs.Member.{IsMember}
use Rattle.pf_admit.specs.declared.member.Member.{Member}
use Rattle.pf_engine.specs.Fits.{KeptTask, Kept}
use Rattle.pf_engine.specs.Kept.{member_in, units_of}
use Rattle.pf_engine.specs.Engines.{IsInside, IsEngine}
use Rattle.pf_run.proofs.Counting.{found, sum_without}

-- a member that is found
member_cond : (b : Bool) (k : KeptTask) (o : Option KeptTask) (m : Member) → IsInside k →
    (option_map (λ (q : KeptTask). q.member) o ≡ Some m → IsMember m) →
    option_map (λ (q : KeptTask). q.member) (cond b (Some k) o) ≡ Some m → IsMember m
member_cond true k o m first rest e = let same : k.member ≡ m = cc in subst IsMember same first.member
member_cond false k o m first rest e = rest e

pub member_among : (tasks : List KeptTask) (task : ℕ) (m : Member) → All IsInside tasks → member_in tasks task ≡ Some m → IsMember m
member_among [] task m all e = cc
member_among (k ∷ ks) task m all e =
    member_cond (k.task == task) k (find (λ q. q.task == task) ks) m (All-head IsInside k ks all)
    (member_among ks task m (All-tail IsInside k ks all)) e

pub is_member : (e : Kept) (task : ℕ) (m : Member) → IsEngine e → member_in e.tasks task ≡ Some m → IsMember m
is_member e task m engine found = member_among e.tasks task m engine.tasks found

-- its units are part of the load
units_member : (o : Option KeptTask) → units_of (option_map (λ (k : KeptTask). k.member) o) ≡ found (λ (k : KeptTask). k.member.weight.units) o
units_member None = refl
units_member (Some k) = refl

pub units_in_load : (e : Kept) (task : ℕ) (m : Member) → IsEngine e → member_in e.tasks task ≡ Some m → m.weight.units ≤ e.load
units_in_load e task m engine is =
    omega (
      arith,
      engine.load,
      units_member (find (λ k. k.task == task) e.tasks),
      sum_without (λ (k : KeptTask). k.task == task) (λ k. k.member.weight.units) e.tasks (engine.apart task),
      ap units_of is,
    )
