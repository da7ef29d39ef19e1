-- What is known of some quanta, in another order, and one of it taken.
use Rattle.std.proofs.Common.{◌≡◌, ℕ, List, [], ◌∷◌, get_or, sym, ap, subst}
use Rattle.std.specs.Prelude.{All, slice_index}
use Rattle.std.specs.List.Sorted.{IsPermutation}
use Rattle.std.proofs.lemmas.List.Sorted.{All-permutation}
use Rattle.pf_convert.specs.declared.plan_fault.PlanFault.{PlanFault}
use Rattle.pf_convert.specs.declared.quantum.Quantum.{Quantum}
use Rattle.pf_convert.specs.declared.slotted.Slotted.{Slotted}
use Rattle.pf_convert.specs.declared.terms.Terms.{Terms}
use Rattle.pf_convert.specs.declared.list.listed.Listed.{Listed}
use Rattle.pf_convert.specs.declared.conversion.planned.Planned.{Planned}
use Rattle.pf_convert.specs.Conversion.Planned.{HoldsPlan, IsPlannedAt, IsPlannedWith}
use Rattle.pf_convert.specs.Conversion.Slots.{slot_faults, slots_in}
use Rattle.pf_convert.specs.Conversion.Series.{ArePlanned, HoldAll, IsPlannedUnder, quantum_of}

-- those that are known are known in another order
pub reversed : (terms : Terms) (tasks : List Listed) (xs ys : List Planned) → IsPermutation xs ys → All (IsPlannedUnder terms tasks) xs → All (IsPlannedUnder terms tasks) ys
reversed terms tasks xs ys moved all = All-permutation (IsPlannedUnder terms tasks) xs ys moved all

quantum_with : (q : Quantum) (slots : List Slotted) (faults : List PlanFault) (p : Planned) → IsPlannedWith q slots faults p → p.quantum ≡ q
quantum_with q slots [] p h = h.quantum
quantum_with q slots (fault ∷ faults) p h = h.quantum

-- what a quantum gives tells which quantum it is
own_quantum : (terms : Terms) (tasks : List Listed) (q : Quantum) (p : Planned) → IsPlannedAt q terms.arrivals tasks p → p.quantum ≡ q
own_quantum terms tasks q p h = quantum_with q (slots_in q terms.arrivals tasks) (slot_faults q terms.arrivals tasks) p h

under : (terms : Terms) (tasks : List Listed) (length : ℕ) (p : Planned) → IsPlannedAt (quantum_of terms.switch length) terms.arrivals tasks p
    → HoldsPlan p.plan → IsPlannedUnder terms tasks p
under terms tasks length p h holds =
    let same : p.quantum ≡ quantum_of terms.switch length = own_quantum terms tasks (quantum_of terms.switch length) p h in
    record {
      switch = ap (λ (q : Quantum). q.switch) same;
      planned = subst (λ q. IsPlannedAt q terms.arrivals tasks p) (sym same) h;
      holds = holds;
    }

-- what was planned may be taken as known
pub all_known : (terms : Terms) (tasks : List Listed) (quanta : List ℕ) (all : List Planned) → ArePlanned terms tasks quanta all → HoldAll all
    → All (IsPlannedUnder terms tasks) all
all_known terms tasks quanta all h holds = λ k d lt. under terms tasks (slice_index quanta k) (get_or all k d) (h.each k d lt) (holds k d lt)

-- a known one of this length is what the quantum of this length gives
pub known_at : (terms : Terms) (tasks : List Listed) (length : ℕ) (p : Planned) → IsPlannedUnder terms tasks p → p.quantum.length ≡ length
    → IsPlannedAt (quantum_of terms.switch length) terms.arrivals tasks p
known_at terms tasks length p h long =
    subst (λ n. IsPlannedAt (quantum_of terms.switch n) terms.arrivals tasks p) long
    (subst (λ n. IsPlannedAt (quantum_of n p.quantum.length) terms.arrivals tasks p) h.switch h.planned)
