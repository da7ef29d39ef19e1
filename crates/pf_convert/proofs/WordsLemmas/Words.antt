-- Words that commas join, byte by byte, and quanta, one by one.
use Rattle.std.proofs.Common.{◌≡◌, ℕ, ◌+◌, ◌<◌, ◌≤◌, ◌∙◌, true, false, List, drop, length, get_or, None, Some, ap}
use Rattle.std.specs.Prelude.{if◌then◌else◌}
use Rattle.std.proofs.lemmas.Bool.{eq-eqb, ne_eqb, le-leb, lt-leb}
use Rattle.std.proofs.lemmas.List.{at_drop_more, at_drop_all}
use Rattle.pf_convert.specs.Words.Reading.{first_not_above, has_quantum}

pub quantum_met : (quanta : List ℕ) (i quantum : ℕ) → i < length quanta → get_or quanta i 0 ≡ quantum → has_quantum quantum (drop i quanta) ≡ true
unfolding has_quantum
quantum_met quanta i quantum lt same =
    at_drop_more (has_quantum quantum) quanta i 0 lt
    ∙ ap (λ b. if b then true else has_quantum quantum (drop (i + 1) quanta)) (eq-eqb (get_or quanta i 0) quantum same)

pub quantum_passed : (quanta : List ℕ) (i quantum : ℕ) → i < length quanta → (get_or quanta i 0 ≡ quantum → ⊥)
    → has_quantum quantum (drop i quanta) ≡ has_quantum quantum (drop (i + 1) quanta)
unfolding has_quantum
quantum_passed quanta i quantum lt other =
    at_drop_more (has_quantum quantum) quanta i 0 lt
    ∙ ap (λ b. if b then true else has_quantum quantum (drop (i + 1) quanta)) (ne_eqb (get_or quanta i 0) quantum other)

pub none_met : (quanta : List ℕ) (i quantum : ℕ) → length quanta ≤ i → has_quantum quantum (drop i quanta) ≡ false
unfolding has_quantum
none_met quanta i quantum le = at_drop_all (has_quantum quantum) quanta i le

pub not_above : (quanta : List ℕ) (i switch : ℕ) → i < length quanta → get_or quanta i 0 ≤ switch
    → first_not_above switch (drop i quanta) ≡ Some (get_or quanta i 0)
unfolding first_not_above
not_above quanta i switch lt le =
    at_drop_more (first_not_above switch) quanta i 0 lt
    ∙ ap (λ b. if b then Some (get_or quanta i 0) else first_not_above switch (drop (i + 1) quanta)) (le-leb (get_or quanta i 0) switch le)

pub above_passed : (quanta : List ℕ) (i switch : ℕ) → i < length quanta → switch < get_or quanta i 0
    → first_not_above switch (drop i quanta) ≡ first_not_above switch (drop (i + 1) quanta)
unfolding first_not_above
above_passed quanta i switch lt above =
    at_drop_more (first_not_above switch) quanta i 0 lt
    ∙ ap (λ b. if b then Some (get_or quanta i 0) else first_not_above switch (drop (i + 1) quanta)) (lt-leb (get_or quanta i 0) switch above)

pub all_above : (quanta : List ℕ) (i switch : ℕ) → length quanta ≤ i → first_not_above switch (drop i quanta) ≡ None
unfolding first_not_above
all_above quanta i switch le = at_drop_all (first_not_above switch) quanta i le
