-- The events in force after the slots below t: by the whole record or by that of those slots, they begin those that are
-- in force at the end.
use Rattle.std.proofs.Common.{◌≡◌, ℕ, zero, suc, ◌<◌, ◌≤◌, ◌==◌, true, false, not, cond, ◌||◌, List, [], ◌∷◌, ◌++◌, length, take, get_or, All, arith, refl, ap, ap₂, sym, ◌∙◌, subst, ⊎_elim, append_assoc, append-nil}
use Rattle.std.specs.List.{list_any}
use Rattle.std.proofs.Math.Bool.{or-false}
use Rattle.std.proofs.lemmas.Bool.{cases_lt, or_left, or_right, eq-eqb}
use Rattle.std.proofs.lemmas.List.{take-append-le, take_all}
use Rattle.std.proofs.lemmas.List.Folds.{list_any-append}
use Rattle.std.proofs.lemmas.List.Elements.{All-filter, All-append, All-nil, Contains-get_or}
use Rattle.pf_scenario.specs.Event.{slot_of}
use Rattle.pf_scenario.specs.Scenario.{Plan, is_held, events_of, past}
use Rattle.pf_scenario.specs.Edit.{IsScenario}
use Rattle.pf_scenario.specs.declared.event.Numbered.{Numbered}
use Rattle.pf_run.specs.declared.denied.Denied.{Denied}
use Rattle.pf_run.specs.Record.{Slot, denials_of, is_denied, in_force}
use Rattle.pf_run.specs.Run.{events_in_force, IsNextSlot, IsRun}
use Rattle.pf_run.proofs.Joins.{past_below}
use Rattle.pf_run.proofs.Plans.{slots_of_events}
use Rattle.pf_run.proofs.Judged.{along_run, length_snoc, denials_of_snoc, failing_within, slot_comes_after}
use Rattle.pf_tally.proofs.InForce.{in_force-append}

-- those in force at n begin with those at t
pub record Splits (s : Plan) (r : List Slot) (t n : ℕ) : Type 0 where
  pub rest : List Numbered
  pub is : events_in_force s r n ≡ events_in_force s r t ++ rest
  pub later : All (λ x. t ≤ slot_of x.event) rest

pub in_force_all : (P : Numbered → Type 0) (denials : List Denied) (xs : List Numbered) → All P xs → All P (in_force denials xs)
unfolding in_force
in_force_all P denials xs all = All-filter (λ x. not (is_denied denials x)) P xs all

pub standing_below : (s : Plan) (q : List Slot) (t : ℕ) → All (λ x. slot_of x.event < t) (events_in_force s q t)
standing_below s q t =
    in_force_all (λ x. slot_of x.event < t) (denials_of q) (past s t)
    (λ k d lt. past_below s t (get_or (past s t) k d) (Contains-get_or (past s t) k d lt))

pub splits : (s : Plan) (r : List Slot) (t n : ℕ) → t ≤ n → Splits s r t n
splits s r zero zero le = record { rest = []; is = sym (append-nil (events_in_force s r 0)); later = All-nil (λ x. 0 ≤ slot_of x.event) }
splits s r (suc t) zero le = absurd (omega (arith, le))
splits s r t (suc n) le = ⊎_elim
    (λ (below : n < t).
    let same : t ≡ suc n = omega (arith, below, le) in
    record {
      rest = [];
      is = ap (λ m. events_in_force s r m) (sym same) ∙ sym (append-nil (events_in_force s r t));
      later = All-nil (λ x. t ≤ slot_of x.event);
    })
    (λ (within : t ≤ n).
    let before = splits s r t n within in
    let more = in_force (denials_of r) (events_of s n) in
    let of_slot : All (λ x. t ≤ slot_of x.event) more =
    in_force_all (λ x. t ≤ slot_of x.event) (denials_of r) (events_of s n)
    (λ k d lt. omega (arith, slots_of_events s n k d lt, within)) in
    record {
      rest = before.rest ++ more;
      is = in_force-append (denials_of r) (past s n) (events_of s n)
          ∙ ap (λ xs. xs ++ more) before.is
          ∙ append_assoc (events_in_force s r t) before.rest more;
      later = All-append (λ x. t ≤ slot_of x.event) before.rest more before.later of_slot;
    })
    (cases_lt n t)

-- denials of other numbers leave what is in force as it is
in_force-more : (old new : List Denied) (xs : List Numbered) →
    ((id : ℕ) → is_held xs id ≡ true → list_any (λ (d : Denied). d.id == id) new ≡ false) →
    in_force (old ++ new) xs ≡ in_force old xs
unfolding in_force
in_force-more old new [] others = refl
in_force-more old new (x ∷ xs) others =
    ap₂ (λ b zs. cond (not b) (x ∷ zs) zs)
    (list_any-append (λ (d : Denied). d.id == x.id) old new
    ∙ ap (λ b. is_denied old x || b) (others x.id (or_left _ _ (eq-eqb x.id x.id refl)))
    ∙ or-false (is_denied old x))
    (in_force-more old new xs (λ id held. others id (or_right _ _ held)))

held_past : (s : Plan) (t n id : ℕ) → t ≤ n → is_held (past s t) id ≡ true → is_held (past s n) id ≡ true
held_past s zero zero id le held = held
held_past s (suc t) zero id le held = absurd (omega (arith, le))
held_past s t (suc n) id le held = ⊎_elim
    (λ (below : n < t).
    let same : t ≡ suc n = omega (arith, below, le) in subst (λ m. is_held (past s m) id ≡ true) same held)
    (λ (within : t ≤ n).
    list_any-append (λ x. x.id == id) (past s n) (events_of s n)
    ∙ or_left _ _ (held_past s t n id within held))
    (cases_lt n t)

-- the denials of later slots are of other events
pub standing-more : (s : Plan) (q : List Slot) (d : Slot) (t : ℕ) → IsScenario s → IsRun s (length q) q →
    IsNextSlot s q d → t ≤ length q → events_in_force s (q ++ d ∷ []) t ≡ events_in_force s q t
standing-more s q d t scenario run next le =
    ap (λ ds. in_force ds (past s t)) (denials_of_snoc q d)
    ∙ in_force-more (denials_of q) d.denials (past s t)
    (λ id held.
    ap (λ ds. list_any (λ (e : Denied). e.id == id) ds) next.denials
    ∙ failing_within s.settings q (denials_of (q ++ d ∷ [])) (past s (length q)) (events_of s (length q)) id
    ((slot_comes_after s q scenario run).across id (held_past s t (length q) id le held)))

-- so the record of the slots below t tells what is in force after them
pub standing-take : (s : Plan) (n : ℕ) (r : List Slot) → IsScenario s → IsRun s n r → (t : ℕ) → t ≤ length r →
    events_in_force s r t ≡ events_in_force s (take t r) t
standing-take s n r scenario run =
    along_run s (λ q. (t : ℕ) → t ≤ length q → events_in_force s q t ≡ events_in_force s (take t q) t) none more n r run where
      none : (t : ℕ) → t ≤ 0 → events_in_force s [] t ≡ events_in_force s (take t []) t
      none zero le = refl
      none (suc t) le = refl

      more : (q : List Slot) (d : Slot) → IsRun s (length q) q → IsNextSlot s q d →
          ((t : ℕ) → t ≤ length q → events_in_force s q t ≡ events_in_force s (take t q) t) →
          (t : ℕ) → t ≤ length (q ++ d ∷ []) → events_in_force s (q ++ d ∷ []) t ≡ events_in_force s (take t (q ++ d ∷ [])) t
      more q d run next before t le = ⊎_elim
          (λ (past : length q < t).
          ap (λ z. events_in_force s z t) (sym (take_all t (q ++ d ∷ []) (omega (arith, past, length_snoc q d)))))
          (λ (within : t ≤ length q).
          standing-more s q d t scenario run next within
          ∙ before t within
          ∙ ap (λ z. events_in_force s z t) (sym (take-append-le t q (d ∷ []) within)))
          (cases_lt (length q) t)
