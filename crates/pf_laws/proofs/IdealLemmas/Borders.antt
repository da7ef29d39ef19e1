-- Every border is sound.
use Rattle.std.proofs.Common.{◌≡◌, ℕ, zero, suc, ◌+◌, ◌-◌, ◌<◌, ◌≤◌, ◌==◌, ◌⊎◌, true, false, ◌&&◌, ◌||◌, arith, inl, inr, refl, ap, sym, subst, ⊎_elim}
use Rattle.std.specs.List.{list_any}
use Rattle.std.proofs.lemmas.Bool.{cases_Bool, or_cases, or_left, or_right, and_parts, and_from, leb-true, le-leb, eqb-true, eq-eqb, cond-true, cond-false}
use Rattle.pf_laws.specs.Ideal.Schedule.{Schedule, IsByReach}
use Rattle.pf_laws.proofs.IdealLemmas.Sums.{list_any-found, list_any-at}
use Rattle.pf_laws.proofs.IdealLemmas.Quanta.{done-runs, done-next, done-rises}
use Rattle.pf_laws.proofs.IdealLemmas.Overdue.{overdue_is}
use Rattle.pf_laws.proofs.IdealLemmas.Border.{Border, is_pick, is_full, crosses, is_chosen, border_before, border_back, border_at}
use Rattle.pf_laws.proofs.IdealLemmas.Holes.{IsSound, not_next}

module _ (s : Schedule) (ok : IsByReach s) where
  end_sound : IsSound s s.end (border_back s 0)
  unfolding border_back
  end_sound = record {
    within = λ t i h. leb-true (s.deadline t i) s.end h;
    closed = λ t i u j less h.
        le-leb (s.deadline t i) s.end (omega (arith, ok.order.deadline t i u j less, leb-true (s.deadline u j) s.end h));
    behind = λ t i h. (overdue_is s t i h).2;
    due = λ t i h. (overdue_is s t i h).1;
    lives = λ t i h. inr h;
    waits = λ t i h next early. le-leb (s.deadline t i) s.end (overdue_is s t i h).1;
  }

  -- the border before the slot v from the one after it
  module _ (v : ℕ) (b : Border) (sound : IsSound s (suc v) b) (below : v < s.end) where
    -- the key comes no later than one that is chosen in the slot
    unfoldable pub IsUnder : ℕ → ℕ → Type 0
    IsUnder t i = (u : ℕ) × (is_chosen s v b u ≡ true) × (s.no_later t i u (s.done u v) ≡ true)

    pub chosen_is_pick : (t : ℕ) → is_chosen s v b t ≡ true → is_pick s v b t ≡ true
    chosen_is_pick t h = (and_parts (is_pick s v b t) (is_full s v b || crosses s v b t) h).0

    pub chosen_runs : (t : ℕ) → is_chosen s v b t ≡ true → s.runs t v ≡ true
    chosen_runs t h = (and_parts (s.runs t v) (b.bound t (s.done t v)) (chosen_is_pick t h)).0

    pub chosen_bounded : (t : ℕ) → is_chosen s v b t ≡ true → b.bound t (s.done t v) ≡ true
    chosen_bounded t h = (and_parts (s.runs t v) (b.bound t (s.done t v)) (chosen_is_pick t h)).1

    chosen_ran : (t : ℕ) → is_chosen s v b t ≡ true → s.done t v < s.done t s.end
    chosen_ran t h = omega (arith, done-runs s ok t v (chosen_runs t h), done-rises s ok t (suc v) s.end (omega (arith, below)))

    -- the bound before a hole, and before a full slot

    pub under_hole : (t i : ℕ) → is_full s v b ≡ false → (border_before s v b).bound t i ≡ true → IsUnder t i
    unfolding IsUnder
    under_hole t i hole h =
        let test = λ (u : ℕ). is_chosen s v b u && s.no_later t i u (s.done u v) in
        let is : (border_before s v b).bound t i ≡ list_any test s.tasks =
        cond-false (is_full s v b) (b.bound t i) (list_any test s.tasks) hole in
        let it = list_any-found test s.tasks (subst (λ x. x ≡ true) is h) in
        let both = and_parts (is_chosen s v b it.0) (s.no_later t i it.0 (s.done it.0 v)) it.1 in
        (it.0, both.0, both.1)

    hole_under : (t i : ℕ) → is_full s v b ≡ false → IsUnder t i → (border_before s v b).bound t i ≡ true
    unfolding IsUnder
    hole_under t i hole h =
        let test = λ (u : ℕ). is_chosen s v b u && s.no_later t i u (s.done u v) in
        let is : (border_before s v b).bound t i ≡ list_any test s.tasks =
        cond-false (is_full s v b) (b.bound t i) (list_any test s.tasks) hole in
        subst (λ x. x ≡ true) (sym is)
        (list_any-at test h.0 s.tasks (ok.choice.known h.0 v below (chosen_runs h.0 h.1))
        (and_from (is_chosen s v b h.0) (s.no_later t i h.0 (s.done h.0 v)) h.1 h.2))

    full_bound : (t i : ℕ) → is_full s v b ≡ true → (border_before s v b).bound t i ≡ b.bound t i
    full_bound t i full =
        cond-true (is_full s v b) (b.bound t i)
        (list_any (λ u. is_chosen s v b u && s.no_later t i u (s.done u v)) s.tasks) full

    -- the members before the slot are those after it and those that are chosen in it

    pub member_before : (t i : ℕ) → (border_before s v b).member t i ≡ true →
        (b.member t i ≡ true) ⊎ ((is_chosen s v b t ≡ true) × (i ≡ s.done t v))
    member_before t i h = ⊎_elim (λ m. inl m)
        (λ both.
        let parts = and_parts (is_chosen s v b t) (i == s.done t v) both in
        inr (parts.0, eqb-true i (s.done t v) parts.1))
        (or_cases (b.member t i) (is_chosen s v b t && (i == s.done t v)) h)

    pub member_stays : (t i : ℕ) → b.member t i ≡ true → (border_before s v b).member t i ≡ true
    member_stays t i m = or_left (b.member t i) (is_chosen s v b t && (i == s.done t v)) m

    pub chosen_is_member : (t : ℕ) → is_chosen s v b t ≡ true → (border_before s v b).member t (s.done t v) ≡ true
    chosen_is_member t chosen =
        or_right (b.member t (s.done t v)) (is_chosen s v b t && (s.done t v == s.done t v))
        (and_from (is_chosen s v b t) (s.done t v == s.done t v) chosen (eq-eqb (s.done t v) (s.done t v) refl))

    -- the bound does not rise on the way back
    pub bound_behind : (t i : ℕ) → (border_before s v b).bound t i ≡ true → b.bound t i ≡ true
    unfolding IsUnder
    bound_behind t i h = ⊎_elim
        (λ (full : is_full s v b ≡ true). subst (λ x. x ≡ true) (full_bound t i full) h)
        (λ (hole : is_full s v b ≡ false).
        let it = under_hole t i hole h in
        sound.closed t i it.0 (s.done it.0 v) it.2 (chosen_bounded it.0 it.1))
        (cases_Bool (is_full s v b))

    before_closed : (t i u j : ℕ) → s.no_later t i u j ≡ true → (border_before s v b).bound u j ≡ true →
        (border_before s v b).bound t i ≡ true
    unfolding IsUnder
    before_closed t i u j less h = ⊎_elim
        (λ (full : is_full s v b ≡ true).
        subst (λ x. x ≡ true) (sym (full_bound t i full))
        (sound.closed t i u j less (subst (λ x. x ≡ true) (full_bound u j full) h)))
        (λ (hole : is_full s v b ≡ false).
        let it = under_hole u j hole h in
        hole_under t i hole (it.0, it.1, ok.order.transitive t i u j it.0 (s.done it.0 v) less it.2))
        (cases_Bool (is_full s v b))

    before_waits : (t i : ℕ) → (border_before s v b).member t i ≡ true → s.done t v ≡ i → s.release t i < v →
        (border_before s v b).bound t i ≡ true
    unfolding IsUnder
    before_waits t i h next early = ⊎_elim member chosen (member_before t i h) where
      member : b.member t i ≡ true → (border_before s v b).bound t i ≡ true
      member m =
          let still : s.done t (suc v) ≡ i = omega (arith, sound.behind t i m, done-next s ok t v, next) in
          let bounded : b.bound t i ≡ true = sound.waits t i m still (omega (arith, early)) in
          ⊎_elim (λ (full : is_full s v b ≡ true). subst (λ x. x ≡ true) (sym (full_bound t i full)) bounded)
          (λ (hole : is_full s v b ≡ false).
          absurd (not_next s ok t i v b sound below hole m (omega (arith, early)) bounded next))
          (cases_Bool (is_full s v b))

      chosen : (is_chosen s v b t ≡ true) × (i ≡ s.done t v) → (border_before s v b).bound t i ≡ true
      chosen it = ⊎_elim
          (λ (full : is_full s v b ≡ true).
          subst (λ x. x ≡ true) (sym (full_bound t i full))
          (subst (λ x. b.bound t x ≡ true) (sym it.1) (chosen_bounded t it.0)))
          (λ (hole : is_full s v b ≡ false).
          let itself = subst (λ x. s.no_later t x t (s.done t v) ≡ true) (sym it.1) (ok.order.itself t (s.done t v)) in
          hole_under t i hole (t, it.0, itself))
          (cases_Bool (is_full s v b))

    before_sound : IsSound s v (border_before s v b)
    before_sound = record {
      within = λ t i h. sound.within t i (bound_behind t i h);
      closed = before_closed;
      behind = λ t i h.
          ⊎_elim (λ m. omega (arith, sound.behind t i m, done-next s ok t v)) (λ it. omega (arith, it.1)) (member_before t i h);
      due = λ t i h.
          ⊎_elim (λ m. sound.due t i m)
          (λ it. sound.within t i (subst (λ x. b.bound t x ≡ true) (sym it.1) (chosen_bounded t it.0))) (member_before t i h);
      lives = λ t i h.
          ⊎_elim (λ m. sound.lives t i m) (λ it. inl (omega (arith, it.1, chosen_ran t it.0))) (member_before t i h);
      waits = before_waits;
    }

  back_sound : (n v : ℕ) → v + n ≡ s.end → IsSound s v (border_back s n)
  unfolding border_back
  back_sound zero v sum = subst (λ x. IsSound s x (border_back s 0)) (omega (arith, sum)) end_sound
  back_sound (suc n) v sum =
      let here : s.end - suc n ≡ v = omega (arith, sum) in
      subst (λ x. IsSound s v (border_before s x (border_back s n))) (sym here)
      (before_sound v (border_back s n) (back_sound n (suc v) (omega (arith, sum))) (omega (arith, sum)))

  pub border_sound : (v : ℕ) → v ≤ s.end → IsSound s v (border_at s v)
  border_sound v le = back_sound (s.end - v) v (omega (arith, le))

  pub border_at-before : (v : ℕ) → v < s.end → border_at s v ≡ border_before s v (border_at s (suc v))
  unfolding border_back
  border_at-before v lt =
      let more : s.end - v ≡ suc (s.end - suc v) = omega (arith, lt) in
      let here : s.end - suc (s.end - suc v) ≡ v = omega (arith, lt) in
      subst (λ n. border_back s n ≡ border_before s v (border_back s (s.end - suc v))) (sym more)
      (ap (λ x. border_before s x (border_back s (s.end - suc v))) here)
