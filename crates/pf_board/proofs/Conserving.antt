-- Quanta are conserved.
use Rattle.std.proofs.Common.{◌≡◌, ℕ, zero, suc, ◌+◌, ◌<◌, ◌≤◌, Bool, true, false, List, [], ◌∷◌, ◌++◌, length, refl, sym, ap, subst, ◌∙◌, inl, inr, arith, append_assoc, length-append}
use Rattle.std.specs.Prelude.{if◌then◌else◌, slice_set, replicate}
use Rattle.std.proofs.lemmas.List.{append-nil}
use mathlib.Core.List.{IsPrefix}
use mathlib.Core.Option.{some}
use lib.ListN.{get_elem?}
use Rattle.pf_board.specs.declared.quantum.Quantum.{Quantum}
use Rattle.pf_board.specs.Quanta.{one_if, is_same, weigh, times, issues, is_step, last_issues, IsOnceEach}
use Rattle.pf_board.specs.Machine.{Machine, Action, publish, enter, issue, take, times_in, opening, issued_by, issues_until, issues_before, IsIdle, Acts, Reaches, IsConserved, QuantaAreConserved}
use Rattle.pf_board.proofs.Sums.{total_set}
use Rattle.pf_board.proofs.Weights.{weigh-append, weigh_snoc, times_own, once_snoc, weigh_push, last_push, no_quanta}

none_in : (q : Quantum) (n : ℕ) → times_in q (replicate n []) ≡ 0
none_in q zero = refl
none_in q (suc n) = let t = none_in q n in omega arith

no_longer : {A : Type 0} (xs : List A) (x : A) → xs ≡ xs ++ x ∷ [] → ⊥
no_longer xs x e = let l = ap length e in let a = length-append xs (x ∷ []) in absurd (omega arith)

module _ {E : Type 0} where
  pub first_then : (a : Action E) (actions : List (Action E)) → issued_by (a ∷ []) ++ issued_by actions ≡ issued_by (a ∷ actions)
  first_then (publish x) actions = refl
  first_then enter actions = refl
  first_then (issue q) actions = refl
  first_then (take p pass) actions = refl

module _ {E : Type 0} (quanta : E → List Quantum) (steps : E → Bool) where
  until_push : (all old : List Quantum) (xs : List (ℕ × E)) (x : ℕ × E) → issues_until quanta steps all old (xs ++ x ∷ []) ≡ (if is_step quanta steps x.1 then all ++ issues quanta xs else issues_until quanta steps all old xs)
  until_push all old [] x = ap (λ (a : List Quantum). if is_step quanta steps x.1 then a else old) (sym (append-nil all))
  until_push all old (y ∷ xs) x =
      until_push (all ++ quanta y.1) (if is_step quanta steps y.1 then all else old) xs x
      ∙ ap (λ (a : List Quantum). if is_step quanta steps x.1 then a else issues_until quanta steps (all ++ quanta y.1) (if is_step quanta steps y.1 then all else old) xs) (append_assoc all (quanta y.1) (issues quanta xs))

  -- an entry more, with what it makes of the issues before the last step
  before_push : (q : Quantum) (log : List (ℕ × E)) (x : ℕ × E) (n : ℕ) → (is_step quanta steps x.1 ≡ true → times q (issues quanta log) ≤ n) → times q (issues_before quanta steps log) ≤ n → times q (issues_before quanta steps (log ++ x ∷ [])) ≤ n
  before_push q log x n step rest = by_step (is_step quanta steps x.1) refl where
    by_step : (b : Bool) → is_step quanta steps x.1 ≡ b → times q (issues_before quanta steps (log ++ x ∷ [])) ≤ n
    by_step true is = let p = ap (times q) (until_push [] [] log x) in let t = ap (λ (b : Bool). times q (if b then issues quanta log else issues_before quanta steps log)) is in let s = step is in omega arith
    by_step false is = let p = ap (times q) (until_push [] [] log x) in let t = ap (λ (b : Bool). times q (if b then issues quanta log else issues_before quanta steps log)) is in omega arith

  -- the last step's quanta are issues of the history
  last_among : (q : Quantum) (all : List Quantum) (xs : List (ℕ × E)) (sofar : List Quantum) → times q sofar ≤ times q all → times q (Rattle.pf_board.specs.Quanta.issues_after quanta steps sofar xs) ≤ times q all + times q (issues quanta xs)
  last_among q all [] sofar le = omega arith
  last_among q all (x ∷ xs) sofar le =
      let one : Quantum → ℕ = λ r. one_if (is_same q r) in
      let a = weigh-append one all (quanta x.1) in
      let i = weigh-append one (quanta x.1) (issues quanta xs) in
      let t = last_among q (all ++ quanta x.1) xs (if is_step quanta steps x.1 then quanta x.1 else sofar) (either_way (is_step quanta steps x.1)) in
      omega arith where
        either_way : (b : Bool) → times q (if b then quanta x.1 else sofar) ≤ times q (all ++ quanta x.1)
        either_way true = let a = weigh-append (λ r. one_if (is_same q r)) all (quanta x.1) in omega arith
        either_way false = let a = weigh-append (λ r. one_if (is_same q r)) all (quanta x.1) in omega arith

  module _ (legal : List (ℕ × E) → Type 0) where
    -- and while a step is published that isn't entered, the machine is idle
    record Inv (issued : List Quantum) (s : Machine E) : Type 0 where
      pub holds : IsConserved quanta steps legal issued s
      pub idle : (x : ℕ × E) → s.published ≡ s.history ++ x ∷ [] → is_step quanta steps x.1 ≡ true → IsIdle quanta steps s

    one : Quantum → Quantum → ℕ
    one q r = one_if (is_same q r)

    published_one : (issued : List Quantum) (s : Machine E) (x : ℕ × E) → Inv issued s → s.published ≡ s.history → (is_step quanta steps x.1 ≡ true → IsIdle quanta steps s) → Inv issued (record s { published = s.history ++ x ∷ [] })
    published_one issued s x i e ready = record {
      holds = record { issued_are = i.holds.issued_are; once = i.holds.once; of_history = i.holds.of_history; before = i.holds.before; published = inr (x, refl) };
      idle = λ y e' step. let r = ready (ap (λ (z : ℕ × E). is_step quanta steps z.1) (same_last s.history x y e') ∙ step) in record { empty = r.empty; all = r.all };
    } where
      same_last : (xs : List (ℕ × E)) (x y : ℕ × E) → xs ++ x ∷ [] ≡ xs ++ y ∷ [] → x ≡ y
      same_last [] x y e = cc
      same_last (z ∷ xs) x y e = same_last xs x y (cc)

    entered : (issued : List Quantum) (s : Machine E) (x : ℕ × E) → Inv issued s → s.published ≡ s.history ++ x ∷ [] → Inv issued (record s { history = s.history ++ x ∷ [] })
    entered issued s x i e = record {
      holds = record {
        issued_are = i.holds.issued_are;
        once = i.holds.once;
        of_history = λ q. let h = i.holds.of_history q in let p = weigh_push quanta steps (λ r. one_if (is_same q r)) s.history x in omega arith;
        before = λ q. before_push q s.history x (times_in q s.taken) (λ step. let d = i.idle x e step in let a = d.all q in let z = d.empty q in omega arith) (i.holds.before q);
        published = inl e;
      };
      idle = λ y e'. absurd (no_longer (s.history ++ x ∷ []) y (sym e ∙ e'));
    }

    issued_one : (issued : List Quantum) (s : Machine E) (q : Quantum) → Inv issued s → 0 < times q (last_issues quanta steps s.history) → times_in q s.words + times_in q s.taken ≡ 0 → get_elem? s.words q.processor ≡ some []
        → Inv (issued ++ q ∷ []) (record s { words = slice_set s.words q.processor (q ∷ []) })
    issued_one issued s q i there fresh at =
        let words = slice_set s.words q.processor (q ∷ []) in
        let moved : (r : Quantum) → times_in r words ≡ times_in r s.words + one_if (is_same r q) = λ r. let t = total_set (times r) s.words q.processor [] (q ∷ []) at in omega arith in
        let among : times q (last_issues quanta steps s.history) ≤ times q (issues quanta s.history) = let t = last_among q [] s.history [] (omega arith) in omega arith in
        let none : times q issued ≡ 0 = i.holds.issued_are q ∙ fresh in
        record {
          holds = record {
            issued_are = λ r. let m = moved r in let e = i.holds.issued_are r in let w = weigh_snoc (λ x. one_if (is_same r x)) issued q in omega arith;
            once = once_snoc q issued none i.holds.once;
            of_history = λ r. more r (is_same r q) refl;
            before = i.holds.before;
            published = i.holds.published;
          };
          idle = λ x e step. let d = i.idle x e step in let a = d.all q in absurd (omega arith);
        } where
          more : (r : Quantum) (b : Bool) → is_same r q ≡ b → times r (issued ++ q ∷ []) ≤ times r (issues quanta s.history)
          more r true is =
              let same = Rattle.pf_board.proofs.Weights.same_quantum r q is in
              let t = last_among q [] s.history [] (omega arith) in
              let o = times_own q issued in
              let n = i.holds.issued_are q in
              let e = ap (λ (x : Quantum). times x (issued ++ q ∷ [])) same in
              let d = ap (λ (x : Quantum). times x (issues quanta s.history)) same in
              omega arith
          more r false is = let h = i.holds.of_history r in let w = weigh_snoc (λ x. one_if (is_same r x)) issued q in let z = ap one_if is in omega arith

    took_one : (issued : List Quantum) (s : Machine E) (p pass : ℕ) (q : Quantum) (before : List Quantum) → Inv issued s → get_elem? s.words p ≡ some (q ∷ []) → get_elem? s.taken pass ≡ some before
        → Inv issued (record s { words = slice_set s.words p []; taken = slice_set s.taken pass (before ++ q ∷ []) })
    took_one issued s p pass q before i at there =
        let words : (r : Quantum) → times_in r (slice_set s.words p []) + one_if (is_same r q) ≡ times_in r s.words = λ r. let t = total_set (times r) s.words p (q ∷ []) [] at in omega arith in
        let taken : (r : Quantum) → times_in r (slice_set s.taken pass (before ++ q ∷ [])) ≡ times_in r s.taken + one_if (is_same r q) = λ r. let t = total_set (times r) s.taken pass before (before ++ q ∷ []) there in let w = weigh_snoc (λ x. one_if (is_same r x)) before q in omega arith in
        record {
          holds = record {
            issued_are = λ r. let e = i.holds.issued_are r in let w = words r in let t = taken r in omega arith;
            once = i.holds.once;
            of_history = i.holds.of_history;
            before = λ r. let e = i.holds.before r in let t = taken r in omega arith;
            published = i.holds.published;
          };
          idle = λ x e step. let d = i.idle x e step in record { empty = λ r. let z = d.empty r in let w = words r in omega arith; all = λ r. let a = d.all r in let w = words r in let t = taken r in omega arith };
        }

    acts : (issued : List Quantum) (s : Machine E) (a : Action E) (t : Machine E) → Inv issued s → Acts quanta steps legal s a t → Inv (issued ++ issued_by (a ∷ [])) t
    acts issued s (publish x) t i d = subst (λ (u : Machine E). Inv (issued ++ []) u) (sym d.3) (subst (λ l. Inv l (record s { published = s.history ++ x ∷ [] })) (sym (append-nil issued)) (published_one issued s x i d.0 d.2))
    acts issued s enter t i d = subst (λ (u : Machine E). Inv (issued ++ []) u) (sym d.2) (subst (λ l. Inv l (record s { history = s.history ++ d.0 ∷ [] })) (sym (append-nil issued)) (entered issued s d.0 i d.1))
    acts issued s (issue q) t i d = subst (λ (u : Machine E). Inv (issued ++ q ∷ []) u) (sym d.3) (issued_one issued s q i d.0 d.1 d.2)
    acts issued s (take p pass) t i d =
        subst (λ (u : Machine E). Inv (issued ++ []) u) (sym d.4)
        (subst (λ l. Inv l (record s { words = slice_set s.words p []; taken = slice_set s.taken pass (d.1 ++ d.0 ∷ []) })) (sym (append-nil issued)) (took_one issued s p pass d.0 d.1 i d.2 d.3))

    reach : (issued : List Quantum) (s : Machine E) (actions : List (Action E)) (t : Machine E) → Inv issued s → Reaches quanta steps legal s actions t → Inv (issued ++ issued_by actions) t
    reach issued s [] t i e = subst (λ (u : Machine E). Inv (issued ++ []) u) e (subst (λ l. Inv l s) (sym (append-nil issued)) i)
    reach issued s (a ∷ actions) t i r =
        subst (λ l. Inv l t) (append_assoc issued (issued_by (a ∷ [])) (issued_by actions) ∙ ap (λ l. issued ++ l) (first_then a actions))
        (reach (issued ++ issued_by (a ∷ [])) r.0 actions t (acts issued s a r.0 i r.1) r.2)

    starts : (processors passes : ℕ) → Inv [] (opening processors passes)
    starts processors passes = record {
      holds = record { issued_are = λ q. let a = none_in q processors in let b = none_in q passes in omega arith; once = λ q. omega arith; of_history = λ q. omega arith; before = λ q. let b = none_in q passes in omega arith; published = inl refl };
      idle = λ x e step. absurd (cc (e));
    }

    longer : (s : Machine E) (a : Action E) (t : Machine E) → Acts quanta steps legal s a t → IsPrefix s.published t.published
    longer s (publish x) t d = (x ∷ [], ap (λ l. l ++ x ∷ []) d.0 ∙ sym (ap (λ (u : Machine E). u.published) d.3))
    longer s enter t d = ([], append-nil s.published ∙ sym (ap (λ (u : Machine E). u.published) d.2))
    longer s (issue q) t d = ([], append-nil s.published ∙ sym (ap (λ (u : Machine E). u.published) d.3))
    longer s (take p pass) t d = ([], append-nil s.published ∙ sym (ap (λ (u : Machine E). u.published) d.4))

    pub quanta_conserved : QuantaAreConserved quanta steps legal
    quanta_conserved = record {
      conserved = λ processors passes actions t r. (reach [] (opening processors passes) actions t (starts processors passes) r).holds;
      grows = longer;
    }
