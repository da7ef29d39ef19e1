-- The names of heaps, and the lists that entries name.
use Rattle.std.proofs.Common.{◌≡◌, ◌≢◌, ℕ, zero, suc, ◌+◌, ◌<◌, ◌≤◌, cond, eqb, List, [], ◌∷◌, ◌++◌, length, get_or, set, take, drop, refl, ap, arith, ⊎_elim}
use Rattle.std.specs.Prelude.{insert, remove}
use Rattle.std.proofs.lemmas.Bool.{cases_eq, ne_eqb, eq-eqb}
use Rattle.std.proofs.lemmas.List.Sums.{sum_by-cons, sum_by-append, sum_by-take-drop}
use Rattle.pf_heap.specs.Keys.{Keys, Heaps, list_of}
use Rattle.pf_calendar.specs.declared.waiting_list.WaitingList.{WaitingList}
use Rattle.pf_calendar.specs.Invariant.{lists_in, names_of, name_count}

-- an entry that isn't there
abbrev pub no_entry : WaitingList
no_entry = record { slot = 0; heap = 0; count = 0 }

-- ---- times

pub one_of : (h n : ℕ) → n ≡ h → cond {A = ℕ} (eqb n h) 1 0 ≡ 1
one_of h n e = ap (λ b. cond b 1 0) (eq-eqb n h e)

pub none_of : (h n : ℕ) → n ≢ h → cond {A = ℕ} (eqb n h) 1 0 ≡ 0
none_of h n e = ap (λ b. cond b 1 0) (ne_eqb n h e)

pub name_count-nil : (h : ℕ) → name_count h [] ≡ 0
unfolding name_count
name_count-nil h = refl

pub name_count-cons : (h n : ℕ) (ns : List ℕ) → name_count h (n ∷ ns) ≡ cond (eqb n h) 1 0 + name_count h ns
unfolding name_count
name_count-cons h n ns = sum_by-cons (λ m. cond (eqb m h) 1 0) n ns

pub name_count-append : (h : ℕ) (ns ms : List ℕ) → name_count h (ns ++ ms) ≡ name_count h ns + name_count h ms
unfolding name_count
name_count-append h ns ms = sum_by-append (λ n. cond (eqb n h) 1 0) ns ms

pub name_count-take-drop : (h : ℕ) (ns : List ℕ) (k : ℕ) → name_count h (take k ns) + name_count h (drop k ns) ≡ name_count h ns
unfolding name_count
name_count-take-drop h ns k = sum_by-take-drop (λ n. cond (eqb n h) 1 0) ns k

pub name_count-self : (h n : ℕ) (ns : List ℕ) → n ≡ h → 1 ≤ name_count h (n ∷ ns)
name_count-self h n ns e = omega (arith, name_count-cons h n ns, one_of h n e)

-- a heap that is named stands at some place
pub named_at : (h : ℕ) (ns : List ℕ) → 1 ≤ name_count h ns → (k : ℕ) × (k < length ns) × (get_or ns k 0 ≡ h)
named_at h [] le = absurd (omega (arith, le, name_count-nil h))
named_at h (n ∷ ns) le =
    ⊎_elim (λ e. (0, omega arith, e))
    (λ ne. let m = named_at h ns (omega (arith, le, name_count-cons h n ns, none_of h n ne)) in (suc m.0, omega (arith, m.1), m.2))
    (cases_eq n h)

pub at_named : (h : ℕ) (ns : List ℕ) (k : ℕ) → k < length ns → get_or ns k 0 ≡ h → 1 ≤ name_count h ns
at_named h [] k lt e = absurd (omega (arith, lt))
at_named h (n ∷ ns) zero lt e = name_count-self h n ns e
at_named h (n ∷ ns) (suc k) lt e = omega (arith, name_count-cons h n ns, at_named h ns k (omega (arith, lt)) e)

-- a heap that is named once stands at one place
pub one_place : (h : ℕ) (ns : List ℕ) (j k : ℕ) → name_count h ns ≤ 1 → j < length ns → k < length ns → get_or ns j 0 ≡ h → get_or ns k 0 ≡ h → j ≡ k
one_place h [] j k once lj lk ej ek = absurd (omega (arith, lj))
one_place h (n ∷ ns) zero zero once lj lk ej ek = refl
one_place h (n ∷ ns) zero (suc k) once lj lk ej ek =
    absurd (omega (arith, once, name_count-cons h n ns, one_of h n ej, at_named h ns k (omega (arith, lk)) ek))
one_place h (n ∷ ns) (suc j) zero once lj lk ej ek =
    absurd (omega (arith, once, name_count-cons h n ns, one_of h n ek, at_named h ns j (omega (arith, lj)) ej))
one_place h (n ∷ ns) (suc j) (suc k) once lj lk ej ek =
    ap suc (one_place h ns j k (omega (arith, once, name_count-cons h n ns)) (omega (arith, lj)) (omega (arith, lk)) ej ek)

-- ---- names of entries

pub length-names : (es : List WaitingList) → length (names_of es) ≡ length es
length-names [] = refl
length-names (e ∷ es) = ap suc (length-names es)

pub name_at : (es : List WaitingList) (k : ℕ) → get_or (names_of es) k 0 ≡ (get_or es k no_entry).heap
name_at [] k = refl
name_at (e ∷ es) zero = refl
name_at (e ∷ es) (suc k) = name_at es k

pub name_count-insert : (h : ℕ) (es : List WaitingList) (at : ℕ) (e : WaitingList) → name_count h (names_of (insert es at e)) ≡ name_count h (names_of es) + cond (eqb e.heap h) 1 0
name_count-insert h es zero e = omega (arith, name_count-cons h e.heap (names_of es))
name_count-insert h [] (suc at) e = omega (arith, name_count-cons h e.heap [])
name_count-insert h (d ∷ es) (suc at) e =
    omega (arith, name_count-cons h d.heap (names_of (insert es at e)), name_count-cons h d.heap (names_of es), name_count-insert h es at e)

pub name_count-remove : (h : ℕ) (es : List WaitingList) (at : ℕ) → at < length es → name_count h (names_of (remove es at)) + cond (eqb (get_or es at no_entry).heap h) 1 0 ≡ name_count h (names_of es)
name_count-remove h [] at lt = absurd (omega (arith, lt))
name_count-remove h (e ∷ es) zero lt = omega (arith, name_count-cons h e.heap (names_of es))
name_count-remove h (e ∷ es) (suc at) lt =
    omega (arith, name_count-cons h e.heap (names_of (remove es at)), name_count-cons h e.heap (names_of es), name_count-remove h es at (omega (arith, lt)))

-- the same heap under another slot or count
pub names-set : (es : List WaitingList) (at : ℕ) (e : WaitingList) → e.heap ≡ (get_or es at no_entry).heap → names_of (set es at e) ≡ names_of es
names-set [] at e h = refl
names-set (d ∷ es) zero e h = ap (λ n. n ∷ names_of es) h
names-set (d ∷ es) (suc at) e h = ap (λ ns. d.heap ∷ ns) (names-set es at e h)

-- ---- the lists that entries name

-- their heaps have the same lists
abbrev pub Agree : Heaps → Heaps → List WaitingList → Type 0
Agree old new es = (k : ℕ) → k < length es → list_of new (get_or es k no_entry).heap ≡ list_of old (get_or es k no_entry).heap

pub lists_same : (old new : Heaps) (es : List WaitingList) → Agree old new es → lists_in new es ≡ lists_in old es
lists_same old new [] same = refl
lists_same old new (e ∷ es) same =
    λ i. (e.slot, same 0 (omega arith) i) ∷ lists_same old new es (λ k lt. same (suc k) (omega (arith, lt))) i

-- all but one of them
pub lists_set : (old new : Heaps) (es : List WaitingList) (at : ℕ) (e : WaitingList) (keys : Keys) → at < length es →
    ((k : ℕ) → k < length es → k ≢ at → list_of new (get_or es k no_entry).heap ≡ list_of old (get_or es k no_entry).heap) →
    list_of new e.heap ≡ keys → lists_in new (set es at e) ≡ set (lists_in old es) at (e.slot, keys)
lists_set old new [] at e keys lt same is = absurd (omega (arith, lt))
lists_set old new (d ∷ es) zero e keys lt same is =
    λ i. (e.slot, is i) ∷ lists_same old new es (λ k h. same (suc k) (omega (arith, h)) (λ p. omega (arith, p))) i
lists_set old new (d ∷ es) (suc at) e keys lt same is =
    λ i. (d.slot, same 0 (omega arith) (λ p. omega (arith, p)) i)
    ∷ lists_set old new es at e keys (omega (arith, lt)) (λ k h ne. same (suc k) (omega (arith, h)) (λ p. ne (omega (arith, p)))) is i

pub lists-insert : (heaps : Heaps) (es : List WaitingList) (at : ℕ) (e : WaitingList) → lists_in heaps (insert es at e) ≡ insert (lists_in heaps es) at (e.slot, list_of heaps e.heap)
lists-insert heaps es zero e = refl
lists-insert heaps [] (suc at) e = refl
lists-insert heaps (d ∷ es) (suc at) e = ap (λ l. (d.slot, list_of heaps d.heap) ∷ l) (lists-insert heaps es at e)

pub lists-remove : (heaps : Heaps) (es : List WaitingList) (at : ℕ) → lists_in heaps (remove es at) ≡ remove (lists_in heaps es) at
lists-remove heaps [] zero = refl
lists-remove heaps [] (suc at) = refl
lists-remove heaps (d ∷ es) zero = refl
lists-remove heaps (d ∷ es) (suc at) = ap (λ l. (d.slot, list_of heaps d.heap) ∷ l) (lists-remove heaps es at)

pub length-lists : (heaps : Heaps) (es : List WaitingList) → length (lists_in heaps es) ≡ length es
length-lists heaps [] = refl
length-lists heaps (e ∷ es) = ap suc (length-lists heaps es)

pub slot_at : (heaps : Heaps) (es : List WaitingList) (k : ℕ) (keys : Keys) → k < length es → (get_or (lists_in heaps es) k (0, keys)).0 ≡ (get_or es k no_entry).slot
slot_at heaps [] k keys lt = absurd (omega (arith, lt))
slot_at heaps (e ∷ es) zero keys lt = refl
slot_at heaps (e ∷ es) (suc k) keys lt = slot_at heaps es k keys (omega (arith, lt))

pub list_at_place : (heaps : Heaps) (es : List WaitingList) (k : ℕ) (keys : Keys) → k < length es → (get_or (lists_in heaps es) k (0, keys)).1 ≡ list_of heaps (get_or es k no_entry).heap
list_at_place heaps [] k keys lt = absurd (omega (arith, lt))
list_at_place heaps (e ∷ es) zero keys lt = refl
list_at_place heaps (e ∷ es) (suc k) keys lt = list_at_place heaps es k keys (omega (arith, lt))
