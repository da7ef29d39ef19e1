-- Heaps that are added, and heaps that are merged into one.
use Rattle.std.proofs.Common.{◌≡◌, ◌≢◌, ℕ, zero, suc, ◌+◌, ◌<◌, ◌≤◌, cond, eqb, List, [], ◌∷◌, ◌++◌, map, length, get_or, set, take, drop, refl, sym, ap, ◌∙◌, subst, arith, ⊎_elim, append_assoc}
use Rattle.std.specs.Prelude.{replicate, sum_by, All}
use Rattle.std.specs.List.{range_with_len}
use Rattle.std.proofs.lemmas.Bool.{cases_lt, cases_eq}
use Rattle.std.proofs.lemmas.List.{length-set, get_or-set_same, get_or-set_other, replicate_more, get_or_append_left, get_or_push, get_or_default, length_push, map_push, take_more, drop_more, take-map}
use Rattle.std.proofs.lemmas.List.Sums.{sum_by-drop_more}
use Rattle.std.specs.FinSet as fin
use Rattle.pf_heap.specs.Keys.{Keys, Heaps, list_of, with_list}
use Rattle.pf_calendar.specs.declared.waiting_list.WaitingList.{WaitingList}
use Rattle.pf_calendar.specs.Queues.{all_of}
use Rattle.pf_calendar.specs.Invariant.{name_count, names_of}
use Rattle.pf_calendar.specs.Steps.{AddsHeaps, MergesAll}
use Rattle.pf_calendar.proofs.Naming.{no_entry, name_count-nil, name_count-cons, name_count-append, name_count-take-drop, one_of, name_count-self, name_at, length-names}
use Rattle.pf_calendar.proofs.Sets.{union_assoc, union-empty, all_of-push, len-union-le}

range_push : (a n j : ℕ) → j ≡ a + n → range_with_len a (suc n) ≡ range_with_len a n ++ j ∷ []
range_push a zero j e = ap (λ x. x ∷ []) (let s : a ≡ j = omega arith in s)
range_push a (suc n) j e = ap (λ l. a ∷ l) (range_push (a + 1) n j (omega arith))

length-replicated : (n : ℕ) (keys : Keys) → length (replicate n keys) ≡ n
length-replicated zero keys = refl
length-replicated (suc n) keys = ap suc (length-replicated n keys)

length-both : (xs ys : List Keys) → length (xs ++ ys) ≡ length xs + length ys
length-both [] ys = omega arith
length-both (x ∷ xs) ys = omega (arith, length-both xs ys)

pub adds_more : (old mid new : Heaps) (names noted noted' : List ℕ) (n h : ℕ) → AddsHeaps old mid names noted n →
    h ≡ length mid.lists → new ≡ record mid { lists = mid.lists ++ fin.empty ∷ [] } → noted' ≡ noted ++ h ∷ [] → AddsHeaps old new names noted' (n + 1)
adds_more old mid new names noted noted' n h a is grown pushed =
    let at : h ≡ length old.lists + n = omega (arith, is, ap length a.lists, length-both old.lists (replicate n fin.empty), length-replicated n fin.empty) in
    record {
      main = ap (λ x. x.main) grown ∙ a.main;
      lists = ap (λ x. x.lists) grown ∙ ap (λ l. l ++ fin.empty ∷ []) a.lists ∙ append_assoc old.lists (replicate n fin.empty) (fin.empty ∷ []) ∙ ap (λ l. old.lists ++ l) (replicate_more n fin.empty);
      spare = ap (λ x. x.spare) grown ∙ a.spare;
      tasks = ap (λ x. x.tasks) grown ∙ a.tasks;
      noted = pushed ∙ ap (λ l. l ++ h ∷ []) a.noted ∙ append_assoc names (range_with_len (length old.lists) n) (h ∷ [])
          ∙ ap (λ l. names ++ l) (sym (range_push (length old.lists) n h at) ∙ ap (range_with_len (length old.lists)) (let s : suc n ≡ n + 1 = omega arith in s));
    }

-- ---- merging

pub merges_none : (heaps : Heaps) → MergesAll heaps heaps []
merges_none heaps = record {
  spare = refl;
  tasks = refl;
  long = refl;
  merged = sym (union-empty heaps.main);
  emptied = λ k d lt. absurd (omega (arith, lt));
  others = λ h e. refl;
}

-- one more list is merged into the main one
pub merges_more : (old mid new : Heaps) (x : ℕ) (names : List ℕ) → MergesAll old mid names → x < length old.lists → name_count x names ≡ 0 →
    new ≡ record (with_list mid x fin.empty) { main = fin.union mid.main (list_of mid x) } → MergesAll old new (names ++ x ∷ [])
merges_more old mid new x names m in_x fresh is =
    let lists_is : new.lists ≡ set mid.lists x fin.empty = ap (λ n. n.lists) is in
    let at_other : (h : ℕ) → h ≢ x → list_of new h ≡ list_of mid h = λ h nx.
    ap (λ l. get_or l h fin.empty) lists_is ∙ get_or-set_other mid.lists x h fin.empty fin.empty nx in
    let at_x : list_of new x ≡ fin.empty =
    ap (λ l. get_or l x fin.empty) lists_is ∙ get_or-set_same mid.lists x fin.empty fin.empty (omega (arith, m.long, in_x)) in
    let was : list_of mid x ≡ list_of old x = m.others x fresh in
    let emptied_at : (n k d : ℕ) → k < length names → get_or names k d ≡ n → list_of new n ≡ fin.empty = λ n k d lt e.
    ⊎_elim (λ same. ap (list_of new) same ∙ at_x)
    (λ nx. at_other n nx ∙ ap (list_of mid) (sym e) ∙ m.emptied k d lt)
    (cases_eq n x) in
    record {
      spare = ap (λ n. n.spare) is ∙ m.spare;
      tasks = ap (λ n. n.tasks) is ∙ m.tasks;
      long = ap length lists_is ∙ length-set mid.lists x fin.empty ∙ m.long;
      merged = ap (λ n. n.main) is ∙ (λ i. fin.union (m.merged i) (was i))
          ∙ union_assoc old.main (all_of (map (list_of old) names)) (list_of old x)
          ∙ ap (fin.union old.main) (sym (all_of-push (map (list_of old) names) (list_of old x)))
          ∙ ap (λ l. fin.union old.main (all_of l)) (sym (map_push (list_of old) names x));
      emptied = λ k d lt.
          ⊎_elim (λ below. ap (list_of new) (get_or_append_left names (x ∷ []) d k below) ∙ emptied_at (get_or names k d) k d below refl)
          (λ le. ap (list_of new) (get_or_push names x d k (omega (arith, le, lt, length_push names x))) ∙ at_x)
          (cases_lt k (length names));
      others = λ h none.
          let apart_x : name_count h names + cond (eqb x h) 1 0 ≡ 0 = omega (arith, none, name_count-append h names (x ∷ []), name_count-cons h x [], name_count-nil h) in
          let nx : h ≢ x = λ e. absurd (omega (arith, apart_x, one_of h x (sym e))) in
          at_other h nx ∙ m.others h (omega (arith, apart_x));
    }

-- the entries name heaps, each once
abbrev pub CanMergeAll : Heaps → List WaitingList → Type 0
CanMergeAll heaps es = All (λ e. e.heap < length heaps.lists) es × ((h : ℕ) → name_count h (names_of es) ≤ 1)

pub names_more : (es : List WaitingList) (k : ℕ) (e : WaitingList) → k < length es → e ≡ get_or es k e → names_of (take (k + 1) es) ≡ names_of (take k es) ++ e.heap ∷ []
names_more es k e lt is =
    ap names_of (take_more es k e lt) ∙ map_push (λ d. d.heap) (take k es) (get_or es k e) ∙ ap (λ d. names_of (take k es) ++ d.heap ∷ []) (sym is)

fresh_at : (es : List WaitingList) (k : ℕ) (e : WaitingList) → ((h : ℕ) → name_count h (names_of es) ≤ 1) → k < length es → e ≡ get_or es k e → name_count e.heap (names_of (take k es)) ≡ 0
fresh_at es k e once lt is =
    let front : names_of (take k es) ≡ take k (names_of es) = sym (take-map (λ d. d.heap) k es) in
    let at : get_or (names_of es) k 0 ≡ e.heap = name_at es k ∙ ap (λ d. d.heap) (get_or_default es k no_entry e lt ∙ sym is) in
    let more : drop k (names_of es) ≡ e.heap ∷ drop (k + 1) (names_of es) =
    drop_more (names_of es) k 0 (omega (arith, lt, length-names es)) ∙ ap (λ n. n ∷ drop (k + 1) (names_of es)) at in
    omega (arith, once e.heap, ap (name_count e.heap) front, name_count-take-drop e.heap (names_of es) k, ap (name_count e.heap) more, name_count-self e.heap e.heap (drop (k + 1) (names_of es)) refl)

named_heap : (old : Heaps) (es : List WaitingList) (k : ℕ) (e : WaitingList) → CanMergeAll old es → k < length es → e ≡ get_or es k e → e.heap < length old.lists
named_heap old es k e can lt is = subst (λ (d : WaitingList). d.heap < length old.lists) (sym is) (can.0 k e lt)

pub merges_step : (old mid new : Heaps) (es : List WaitingList) (k : ℕ) (e : WaitingList) → CanMergeAll old es →
    MergesAll old mid (names_of (take k es)) → k < length es → e ≡ get_or es k e →
    new ≡ record (with_list mid e.heap fin.empty) { main = fin.union mid.main (list_of mid e.heap) } → MergesAll old new (names_of (take (k + 1) es))
merges_step old mid new es k e can m lt is melded =
    subst (MergesAll old new) (sym (names_more es k e lt is))
    (merges_more old mid new e.heap (names_of (take k es)) m (named_heap old es k e can lt is) (fresh_at es k e can.1 lt is) melded)

-- what is to be merged, with what is merged already, is no more than it was
pub shrinks_step : (old mid new : Heaps) (es : List WaitingList) (k : ℕ) (e : WaitingList) (total : ℕ) → CanMergeAll old es →
    MergesAll old mid (names_of (take k es)) → k < length es → e ≡ get_or es k e →
    new ≡ record (with_list mid e.heap fin.empty) { main = fin.union mid.main (list_of mid e.heap) } →
    fin.len mid.main + sum_by (λ d. fin.len (list_of old d.heap)) (drop k es) ≤ total →
    (fin.len mid.main + fin.len (list_of mid e.heap) ≤ total)
    × (fin.len new.main + sum_by (λ d. fin.len (list_of old d.heap)) (drop (k + 1) es) ≤ total)
shrinks_step old mid new es k e total can m lt is melded le =
    let was : list_of mid e.heap ≡ list_of old e.heap = m.others e.heap (fresh_at es k e can.1 lt is) in
    let first : sum_by (λ d. fin.len (list_of old d.heap)) (drop k es) ≡ fin.len (list_of old e.heap) + sum_by (λ d. fin.len (list_of old d.heap)) (drop (k + 1) es) =
    sum_by-drop_more (λ d. fin.len (list_of old d.heap)) es k e lt
    ∙ ap (λ (d : WaitingList). fin.len (list_of old d.heap) + sum_by (λ d. fin.len (list_of old d.heap)) (drop (k + 1) es)) (sym is) in (
      omega (arith, le, first, ap fin.len was),
      omega (arith, le, first, ap fin.len was, ap (λ n. fin.len n.main) melded, len-union-le mid.main (list_of mid e.heap)),
    )
