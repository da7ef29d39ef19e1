-- One list at most is due when a slot begins.
use Rattle.std.proofs.Common.{◌≡◌, ℕ, ◌<◌, ◌≤◌, Bool, true, false, cond, leb, max, Option, Some, None, List, [], length, get_or, unwrap_or, refl, sym, ap, ◌∙◌, arith, ⊎_elim}
use Rattle.std.proofs.lemmas.Bool.{cases_lt, leb-true}
use Rattle.std.proofs.lemmas.List.{get_or-map, length-map}
use Rattle.std.specs.FinSet as set
use Rattle.std.specs.FinMap as fin
use Rattle.std.specs.FinMap.{nat_cmp-IsAntisymmetric, get-entries, get-retain_keys, entries_sorted}
use Rattle.pf_order.specs.Priority.{Priority}
use Rattle.pf_heap.specs.Keys.{Keys}
use Rattle.pf_calendar.specs.Queues.{Queues, Waiting, list_at, until, NoneEmpty}
use Rattle.pf_calendar.proofs.Sets.{some_key}
use Rattle.pf_calendar.proofs.Maps.{true_of}
use Rattle.pf_calendar.proofs.Slots.{find_at, find_place, rises}
use Rattle.pf_engine.specs.Fits.{KeptTask}
use Rattle.pf_engine.specs.Agenda.{IsAgenda}

kept_some : (b : Bool) (o : Option Keys) (l : Keys) → cond b o None ≡ Some l → (b ≡ true) × (o ≡ Some l)
kept_some true o l e = (refl, e)
kept_some false o l e = absurd (cc)

-- a list that is due is for a slot up to t, and has a key
due_entry : (w : Waiting) (t i : ℕ) → NoneEmpty w → i < length (fin.entries (until t w)) →
    ((get_or (fin.entries (until t w)) i (0, set.empty)).0 ≤ t)
    × ((k : Priority) × (set.contains (list_at w (get_or (fin.entries (until t w)) i (0, set.empty)).0) k ≡ true))
due_entry w t i some lt =
    let es = fin.entries (until t w) in
    let s = (get_or es i (0, set.empty)).0 in
    let l = (get_or es i (0, set.empty)).1 in
    let got : fin.get (until t w) s ≡ Some l =
    get-entries (until t w) s ∙ find_at es i (0, set.empty) (true_of _ (entries_sorted (until t w))) lt in
    let f = kept_some (leb s t) (fin.get w s) l
    (sym (get-retain_keys w (λ x. leb x t) s (λ x e. ap (λ y. leb y t) (sym (nat_cmp-IsAntisymmetric s x e)))) ∙ got) in
    let m = find_place s (fin.entries w) l (0, set.empty) (sym (get-entries w s) ∙ f.1) in
    let is : get_or (fin.values w) m.0 set.empty ≡ l = get_or-map (λ e. e.1) (fin.entries w) m.0 (0, set.empty) set.empty m.1 ∙ m.3 in
    let full : 1 ≤ set.len (get_or (fin.values w) m.0 set.empty) = some m.0 set.empty (omega (arith, m.1, length-map (fin.entries w) (λ e. e.1))) in
    let k = some_key l (omega (arith, full, ap set.len is)) in
    (leb-true s t f.0, (k.0, ap (λ o. set.contains (unwrap_or o set.empty) k.0) f.1 ∙ k.1))

one_due : (w : Waiting) (t : ℕ) → NoneEmpty w → ((s : ℕ) (k : Priority) → set.contains (list_at w s) k ≡ true → t ≤ s) → fin.len (until t w) ≤ 1
one_due w t some from =
    let es = fin.entries (until t w) in
    let long = fin.len-entries (until t w) in
    ⊎_elim
    (λ two.
    let a = due_entry w t 0 some (omega (arith, two)) in
    let b = due_entry w t 1 some two in
    absurd (omega (
      arith,
      a.0,
      b.0,
      from _ a.1.0 a.1.1,
      from _ b.1.0 b.1.1,
      rises es 0 1 (0, set.empty) (true_of _ (entries_sorted (until t w))) (omega arith) two,
    )))
    (λ few. omega arith)
    (cases_lt 1 (length es))

pub agenda_due : (q : Queues) (now : ℕ) (tasks : List KeptTask) → IsAgenda q now tasks [] → fin.len (until now q.waiting) ≤ 1
agenda_due q now tasks a =
    one_due q.waiting now a.some (λ s k h. let o = a.next.only (Some s) k h in let at : s ≡ max _ now = o.stands in omega arith)
