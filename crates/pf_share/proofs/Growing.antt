-- The readers' rule: a history that only grows keeps it.
use Rattle.std.proofs.Common.{◌≡◌, ◌≢◌, ℕ, List, [], ◌∷◌, ◌++◌, set, refl, sym, ap, subst, ◌∙◌, ⊎_elim, ◌⊎◌}
use mathlib.Core.Option.{some}
use mathlib.Core.List.{IsPrefix}
use lib.ListN.{get_elem?}
use Rattle.atomic_table.proofs.Lists.{at_set, at_snoc}
use Rattle.left_right.specs.Register.{Forks, Merges}
use Rattle.pf_lemmas.proofs.Prefixes.{prefix_self, prefix_trans}
use Rattle.pf_desk.specs.declared.entry.Entry.{Entry}
use Rattle.pf_share.specs.declared.reads.Reads.{Reads}
use Rattle.pf_share.specs.Stories.{Stamped}
use Rattle.pf_share.specs.Reads.{Fits, FitAll, Sees, Publishes, knowing, nothing_read, IsViewer}

fit_set : (x : Stamped) (views : List Reads) (seat : ℕ) (w : Reads) → FitAll x views → Fits x w → FitAll x (set views seat w)
fit_set x views seat w h low j u e =
    ⊎_elim
    (λ (t : (j ≡ seat) × (w ≡ u)). subst (λ (z : Reads). Fits x z) t.1 low)
    (λ (t : (j ≢ seat) × (get_elem? views j ≡ some u)). h j u t.1)
    (at_set views seat j w u e)

fit_snoc : (x : Stamped) (views : List Reads) (w : Reads) → FitAll x views → Fits x w → FitAll x (views ++ w ∷ [])
fit_snoc x views w h low j u e =
    ⊎_elim
    (h j u)
    (λ (same : w ≡ u). subst (λ (z : Reads). Fits x z) same low)
    (at_snoc views w u j e)

-- a viewer's entry, which leaves these reads
pub enters : (seat : ℕ) (v : Reads) (x : Stamped) (reads : List ℕ) (views : List Reads) → FitAll x views → get_elem? views seat ≡ some v → (w : Reads) × FitAll x (set views seat w) × Sees v x reads w
enters seat v x reads views h at =
    let f = h seat v at in
    let w : Reads = record { seen = x.history; reads = reads; known = v.known } in (
      w,
      fit_set x views seat w h (record { seen = prefix_self x.history; origin = f.origin }),
      record { grew = f.seen; seen = refl; reads_are = refl; known = refl; origin = f.origin },
    )

-- the writer shows a longer history from the same place, and knows it
pub shows : (seat : ℕ) (v : Reads) (x y : Stamped) → IsPrefix x.history y.history → x.origin ≡ y.origin → (views : List Reads) → FitAll x views → get_elem? views seat ≡ some v → (w : Reads) × FitAll y (set views seat w) × Publishes v y w
shows seat v x y grows same views h at =
    let all : FitAll y views = λ j u e. let f = h j u e in record { seen = prefix_trans u.seen x.history y.history f.seen grows; origin = λ s is. f.origin s is ∙ same } in
    let w : Reads = record v { known = y ∷ [] } in
    (w, fit_set y views seat w all (record { seen = (all seat v at).seen; origin = λ s is. ap (λ z. z.origin) (cons_same s y is) }), refl)
  where
    cons_same : (s y : Stamped) → y ∷ [] ≡ s ∷ [] → s ≡ y
    cons_same s y e = cc

nothing_fits : (x : Stamped) → Fits x nothing_read
nothing_fits x = record { seen = (x.history, refl); origin = λ s e. absurd (cc) }

-- a new seat
pub admits : (x : Stamped) (views : List Reads) → FitAll x views → FitAll x (views ++ nothing_read ∷ [])
admits x views h = fit_snoc x views nothing_read h (nothing_fits x)

-- the first seat
pub begins : (x : Stamped) → FitAll x (nothing_read ∷ [])
begins x = admits x [] (λ j u e. absurd (cc))

-- what a seat knows is told by a copy of it, which is then joined to another
pub copies : (seat : ℕ) (v : Reads) → Forks FitAll seat v v v
copies seat v x views h at = fit_snoc x (set views seat v) v (fit_set x views seat v h (h seat v at)) (h seat v at)

pub knows : (seat : ℕ) (v : Reads) (other : ℕ) (w : Reads) → Merges FitAll seat v other w (knowing v w) nothing_read
knows seat v other w x views h at apart there =
    let both = knowing v w in
    let theirs : Fits x w = ⊎_elim
    (λ (t : (other ≡ seat) × (both ≡ w)). absurd (apart t.0))
    (λ (t : (other ≢ seat) × (get_elem? views other ≡ some w)). h other w t.1)
    (at_set views seat other both w there) in
    fit_set x (set views seat both) other nothing_read (fit_set x views seat both h (record { seen = (h seat v at).seen; origin = theirs.origin })) (nothing_fits x)

-- a beginning of what was seen begins what is found
pub prefix_into : (xs seen log now : List Entry) → IsPrefix xs seen → IsPrefix seen log → now ≡ log → IsPrefix xs now
prefix_into xs seen log now p q e = subst (λ (w : List Entry). IsPrefix xs w) (sym e) (prefix_trans xs seen log p q)

-- what a viewer finds is from where it knows of
pub same_origin : (read told : Stamped) (v : Reads) (x : Stamped) (reads : List ℕ) (w : Reads) → IsViewer read told v → Sees v x reads w → x.origin ≡ read.origin
same_origin read told v x reads w is sees = sym (sees.origin is.shown is.known) ∙ is.origin_known

-- the viewer after an entry that found x, where it read or was told what it was before, or x
pub viewed : (read told : Stamped) (v : Reads) (x : Stamped) (reads : List ℕ) (w u : Reads) (read' told' : Stamped) → IsViewer read told v → Sees v x reads w → u ≡ w
    → (read' ≡ read) ⊎ (read' ≡ x) → (told' ≡ told) ⊎ (told' ≡ x) → IsViewer read' told' u
viewed read told v x reads w u read' told' is sees same r t =
    let x_origin : x.origin ≡ read.origin = same_origin read told v x reads w is sees in
    let seen : u.seen ≡ x.history = ap (λ z. z.seen) same ∙ sees.seen in
    let self : IsPrefix x.history u.seen = subst (λ (h : List Entry). IsPrefix x.history h) (sym seen) (prefix_self x.history) in
    let old_read : IsPrefix read.history u.seen = prefix_into read.history v.seen x.history u.seen is.seen_read sees.grew seen in
    let old_told : IsPrefix told.history u.seen = prefix_into told.history v.seen x.history u.seen is.seen_told sees.grew seen in
    let read_origin : read'.origin ≡ read.origin = ⊎_elim (λ (e : read' ≡ read). ap (λ z. z.origin) e) (λ (e : read' ≡ x). ap (λ z. z.origin) e ∙ x_origin) r in
    let told_origin : told'.origin ≡ read.origin = ⊎_elim (λ (e : told' ≡ told). ap (λ z. z.origin) e ∙ is.origin_told) (λ (e : told' ≡ x). ap (λ z. z.origin) e ∙ x_origin) t in record {
      origin_told = told_origin ∙ sym read_origin;
      seen_read = ⊎_elim (λ (e : read' ≡ read). subst (λ (z : Stamped). IsPrefix z.history u.seen) (sym e) old_read) (λ (e : read' ≡ x). subst (λ (z : Stamped). IsPrefix z.history u.seen) (sym e) self) r;
      seen_told = ⊎_elim (λ (e : told' ≡ told). subst (λ (z : Stamped). IsPrefix z.history u.seen) (sym e) old_told) (λ (e : told' ≡ x). subst (λ (z : Stamped). IsPrefix z.history u.seen) (sym e) self) t;
      shown = is.shown;
      known = ap (λ z. z.known) same ∙ (sees.known ∙ is.known);
      origin_known = is.origin_known ∙ sym read_origin;
    }
