-- What a disk says of a file byte by byte, as fronts and rests.
use Rattle.std.proofs.Common.{◌≡◌, ◌⊎◌, inl, inr, ℕ, ◌+◌, ◌≤◌, ◌<◌, List, [], ◌∷◌, ◌++◌, length, get_or, take, drop, sym, ◌∙◌, ap, arith, append_assoc, length-append, length-drop, take-append-drop}
use Rattle.std.proofs.lemmas.List.{get_or-take, get_or-drop, length-take, drop_more, drop-drop, drop_at, drop_all, take_at, take_all, append-nil, nil_from_length}
use Rattle.std.proofs.lemmas.Grind.{same_number_lists}
use Rattle.std.proofs.Math.Seq.{get_or-append_seam}
use Rattle.sqlite_disk.specs.Disk.{Torn, Holds, Mixed, Cut}

-- before a place that a write or a cut begins at, a file stays
front : (at : ℕ) (old new : List ℕ) → at ≤ length old → at ≤ length new → ((i : ℕ) → i < length old → i < at → get_or new i 0 ≡ get_or old i 0) → take at new ≡ take at old
front at old new in_old in_new below =
    same_number_lists (take at new) (take at old)
    (omega (arith, in_old, in_new, length-take at new, length-take at old))
    (λ k lt.
    let low : k < at = omega (arith, lt, length-take at new) in
    get_or-take at new k 0 low ∙ below k (omega (arith, low, in_old)) low ∙ sym (get_or-take at old k 0 low))

pub torn_front : (at n : ℕ) (old new : List ℕ) → at ≤ length old → Torn at n old new → take at new ≡ take at old
torn_front at n old new inside t = front at old new inside (omega (arith, inside, t.no_shorter)) t.below

torn_back : (at n : ℕ) (old new : List ℕ) → at ≤ length old → Torn at n old new → drop (at + n) new ≡ drop (at + n) old
torn_back at n old new inside t =
    same_number_lists (drop (at + n) new) (drop (at + n) old)
    (omega (arith, t.no_shorter, t.no_longer, length-drop (at + n) new, length-drop (at + n) old))
    (λ k lt.
    let old_too : at + n + k < length old = omega (arith, lt, t.no_longer, length-drop (at + n) new) in
    get_or-drop (at + n) new k 0 ∙ t.above (at + n + k) old_too (omega arith) ∙ sym (get_or-drop (at + n) old k 0))

held : (at : ℕ) (bytes new : List ℕ) → Holds new at bytes → take (length bytes) (drop at new) ≡ bytes
held at bytes new h =
    same_number_lists (take (length bytes) (drop at new)) bytes
    (omega (arith, h.within, length-take (length bytes) (drop at new), length-drop at new))
    (λ k lt.
    let low : k < length bytes = omega (arith, lt, length-take (length bytes) (drop at new)) in
    get_or-take (length bytes) (drop at new) k 0 low ∙ get_or-drop at new k 0 ∙ h.each k low)

-- a write that was done
pub written : (at : ℕ) (bytes old new : List ℕ) → at ≤ length old → Torn at (length bytes) old new → Holds new at bytes
    → new ≡ take at old ++ bytes ++ drop (at + length bytes) old
written at bytes old new inside t h =
    let n = length bytes in
    sym (take-append-drop at new)
    ∙ ap (λ (l : List ℕ). l ++ drop at new) (torn_front at n old new inside t)
    ∙ ap (λ (l : List ℕ). take at old ++ l)
    (sym (take-append-drop n (drop at new))
    ∙ ap (λ (l : List ℕ). l ++ drop n (drop at new)) (held at bytes new h)
    ∙ ap (λ (l : List ℕ). bytes ++ l) (drop-drop n at new ∙ torn_back at n old new inside t))
    ∙ sym (append_assoc (take at old) bytes (drop (at + n) old))

-- at the end of a file a write leaves some more bytes
pub torn_end : (at n : ℕ) (old new : List ℕ) → at ≡ length old → Torn at n old new → (more : List ℕ) × (length more ≤ n) × (new ≡ old ++ more)
torn_end at n old new is t = (
  drop at new,
  omega (arith, is, t.no_longer, length-drop at new),
  sym (take-append-drop at new)
      ∙ ap (λ (l : List ℕ). l ++ drop at new) (torn_front at n old new (omega (arith, is)) t ∙ take_all at old (omega (arith, is))),
)

pub written_end : (at : ℕ) (bytes old new : List ℕ) → at ≡ length old → Torn at (length bytes) old new → Holds new at bytes → new ≡ old ++ bytes
written_end at bytes old new is t h =
    written at bytes old new (omega (arith, is)) t h
    ∙ ap (λ (l : List ℕ). l ++ bytes ++ drop (at + length bytes) old) (take_all at old (omega (arith, is)))
    ∙ ap (λ (l : List ℕ). old ++ bytes ++ l) (drop_all (at + length bytes) old (omega (arith, is)))
    ∙ append-nil (old ++ bytes)

module _ (front_bytes : List ℕ) (byte : ℕ) (rest : List ℕ) (at : ℕ) (is : at ≡ length front_bytes) where
  abbrev file : List ℕ
  file = front_bytes ++ byte ∷ rest

  length-file : length file ≡ at + 1 + length rest
  length-file = omega (arith, is, length-append front_bytes (byte ∷ rest))

  before : take at file ≡ front_bytes
  before = take_at front_bytes (byte ∷ rest) at (sym is)

  behind : drop (at + 1) file ≡ rest
  behind =
      ap (λ (l : List ℕ). drop (at + 1) l) (sym (append_assoc front_bytes (byte ∷ []) rest))
      ∙ drop_at (front_bytes ++ byte ∷ []) rest (at + 1) (omega (arith, is, length-append front_bytes (byte ∷ [])))

  through : take (at + 1) file ≡ front_bytes ++ byte ∷ []
  through =
      ap (λ (l : List ℕ). take (at + 1) l) (sym (append_assoc front_bytes (byte ∷ []) rest))
      ∙ take_at (front_bytes ++ byte ∷ []) rest (at + 1) (omega (arith, is, length-append front_bytes (byte ∷ [])))

  -- a write of one byte leaves any byte there
  pub torn_byte : (new : List ℕ) → Torn at 1 file new → (other : ℕ) × (new ≡ front_bytes ++ other ∷ rest)
  torn_byte new t =
      let inside : at ≤ length file = omega (arith, length-file) in
      let long : at < length new = omega (arith, length-file, t.no_shorter) in (
        get_or new at 0,
        sym (take-append-drop at new)
            ∙ ap (λ (l : List ℕ). l ++ drop at new) (torn_front at 1 file new inside t ∙ before)
            ∙ ap (λ (l : List ℕ). front_bytes ++ l)
            (drop_more new at 0 long ∙ ap (λ (l : List ℕ). get_or new at 0 ∷ l) (torn_back at 1 file new inside t ∙ behind)),
      )

  -- .. or, where each byte is as it was or as it was written, one of both
  pub mixed_byte : (value : ℕ) (new : List ℕ) → Mixed at (value ∷ []) file new
      → (new ≡ front_bytes ++ byte ∷ rest) ⊎ (new ≡ front_bytes ++ value ∷ rest)
  unfolding torn_byte
  mixed_byte value new m =
      let torn = torn_byte new m.torn in
      let here : at + 0 ≡ at = omega arith in
      let old_is : get_or file (at + 0) 0 ≡ byte =
      ap (λ (n : ℕ). get_or file n 0) (here ∙ is) ∙ get_or-append_seam front_bytes byte rest 0 in
      let new_is : get_or new at 0 ≡ get_or new (at + 0) 0 = ap (λ (n : ℕ). get_or new n 0) (sym here) in
      elim (m.each 0 (omega arith) (omega (arith, length-file))) [
        | inl same ↦ inl (torn.1 ∙ ap (λ (b : ℕ). front_bytes ++ b ∷ rest) (new_is ∙ same ∙ old_is))
        | inr done ↦ inr (torn.1 ∙ ap (λ (b : ℕ). front_bytes ++ b ∷ rest) (new_is ∙ done))
      ]

  pub written_byte : (value : ℕ) (new : List ℕ) → Torn at 1 file new → Holds new at (value ∷ []) → new ≡ front_bytes ++ value ∷ rest
  written_byte value new t h =
      written at (value ∷ []) file new (omega (arith, length-file)) t h
      ∙ ap (λ (l : List ℕ). l ++ (value ∷ []) ++ drop (at + 1) file) before
      ∙ ap (λ (l : List ℕ). front_bytes ++ (value ∷ []) ++ l) behind
      ∙ append_assoc front_bytes (value ∷ []) rest

  -- a cut after a byte leaves what was before it, the byte, and anything within the old length
  pub torn_cut : (new : List ℕ) → Cut (at + 1) file new → (more : List ℕ) × (length more ≤ length rest) × (new ≡ front_bytes ++ byte ∷ more)
  torn_cut new c = (
    drop (at + 1) new,
    omega (arith, length-file, c.no_longer, length-drop (at + 1) new),
    sym (take-append-drop (at + 1) new)
        ∙ ap (λ (l : List ℕ). l ++ drop (at + 1) new)
        (front (at + 1) file new (omega (arith, length-file)) (omega (arith, length-file, c.no_shorter)) c.below ∙ through)
        ∙ append_assoc front_bytes (byte ∷ []) (drop (at + 1) new),
  )

  pub cut_done : (new : List ℕ) → Cut (at + 1) file new → length new ≡ at + 1 → new ≡ front_bytes ++ byte ∷ []
  cut_done new c size =
      let torn = torn_cut new c in
      let none : torn.0 ≡ [] = nil_from_length torn.0 (omega (arith, is, size, ap length torn.2, length-append front_bytes (byte ∷ torn.0))) in
      torn.2 ∙ ap (λ (l : List ℕ). front_bytes ++ byte ∷ l) none
