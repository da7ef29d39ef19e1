-- The records that a reader has left, one record at a time.
use Rattle.std.proofs.Common.{◌≡◌, ◌<◌, ◌+◌, ◌⊎◌, ℕ, zero, suc, Bool, true, false, List, [], ◌∷◌, ◌++◌, length, Option, Some, None, Bor, refl, sym, subst, ap, map, rules, tests, inl, inr, arith, add-one, ◌∙◌}
use Rattle.std.specs.Prelude.{if◌then◌else◌, not, ◌&&◌, ◌==◌}
use Rattle.std.proofs.lemmas.Bool.{cases_Bool, ne_eqb}
use Rattle.csv.specs.Machine.{Read, next_record, step, is_end, ends_at_end, fields_after, field_after}
use Rattle.csv.specs.Reading.{records_from, records_next, has_failed, source_of, reader_trim, NextIs, ReadsNext, ReadRecord, pending_of, Ready}
use Rattle.csv.specs.declared.parser.Config.{Config}
use Rattle.csv.specs.declared.parser.State.{State}
use Rattle.csv.specs.declared.parser.State.TheVariants as st
use Rattle.csv.specs.declared.reader.Reader.{Reader}
use Rattle.csv.specs.Reading.{trim_by}
use Rattle.pf_text.specs.Rows.Places.{row_config}
use Rattle.csv.specs.Records.{field_at, trimmed}
use Rattle.pf_text.specs.Rows.Rows.{is_blank}
use Rattle.pf_text.specs.Rows.Left.{ReadsRows, records_after, records_left}

-- a record took a byte, or the text is at its end
abbrev pub TookByte : List ℕ → Read → Type 0
TookByte bytes p = (length p.2 < length bytes) ⊎ ((p.1 ≡ st.StartRecord) × (p.2 ≡ []))

-- a tail of a text that took a byte did so in the text
took-more : (c : ℕ) (bytes : List ℕ) (p : Read) → TookByte bytes p → TookByte (c ∷ bytes) p
took-more c bytes p (inl lt) = inl (omega arith)
took-more c bytes p (inr end) = inr end

pub next_record-took : (cfg : Config) (s : State) (fields : List (List ℕ)) (field bytes : List ℕ) (p : Read)
    → next_record cfg s fields field bytes ≡ Some p → TookByte bytes p
unfolding next_record
next_record-took cfg s fields field [] p e = at_end (ends_at_end s) e
  where
    at_end : (b : Bool) → (if b then Some (fields ++ (field ∷ []), st.StartRecord, []) else None) ≡ Some p → TookByte [] p
    at_end true e = let q : (fields ++ (field ∷ []), st.StartRecord, []) ≡ p = cc in inr (ap (λ (r : Read). r.1) (sym q), ap (λ (r : Read). r.2) (sym q))
    at_end false e = cc
next_record-took cfg s fields field (c ∷ rest) p e =
    by (is_end (step cfg s c).1) e (next_record-took cfg (step cfg s c).0 (fields_after (step cfg s c).1 fields field) (field_after (step cfg s c).1 c field) rest p)
  where
    by : (b : Bool)
        → (if b then Some (fields_after (step cfg s c).1 fields field, (step cfg s c).0, rest)
        else next_record cfg (step cfg s c).0 (fields_after (step cfg s c).1 fields field) (field_after (step cfg s c).1 c field) rest) ≡ Some p
        → (next_record cfg (step cfg s c).0 (fields_after (step cfg s c).1 fields field) (field_after (step cfg s c).1 c field) rest ≡ Some p → TookByte rest p)
        → TookByte (c ∷ rest) p
    by true e more =
        let q : (fields_after (step cfg s c).1 fields field, (step cfg s c).0, rest) ≡ p = cc in
        let r : rest ≡ p.2 = ap (λ (x : Read). x.2) q in
        inl (omega (arith, ap length r))
    by false e more = took-more c rest p (more e)

-- nothing is left at the end of a text
records_from-end : (cfg : Config) (n : ℕ) → records_from cfg n st.StartRecord [] ≡ []
unfolding records_from next_record
records_from-end cfg zero = refl
records_from-end cfg (suc n) = refl

-- records are counted out by any number above the length of the text
pub records_from-any : (cfg : Config) (n m : ℕ) (s : State) (bytes : List ℕ) → length bytes < n → length bytes < m
    → records_from cfg n s bytes ≡ records_from cfg m s bytes
unfolding records_from
records_from-any cfg zero m s bytes a b = absurd (omega arith)
records_from-any cfg (suc n) zero s bytes a b = absurd (omega arith)
records_from-any cfg (suc n) (suc m) s bytes a b =
    by (next_record cfg s [] [] bytes) (next_record-took cfg s [] [] bytes) (records_from-any cfg n m)
  where
    by : (o : Option Read) → ((p : Read) → o ≡ Some p → TookByte bytes p)
        → ((t : State) (rest : List ℕ) → length rest < n → length rest < m → records_from cfg n t rest ≡ records_from cfg m t rest)
        → records_next (records_from cfg n) o ≡ records_next (records_from cfg m) o
    by None took more = refl
    by (Some p) took more =
        elim (took p refl) [
          | inl lt ↦ ap (λ rs. p.0 ∷ rs) (more p.1 p.2 (omega arith) (omega arith))
          | inr end ↦ ap (λ rs. p.0 ∷ rs) (rw (end.0, end.1) (records_from-end cfg n ∙ sym (records_from-end cfg m)))
        ]

-- the records after one that was read
after-record : (cfg : Config) (bytes : List ℕ) (p : Read) → TookByte bytes p
    → records_from cfg (length bytes) p.1 p.2 ≡ records_from cfg (length p.2 + 1) p.1 p.2
after-record cfg bytes p (inl lt) = records_from-any cfg (length bytes) (length p.2 + 1) p.1 p.2 lt (omega arith)
after-record cfg bytes p (inr end) = rw (end.0, end.1) (records_from-end cfg (length bytes) ∙ sym (records_from-end cfg 1))

-- the first of the records
records_from-first : (cfg : Config) (n : ℕ) (s : State) (bytes : List ℕ) → records_from cfg (n + 1) s bytes ≡ records_next (records_from cfg n) (next_record cfg s [] [] bytes)
unfolding records_from
records_from-first cfg n s bytes = rw (add-one n) refl

-- a known text, before and after a record is read
next-known : (s s2 : State) (bytes rest : List ℕ) (found : Bool) (fields : List (List ℕ))
    → NextIs (next_record row_config s [] [] bytes) found fields s2 rest
    → records_from row_config (length bytes + 1) s bytes ≡ (if found then fields ∷ records_from row_config (length rest + 1) s2 rest else [])
next-known s s2 bytes rest found fields h =
    records_from-first row_config (length bytes) s bytes ∙ by (next_record row_config s [] [] bytes) (next_record-took row_config s [] [] bytes) h
  where
    by : (o : Option Read) → ((p : Read) → o ≡ Some p → TookByte bytes p) → NextIs o found fields s2 rest
        → records_next (records_from row_config (length bytes)) o ≡ (if found then fields ∷ records_from row_config (length rest + 1) s2 rest else [])
    by None took h = rw h refl
    by (Some p) took h = rw (h.0, h.1, h.2, h.3) (ap (λ rs. p.0 ∷ rs) (after-record row_config bytes p (took p refl)))

-- the bytes of a reader over a slice are known
source-known : (a : Reader (Bor (List ℕ))) → has_failed a ≡ false → (bytes : List ℕ) × (source_of (λ s. Some s.now) a ≡ Some bytes)
source-known a good = rw good (by (not a.bom_checked && (a.at == 0) && (a.filled == 0)) _ _)
  where
    by : (b : Bool) (x y : List ℕ) → (bytes : List ℕ) × ((if b then Some x else Some y) ≡ Some bytes)
    by true x y = (x, refl)
    by false x y = (y, refl)

-- the records from a state on, before and after one is read
records_after-next : (s s2 : State) (old new : Option (List ℕ)) (found : Bool) (fields : List (List ℕ)) (bytes : List ℕ)
    → old ≡ Some bytes → ReadsNext row_config s old new found fields s2
    → records_after s old ≡ (if found then fields ∷ records_after s2 new else [])
records_after-next s s2 None new found fields bytes e h = cc
records_after-next s s2 (Some xs) None found fields bytes e h = absurd h
records_after-next s s2 (Some xs) (Some ys) found fields bytes e h = next-known s s2 xs ys found fields h

-- the records that a text has left, before and after one is read
pub records_left-next : (a b : Reader (Bor (List ℕ))) (found : Bool) (fields : List (List ℕ)) → ReadsRows a
    → (Ready a → (raw : List (List ℕ)) × ReadRecord (λ s. Some s.now) a b found raw × (fields ≡ trim_by (reader_trim a) raw))
    → has_failed b ≡ has_failed a → (has_failed a ≡ true → found ≡ false)
    → (raw : List (List ℕ)) × (records_left a ≡ (if found then raw ∷ records_left b else [])) × (found ≡ true → fields ≡ map trimmed raw)
records_left-next a b found fields set reads goes none =
    elim (cases_Bool (has_failed a)) [
      | inl bad ↦ ([], rw (none bad, bad) refl, λ some. absurd (search (rules, tests, none bad, some)))
      | inr good ↦
          let s = set good in
          let r = reads s.ready in
          let known = source-known a good in
          let after : source_of (λ s. Some s.now) b ≡ pending_of (Some b.rdr.now) b = rw r.1.1 refl in
          (r.0, rw after (by a.config s.config a.state b.state _ _ found r.0 known.0 known.1 r.1.0), λ some. r.2 ∙ ap (λ t. trim_by t r.0) s.trim)
    ]
  where
    by : (cfg : Config) → cfg ≡ row_config → (s s2 : State) (old new : Option (List ℕ)) (found : Bool) (raw : List (List ℕ)) (bytes : List ℕ)
        → old ≡ Some bytes → ReadsNext cfg s old new found raw s2
        → records_after s old ≡ (if found then raw ∷ records_after s2 new else [])
    by cfg e s s2 old new found raw bytes known h = records_after-next s s2 old new found raw bytes known (subst (λ c. ReadsNext c s old new found raw s2) e h)

-- Use: the same of records that aren't at their end, and are at their end where none was read.
pub records-next : (ended found : Bool) (a b : Reader (Bor (List ℕ))) (fields : List (List ℕ)) → ended ≡ false
    → (raw : List (List ℕ)) × (records_left a ≡ (if found then raw ∷ records_left b else [])) × (found ≡ true → fields ≡ map trimmed raw)
    → (if ended then [] else map (map trimmed) (records_left a)) ≡ (if found then fields ∷ (if not found then [] else map (map trimmed) (records_left b)) else [])
records-next ended true a b fields goes next = rw (goes, next.1, next.2 refl) refl
records-next ended false a b fields goes next = rw (goes, next.1) refl

-- Use: a row of one field.
pub one-field : (fields : List (List ℕ)) (f : List ℕ) → length fields ≡ 1 → Some f ≡ field_at fields 0 → (length f == 0) ≡ is_blank fields
unfolding field_at
one-field [] f one at = absurd (omega (arith, one))
one-field ([] ∷ []) f one at = rw (by at) refl
  where
    by : Some f ≡ Some [] → f ≡ []
    by e = cc
one-field ((byte ∷ bytes) ∷ []) f one at = rw (by at) (ne_eqb _ _ (λ e. let g : suc (length bytes) ≡ 0 = e in absurd (omega (arith, g))))
  where
    by : Some f ≡ Some (byte ∷ bytes) → f ≡ byte ∷ bytes
    by e = cc
one-field (g ∷ h ∷ fields) f one at = absurd (omega (arith, one))

pub no-field : (fields : List (List ℕ)) → length fields ≡ 1 → None ≡ field_at fields 0 → false ≡ is_blank fields
unfolding field_at
no-field [] one at = refl
no-field (f ∷ fields) one at = by at
  where
    by : None ≡ Some f → false ≡ is_blank (f ∷ fields)
    by e = cc
