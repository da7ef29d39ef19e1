-- What a crash leaves while lines are added after a shut gate.
use Rattle.std.proofs.Common.{◌≡◌, ◌≢◌, ◌⊎◌, inl, inr, ℕ, ◌+◌, ◌≤◌, true, List, [], ◌∷◌, ◌++◌, length, take, drop, refl, sym, ◌∙◌, ap, subst, arith, append_assoc, length-append}
use Rattle.std.proofs.lemmas.List.{length-take, take_at}
use Rattle.std.proofs.lemmas.Grind.{flat_map-append}
use Rattle.std.proofs.lemmas.Bool.{cases_eq, and_parts}
use Rattle.std.specs.List.{list_all}
use Rattle.std.specs.Cmp.Derive.{both_true}
use Rattle.sqlite_disk.specs.Disk.{Torn, Holds, Mixed}
use Rattle.pf_journal.specs.Lines.{is_text, line_of, lines_of, journal_of, texts_of, heading, records_of}
use Rattle.pf_journal.specs.Crash.{IsShutAt, IsAdding, IsAddingMixed, IsAtRest, IsBeforeOrAfter, IsOpenable}
use Rattle.pf_journal.proofs.Reading.{shuts, lines_then, journal_texts}
use Rattle.pf_journal.proofs.Shapes.{torn_end, written_end, torn_byte, mixed_byte, written_byte}
use Rattle.pf_journal.proofs.Opening.{records_are}
use Rattle.pf_journal.proofs.States.{opens, shut_end}

-- the two writes
module _ (file : List ℕ) (gate : ℕ) (added : List ℕ) (shut : IsShutAt gate file) where
  abbrev front : List ℕ
  front = take gate file

  size : gate ≡ length front
  size = omega (arith, ap length shut, length-append front (35 ∷ []), length-take gate file)

  end : gate + 1 ≡ length file
  end = omega (arith, size, ap length shut, length-append front (35 ∷ []))

  pub behind_crash : (c : List ℕ) → Torn (gate + 1) (length added) file c → IsAdding front added c
  behind_crash c torn =
      let more = torn_end (gate + 1) (length added) file c end torn in
      inl (more.0, more.2 ∙ ap (λ (l : List ℕ). l ++ more.0) shut ∙ append_assoc front (35 ∷ []) more.0)

  pub behind_done : (new : List ℕ) → Torn (gate + 1) (length added) file new → Holds new (gate + 1) added → new ≡ front ++ 35 ∷ added
  behind_done new torn holds =
      written_end (gate + 1) added file new end torn holds ∙ ap (λ (l : List ℕ). l ++ added) shut ∙ append_assoc front (35 ∷ []) added

  pub gate_crash : (c : List ℕ) → Torn gate 1 (front ++ 35 ∷ added) c → IsAdding front added c
  gate_crash c torn = let byte = torn_byte front 35 added gate size c torn in inr (byte.0, byte.1)

  pub behind_mixed : (c : List ℕ) → Torn (gate + 1) (length added) file c → IsAddingMixed front added c
  behind_mixed c torn =
      let more = torn_end (gate + 1) (length added) file c end torn in
      inl (more.0, more.1, more.2 ∙ ap (λ (l : List ℕ). l ++ more.0) shut ∙ append_assoc front (35 ∷ []) more.0)

  pub gate_mixed : (c : List ℕ) → Mixed gate (32 ∷ []) (front ++ 35 ∷ added) c → IsAddingMixed front added c
  gate_mixed c mixed = elim (mixed_byte front 35 added gate size 32 c mixed) [
    | inl same ↦ inl (added, omega arith, same)
    | inr done ↦ inr done
  ]

  pub gate_done : (new : List ℕ) → Torn gate 1 (front ++ 35 ∷ added) new → Holds new gate (32 ∷ []) → new ≡ front ++ 32 ∷ added
  gate_done new torn holds = written_byte front 35 added gate size 32 new torn holds

-- a batch of some lines after those of a journal
module _ (records : List (List ℕ)) (first : List ℕ) (others : List (List ℕ)) (texts : list_all is_text records ≡ true) (batch_texts : list_all is_text (first ∷ others) ≡ true) where
  abbrev newer : List (List ℕ)
  newer = first ∷ others

  abbrev headed : List (List ℕ)
  headed = heading ∷ records

  abbrev tail : List ℕ
  tail = drop 1 (journal_of newer)

  all : list_all is_text headed ≡ true
  all = both_true refl texts

  pub both_texts : list_all is_text (records ++ newer) ≡ true
  both_texts = all_of records texts
    where
      all_of : (front : List (List ℕ)) → list_all is_text front ≡ true → list_all is_text (front ++ newer) ≡ true
      all_of [] is = batch_texts
      all_of (text ∷ front) is = let parts = and_parts (is_text text) (list_all is_text front) is in both_true parts.0 (all_of front parts.1)

  pub added_is : lines_of headed ++ 32 ∷ tail ≡ journal_of (heading ∷ (records ++ newer))
  added_is =
      sym (append_assoc (lines_of headed) (lines_of newer) (35 ∷ []))
      ∙ ap (λ (l : List ℕ). l ++ 35 ∷ []) (sym (flat_map-append line_of headed newer))

  shut_texts : (rest : List ℕ) → texts_of (lines_of headed ++ 35 ∷ rest) ≡ headed
  shut_texts rest = lines_then headed (35 ∷ rest) all (shuts 35 rest (omega arith))

  open_texts : texts_of (lines_of headed ++ 32 ∷ tail) ≡ heading ∷ (records ++ newer)
  open_texts = ap texts_of added_is ∙ journal_texts (heading ∷ (records ++ newer)) (both_true refl both_texts)

  pub added_records : (new : List ℕ) → new ≡ lines_of headed ++ 32 ∷ tail → records_of new ≡ records ++ newer
  added_records new is = records_are new (records ++ newer) (ap texts_of is ∙ open_texts)

  pub put_crash : (c : List ℕ) → IsAdding (lines_of headed) tail c → IsBeforeOrAfter records newer c
  put_crash c (inl shut) = inl (records_are c records (ap texts_of shut.1 ∙ shut_texts shut.0))
  put_crash c (inr gate) = elim (cases_eq gate.0 32) [
    | inl opened ↦ inr (added_records c (gate.1 ∙ ap (λ (g : ℕ). lines_of headed ++ g ∷ tail) opened))
    | inr shut ↦ inl (records_are c records (ap texts_of gate.1 ∙ lines_then headed (gate.0 ∷ tail) all (shuts gate.0 tail shut)))
  ]

-- the front of a journal at rest is its lines, after which is its gate
module _ (file : List ℕ) (gate : ℕ) (rest : IsAtRest file gate) where
  pub rest_lines : take gate file ≡ lines_of (heading ∷ rest.records)
  rest_lines = ap (λ (l : List ℕ). take gate l) rest.is ∙ take_at (lines_of (heading ∷ rest.records)) (35 ∷ []) gate (sym rest.size)

  pub rest_records : records_of file ≡ rest.records
  rest_records = records_are file rest.records (ap texts_of rest.is ∙ journal_texts (heading ∷ rest.records) (both_true refl rest.texts))

module _ (file : List ℕ) (gate : ℕ) (rest : IsAtRest file gate) (added : List ℕ) where
  -- a batch that has lines, and its bytes after the first gate
  pub put_records : (batch : List (List ℕ)) → list_all is_text batch ≡ true → batch ≢ [] → added ≡ drop 1 (journal_of batch)
      → (new : List ℕ) → new ≡ take gate file ++ 32 ∷ added → records_of new ≡ records_of file ++ batch
  put_records [] texts some is new done = absurd (some refl)
  put_records (first ∷ others) texts some is new done =
      added_records rest.records first others rest.texts texts new
      (done ∙ ap (λ (l : List ℕ). l ++ 32 ∷ added) (rest_lines file gate rest) ∙ ap (λ (l : List ℕ). lines_of (heading ∷ rest.records) ++ 32 ∷ l) is)
      ∙ ap (λ (rs : List (List ℕ)). rs ++ first ∷ others) (sym (rest_records file gate rest))

  pub put_rest : (batch : List (List ℕ)) → list_all is_text batch ≡ true → batch ≢ [] → added ≡ drop 1 (journal_of batch)
      → (new : List ℕ) → new ≡ take gate file ++ 32 ∷ added → (next : ℕ) → next ≡ gate + length added → IsAtRest new next
  put_rest [] texts some is new done next sum = absurd (some refl)
  put_rest (first ∷ others) texts some is new done next sum =
      let lines = lines_of (heading ∷ rest.records) in
      let new_is : new ≡ lines ++ 32 ∷ added = done ∙ ap (λ (l : List ℕ). l ++ 32 ∷ added) (rest_lines file gate rest) in
      let whole : new ≡ journal_of (heading ∷ (rest.records ++ first ∷ others)) =
      new_is ∙ ap (λ (l : List ℕ). lines ++ 32 ∷ l) is ∙ added_is rest.records first others rest.texts texts in
      record {
        records = rest.records ++ first ∷ others;
        texts = both_texts rest.records first others rest.texts texts;
        is = whole;
        size =
            omega (
              arith,
              sum,
              rest.size,
              ap length new_is,
              ap length whole,
              length-append lines (32 ∷ added),
              length-append (lines_of (heading ∷ (rest.records ++ first ∷ others))) (35 ∷ []),
            );
      }

  pub put_leaves : (batch : List (List ℕ)) → list_all is_text batch ≡ true → batch ≢ [] → added ≡ drop 1 (journal_of batch)
      → (c : List ℕ) → IsAdding (take gate file) added c → IsBeforeOrAfter (records_of file) batch c
  put_leaves [] texts some is c adding = absurd (some refl)
  put_leaves (first ∷ others) texts some is c adding =
      subst (λ (rs : List (List ℕ)). IsBeforeOrAfter rs (first ∷ others) c) (sym (rest_records file gate rest))
      (put_crash rest.records first others rest.texts texts c
      (subst (λ (l : List ℕ). IsAdding (lines_of (heading ∷ rest.records)) l c) is
      (subst (λ (l : List ℕ). IsAdding l added c) (rest_lines file gate rest) adding)))

  bare : (more : List ℕ) → length more ≤ length added → (records_of file ≡ []) ⊎ (length added ≤ 65538)
      → (length (heading ∷ rest.records) ≤ 1) ⊎ (length more ≤ 65538)
  bare more within (inl none) = inl (omega (arith, ap length (sym (rest_records file gate rest) ∙ none)))
  bare more within (inr few) = inr (omega (arith, within, few))

  pub put_opens : (batch : List (List ℕ)) → list_all is_text batch ≡ true → batch ≢ [] → added ≡ drop 1 (journal_of batch)
      → (records_of file ≡ []) ⊎ (length added ≤ 65538) → (c : List ℕ) → IsAddingMixed (take gate file) added c → IsOpenable c
  put_opens [] texts some is few c adding = absurd (some refl)
  put_opens (first ∷ others) texts some is few c (inl shut) =
      opens rest.records (35 ∷ shut.0) c (both_true refl rest.texts) (shuts 35 shut.0 (omega arith))
      (shut_end (heading ∷ rest.records) shut.0 (bare shut.0 shut.1 few))
      (shut.2 ∙ ap (λ (l : List ℕ). l ++ 35 ∷ shut.0) (rest_lines file gate rest))
  put_opens (first ∷ others) texts some is few c (inr open_is) =
      opens (rest.records ++ first ∷ others) (35 ∷ []) c (both_true refl (both_texts rest.records first others rest.texts texts)) refl refl
      (open_is ∙ ap (λ (l : List ℕ). l ++ 32 ∷ added) (rest_lines file gate rest)
      ∙ ap (λ (l : List ℕ). lines_of (heading ∷ rest.records) ++ 32 ∷ l) is ∙ added_is rest.records first others rest.texts texts)
