-- A text without comments, read with and without them.
use Rattle.std.proofs.Common.{◌≡◌, ◌==◌, ◌++◌, ◌∷◌, [], ℕ, List, false, refl, inl, inr, sym, ◌∙◌}
use Rattle.std.specs.Prelude.{⊤}
use Rattle.std.proofs.lemmas.Bool.{cases_Bool}
use Rattle.csv.specs.Machine.{next_record}
use Rattle.csv.specs.Reading.{default_config}
use Rattle.csv.specs.declared.parser.State.{State}
use Rattle.csv.specs.declared.parser.State.TheVariants as st
use Rattle.csv.proofs.RoundTrip.{record-same}
use Rattle.pf_text.specs.Rows.Places.{row_config}

-- in a record, and not after an escape
abbrev IsInside : State → Type 0
IsInside st.StartField = ⊤
IsInside st.InField = ⊤
IsInside st.InQuoted = ⊤
IsInside st.AfterQuote = ⊤
IsInside st.StartRecord = ⊥
IsInside st.InEscape = ⊥
IsInside st.InComment = ⊥
IsInside st.AfterCr = ⊥

pub inside_alike : (s : State) (fields : List (List ℕ)) (field text : List ℕ) → IsInside s
    → next_record row_config s fields field text ≡ next_record default_config s fields field text
unfolding next_record
inside_alike s fields field [] i = refl
inside_alike st.StartField fields field (c ∷ rest) i = elim (cases_Bool (c == 34)) [
  | inl quote ↦ rw quote (inside_alike st.InQuoted fields field rest tt)
  | inr no_quote ↦ elim (cases_Bool (c == 44)) [
    | inl comma ↦ rw (no_quote, comma) (inside_alike st.StartField (fields ++ (field ∷ [])) [] rest tt)
    | inr no_comma ↦ elim (cases_Bool (c == 13)) [
      | inl cr ↦ rw (no_quote, no_comma, cr) refl
      | inr no_cr ↦ elim (cases_Bool (c == 10)) [
        | inl lf ↦ rw (no_quote, no_comma, no_cr, lf) refl
        | inr no_lf ↦ rw (no_quote, no_comma, no_cr, no_lf) (inside_alike st.InField fields (field ++ (c ∷ [])) rest tt)
      ]
    ]
  ]
]
inside_alike st.InField fields field (c ∷ rest) i = elim (cases_Bool (c == 44)) [
  | inl comma ↦ rw comma (inside_alike st.StartField (fields ++ (field ∷ [])) [] rest tt)
  | inr no_comma ↦ elim (cases_Bool (c == 13)) [
    | inl cr ↦ rw (no_comma, cr) refl
    | inr no_cr ↦ elim (cases_Bool (c == 10)) [
      | inl lf ↦ rw (no_comma, no_cr, lf) refl
      | inr no_lf ↦ rw (no_comma, no_cr, no_lf) (inside_alike st.InField fields (field ++ (c ∷ [])) rest tt)
    ]
  ]
]
inside_alike st.InQuoted fields field (c ∷ rest) i = elim (cases_Bool (c == 34)) [
  | inl quote ↦ rw quote (inside_alike st.AfterQuote fields field rest tt)
  | inr no_quote ↦ rw no_quote (inside_alike st.InQuoted fields (field ++ (c ∷ [])) rest tt)
]
inside_alike st.AfterQuote fields field (c ∷ rest) i = elim (cases_Bool (c == 34)) [
  | inl quote ↦ rw quote (inside_alike st.InQuoted fields (field ++ (c ∷ [])) rest tt)
  | inr no_quote ↦ elim (cases_Bool (c == 44)) [
    | inl comma ↦ rw (no_quote, comma) (inside_alike st.StartField (fields ++ (field ∷ [])) [] rest tt)
    | inr no_comma ↦ elim (cases_Bool (c == 13)) [
      | inl cr ↦ rw (no_quote, no_comma, cr) refl
      | inr no_cr ↦ elim (cases_Bool (c == 10)) [
        | inl lf ↦ rw (no_quote, no_comma, no_cr, lf) refl
        | inr no_lf ↦ rw (no_quote, no_comma, no_cr, no_lf) (inside_alike st.InField fields (field ++ (c ∷ [])) rest tt)
      ]
    ]
  ]
]
inside_alike st.StartRecord fields field (c ∷ rest) i = absurd i
inside_alike st.InEscape fields field (c ∷ rest) i = absurd i
inside_alike st.InComment fields field (c ∷ rest) i = absurd i
inside_alike st.AfterCr fields field (c ∷ rest) i = absurd i

begins_field : (c : ℕ) (rest : List ℕ) → (c == 13) ≡ false → (c == 10) ≡ false → (35 == c) ≡ false
    → next_record row_config st.StartRecord [] [] (c ∷ rest) ≡ next_record row_config st.StartField [] [] (c ∷ rest)
unfolding next_record
begins_field c rest no_cr no_lf no_mark = rw (no_cr, no_lf, no_mark) refl

-- a record that begins with no mark
pub record_alike : (c : ℕ) (rest : List ℕ) → (c == 13) ≡ false → (c == 10) ≡ false → (35 == c) ≡ false
    → next_record row_config st.StartRecord [] [] (c ∷ rest) ≡ next_record default_config st.StartRecord [] [] (c ∷ rest)
record_alike c rest no_cr no_lf no_mark =
    begins_field c rest no_cr no_lf no_mark ∙ inside_alike st.StartField [] [] (c ∷ rest) tt ∙ sym (record-same [] [] c rest no_cr no_lf)
