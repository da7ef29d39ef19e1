-- Records after records on a page.
use Rattle.std.proofs.Common.{◌≡◌, ◌∙◌, ℕ, List, [], ◌∷◌, ◌++◌, Result, Ok, Err, ap, append_assoc, sym}
use Rattle.std.specs.Prelude.{OnOk}
use Rattle.std.proofs.lemmas.List.{append-nil}
use Rattle.std.proofs.lemmas.List.Concat.{flat_map-cons}
use Rattle.csv.specs.Writing.{row_text, default_writer}
use Rattle.pf_text.specs.Page.{Page, table_text, with_record}
use Rattle.pf_diff.specs.Written.{with_records}
use Rattle.pf_diff.proofs.SideBySide.{table_append}

pub records_more : (page : Page) (xs ys : List (List (List ℕ))) → with_records (with_records page xs) ys ≡ with_records page (xs ++ ys)
records_more page xs ys =
    ap (λ text. let p : Page = record { text = text; fields = [] } in p)
    (append_assoc page.text (table_text xs) (table_text ys) ∙ ap (λ text. page.text ++ text) (sym (table_append xs ys)))

-- five lots of records, one after another
pub five_lots : {A E : Type 0} (r : Result A E) (p0 p1 p2 p3 p4 p5 : Page) (a b c d e : List (List (List ℕ))) →
    p1 ≡ with_records p0 a → p2 ≡ with_records p1 b → p3 ≡ with_records p2 c → p4 ≡ with_records p3 d → OnOk r (p5 ≡ with_records p4 e) →
    OnOk r (p5 ≡ with_records p0 (a ++ (b ++ (c ++ (d ++ e)))))
five_lots (Err x) p0 p1 p2 p3 p4 p5 a b c d e h1 h2 h3 h4 h5 = tt
five_lots (Ok x) p0 p1 p2 p3 p4 p5 a b c d e h1 h2 h3 h4 h5 =
    h5 ∙ ap (λ p. with_records p e) h4 ∙ records_more p3 d e
    ∙ ap (λ p. with_records p (d ++ e)) h3 ∙ records_more p2 c (d ++ e)
    ∙ ap (λ p. with_records p (c ++ (d ++ e))) h2 ∙ records_more p1 b (c ++ (d ++ e))
    ∙ ap (λ p. with_records p (b ++ (c ++ (d ++ e)))) h1 ∙ records_more p0 a (b ++ (c ++ (d ++ e)))

one_record : (page : Page) (a : List (List ℕ)) → with_record page a ≡ with_records page (a ∷ [])
one_record page a =
    ap (λ text. let p : Page = record { text = page.text ++ text; fields = [] } in p)
    (sym (flat_map-cons (row_text default_writer) a [] ∙ append-nil (row_text default_writer a)))

-- three records, one after another
pub three_records : {A E : Type 0} (r : Result A E) (p0 p1 p2 p3 : Page) (a b c : List (List ℕ)) →
    p1 ≡ with_record p0 a → p2 ≡ with_record p1 b → OnOk r (p3 ≡ with_record p2 c) → OnOk r (p3 ≡ with_records p0 (a ∷ b ∷ c ∷ []))
three_records (Err x) p0 p1 p2 p3 a b c h1 h2 h3 = tt
three_records (Ok x) p0 p1 p2 p3 a b c h1 h2 h3 =
    h3 ∙ one_record p2 c
    ∙ ap (λ p. with_records p (c ∷ [])) (h2 ∙ one_record p1 b) ∙ records_more p1 (b ∷ []) (c ∷ [])
    ∙ ap (λ p. with_records p (b ∷ c ∷ [])) (h1 ∙ one_record p0 a) ∙ records_more p0 (a ∷ []) (b ∷ c ∷ [])

-- a table after its head
pub behind_head : (text rest head : List ℕ) (title heading : List (List ℕ)) (records : List (List (List ℕ))) →
    text ≡ head ++ rest → head ≡ table_text (title ∷ heading ∷ []) → rest ≡ table_text records →
    text ≡ table_text (title ∷ heading ∷ records)
behind_head text rest head title heading records is of_head of_rest =
    is ∙ ap (λ h. h ++ rest) of_head ∙ ap (λ t. table_text (title ∷ heading ∷ []) ++ t) of_rest
    ∙ sym (table_append (title ∷ heading ∷ []) records)

-- the same records, told otherwise
pub relabelled : {A E : Type 0} (r : Result A E) (p q q' : Page) → OnOk r (p ≡ q) → q ≡ q' → OnOk r (p ≡ q')
relabelled (Err x) p q q' h same = tt
relabelled (Ok x) p q q' h same = h ∙ same
