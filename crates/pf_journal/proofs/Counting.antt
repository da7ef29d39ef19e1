-- How many lines stand in a file.
use Rattle.std.proofs.Common.{◌≡◌, ℕ, ◌+◌, ◌-◌, Bool, true, false, List, [], ◌∷◌, ◌++◌, length, refl, sym, ◌∙◌, ap, arith, append_assoc, drop, if◌then◌else◌, length-drop, ◌≢◌}
use Rattle.std.proofs.lemmas.Bool.Decides.{nat_tests}
use Rattle.std.specs.List.{list_all}
use Rattle.std.proofs.lemmas.Bool.{and_parts}
use Rattle.pf_journal.specs.Lines.{ends_in, is_new, is_text, lines_of, records_of, script_of, texts_of}
use Rattle.pf_journal.proofs.Reading.{text_parts, texts_of-all}

ended_not : (byte : ℕ) (rest : List ℕ) → byte ≢ 10 → ends_in (byte ∷ rest) ≡ ends_in rest
ended_not byte rest other = grind (arith, nat_tests)

text_ends : (text rest : List ℕ) → is_text text ≡ true → ends_in (text ++ rest) ≡ ends_in rest
text_ends [] rest is = refl
text_ends (byte ∷ text) rest is =
    let parts = text_parts byte text is in
    ended_not byte (text ++ rest) parts.0 ∙ text_ends text rest parts.1

pub lines_end : (texts : List (List ℕ)) → list_all is_text texts ≡ true → ends_in (lines_of texts) ≡ length texts
lines_end [] all = refl
lines_end (text ∷ texts) all =
    let parts = and_parts (is_text text) (list_all is_text texts) all in
    ap ends_in (append_assoc text (10 ∷ []) (lines_of texts)) ∙ text_ends text (10 ∷ lines_of texts) parts.0
    ∙ ap (λ n. n + 1) (lines_end texts parts.1) ∙ omega arith

counted : (new : Bool) (texts : List (List ℕ)) → list_all is_text texts ≡ true
    → ends_in (if new then [] else lines_of texts) - 1 ≡ length (if new then [] else drop 1 texts)
counted true texts all = refl
counted false texts all = ap (λ n. n - 1) (lines_end texts all) ∙ sym (length-drop 1 texts)

-- Use: the lines of its script, but for the heading, are its records.
pub records_counted : (file : List ℕ) → ends_in (script_of file) - 1 ≡ length (records_of file)
records_counted file = counted (is_new file) (texts_of file) (texts_of-all file)
