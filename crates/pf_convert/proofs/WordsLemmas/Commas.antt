-- Quanta that commas join, byte by byte.
use Rattle.std.proofs.Common.{◌≡◌, ℕ, ◌+◌, ◌-◌, ◌<◌, ◌≤◌, ◌∙◌, List, [], ◌∷◌, ◌++◌, drop, length, get_or, Result, Ok, Err, refl, sym, ap, arith, length-drop}
use Rattle.std.specs.Prelude.{if◌then◌else◌, All}
use Rattle.std.specs.List.{slice_range}
use Rattle.std.proofs.lemmas.Bool.{eq-eqb, ne_eqb}
use Rattle.std.proofs.lemmas.List.{at_drop_more, at_drop_all, take_all}
use Rattle.pf_lemmas.proofs.Lists.{nothing_between, longer}
use Rattle.pf_convert.specs.declared.quantum.TheConstants.{LONGEST_QUANTUM}
use Rattle.pf_vocabulary.specs.declared.names.unit.Unit.{Unit}
use Rattle.pf_convert.specs.List.Times.{◌>>=◌}
use Rattle.pf_convert.specs.declared.words.mistake.ConvertMistake.{ConvertMistake}
use Rattle.pf_convert.specs.Words.Reading.{quanta_from, quanta_given, quantum_added, words_from}

-- the quanta of the text are these and those of the words from the byte `start` on, of which the bytes before `end` were read
pub record IsReadTo (unit : Unit) (text quanta : List ℕ) (start end : ℕ) : Type 0 where
  pub begun : start ≤ end
  pub left : quanta_from unit quanta (words_from (slice_range text start end) (drop end text)) ≡ quanta_given unit text
  pub short : All (λ q. q ≤ LONGEST_QUANTUM) quanta

at_comma : (word text : List ℕ) (end : ℕ) → end < length text → get_or text end 0 ≡ 44
    → words_from word (drop end text) ≡ word ∷ words_from [] (drop (end + 1) text)
unfolding words_from
at_comma word text end lt comma =
    at_drop_more (words_from word) text end 0 lt
    ∙ ap (λ b. if b then word ∷ words_from [] (drop (end + 1) text) else words_from (word ++ get_or text end 0 ∷ []) (drop (end + 1) text))
    (eq-eqb (get_or text end 0) 44 comma)

at_byte : (word text : List ℕ) (end : ℕ) → end < length text → (get_or text end 0 ≡ 44 → ⊥)
    → words_from word (drop end text) ≡ words_from (word ++ get_or text end 0 ∷ []) (drop (end + 1) text)
unfolding words_from
at_byte word text end lt other =
    at_drop_more (words_from word) text end 0 lt
    ∙ ap (λ b. if b then word ∷ words_from [] (drop (end + 1) text) else words_from (word ++ get_or text end 0 ∷ []) (drop (end + 1) text))
    (ne_eqb (get_or text end 0) 44 other)

at_end : (word text : List ℕ) (end : ℕ) → length text ≤ end → words_from word (drop end text) ≡ word ∷ []
unfolding words_from
at_end word text end le = at_drop_all (words_from word) text end le

first_word : (unit : Unit) (quanta word : List ℕ) (words : List (List ℕ)) (r : Result (List ℕ) ConvertMistake) → r ≡ quantum_added unit quanta word
    → quanta_from unit quanta (word ∷ words) ≡ (r >>= λ more. quanta_from unit more words)
unfolding quanta_from
first_word unit quanta word words r e = ap (λ x. x >>= λ more. quanta_from unit more words) (sym e)

last_word : (unit : Unit) (quanta word : List ℕ) → quanta_from unit quanta (word ∷ []) ≡ quantum_added unit quanta word
unfolding quanta_from
last_word unit quanta word = same (quantum_added unit quanta word)
  where
    same : (r : Result (List ℕ) ConvertMistake) → (r >>= λ more. quanta_from unit more []) ≡ r
    same (Ok more) = refl
    same (Err mistake) = refl

pub comma_read : (unit : Unit) (text quanta more : List ℕ) (start end : ℕ) → IsReadTo unit text quanta start end → end < length text
    → get_or text end 0 ≡ 44 → Ok more ≡ quantum_added unit quanta (slice_range text start end) → All (λ q. q ≤ LONGEST_QUANTUM) more
    → IsReadTo unit text more (end + 1) (end + 1)
comma_read unit text quanta more start end h lt comma given short =
    let word = slice_range text start end in
    let rest = words_from [] (drop (end + 1) text) in
    record {
      begun = omega arith;
      left =
          ap (λ w. quanta_from unit more (words_from w (drop (end + 1) text))) (nothing_between text (end + 1))
          ∙ sym (ap (quanta_from unit quanta) (at_comma word text end lt comma) ∙ first_word unit quanta word rest (Ok more) given) ∙ h.left;
      short = short;
    }

pub comma_refused : (unit : Unit) (text quanta : List ℕ) (mistake : ConvertMistake) (start end : ℕ) → IsReadTo unit text quanta start end → end < length text
    → get_or text end 0 ≡ 44 → Err mistake ≡ quantum_added unit quanta (slice_range text start end) → Err mistake ≡ quanta_given unit text
comma_refused unit text quanta mistake start end h lt comma given =
    let word = slice_range text start end in
    sym (ap (quanta_from unit quanta) (at_comma word text end lt comma) ∙ first_word unit quanta word (words_from [] (drop (end + 1) text)) (Err mistake) given)
    ∙ h.left

pub byte_read : (unit : Unit) (text quanta : List ℕ) (start end : ℕ) → IsReadTo unit text quanta start end → end < length text
    → (get_or text end 0 ≡ 44 → ⊥) → IsReadTo unit text quanta start (end + 1)
byte_read unit text quanta start end h lt other = record {
  begun = omega (arith, h.begun);
  left =
      sym (ap (quanta_from unit quanta) (at_byte (slice_range text start end) text end lt other
      ∙ ap (λ w. words_from w (drop (end + 1) text)) (longer text start end h.begun lt))) ∙ h.left;
  short = h.short;
}

pub all_read : (unit : Unit) (text quanta : List ℕ) (start end : ℕ) → IsReadTo unit text quanta start end → length text ≤ end
    → quantum_added unit quanta (slice_range text start (length text)) ≡ quanta_given unit text
all_read unit text quanta start end h le =
    let rest = drop start text in
    let whole : slice_range text start end ≡ slice_range text start (length text) =
    take_all (end - start) rest (omega (arith, length-drop start text, le)) ∙ sym (take_all (length text - start) rest (omega (arith, length-drop start text))) in
    ap (quantum_added unit quanta) (sym whole)
    ∙ sym (ap (quanta_from unit quanta) (at_end (slice_range text start end) text end le) ∙ last_word unit quanta (slice_range text start end)) ∙ h.left
