-- The fields of a good record need no quotes, and have no blanks around them.
use Rattle.std.proofs.Common.{◌≡◌, ◌∙◌, ◌<◌, ◌≤◌, ◌+◌, ◌==◌, ℕ, Bool, true, false, List, [], ◌∷◌, Option, None, Some, Result, Ok, Err, All, codes, length, refl, sym, ap, subst, arith, inl, inr}
use Rattle.std.specs.Prelude.{⊤, if◌then◌else◌, nat_le, nat_lt, ok_or, ◌||◌}
use Rattle.std.specs.Char.{is_ascii_digit}
use Rattle.std.specs.Str.{all_ascii_digits, bytes_eq}
use Rattle.std.specs.Str.Parse.{digits_value}
use Rattle.std.proofs.lemmas.Bool.{cases_Bool, eqb-true, and_parts, and_right}
use Rattle.std.proofs.lemmas.Bool.Decides.{nat_tests}
use Rattle.std.proofs.lemmas.List.{take_all}
use Rattle.std.proofs.lemmas.List.Elements.{All-head, All-tail}
use Rattle.std.proofs.lemmas.Slice.Eq.{bytes_eq-Decides}
use Rattle.csv.specs.Records.{trim_end, trim_start}
use Rattle.pf_lemmas.proofs.Digits.{digit_dark}
use Rattle.pf_script_laws.proofs.ConversionsLemmas.Plain.{name_plain, plain_digits}
use Rattle.pf_vocabulary.specs.Names.Names.{task_of}
use Rattle.pf_vocabulary.specs.Names.Text.{is_letter_first, is_text}
use Rattle.pf_vocabulary.specs.declared.names.named.Named.{Named}
use Rattle.pf_script.specs.Fields.{field, is_word, number}
use Rattle.pf_text.specs.Numbers.{number_of}
use Rattle.pf_script.specs.Plan.Labels.{number_of_label}
use Rattle.pf_script.specs.Plan.Parsing.{◌>>=◌, early_at, fault_at, id_at, number_or, number_within, of_length, task_at, within}
use Rattle.pf_script.specs.declared.plan.fault.Reason.{Reason}
use Rattle.pf_script.specs.declared.plan.fault.Reason.TheVariants.{LabelUnknown, NoNumber, NoTask}
use Rattle.pf_script.specs.declared.plan.fault.RecordFault.{RecordFault}
use Rattle.pf_script.specs.declared.plan.labels.Labelled.{Labelled}
use Rattle.pf_script.specs.declared.plan.said.Said.{Said}
use Rattle.pf_script.specs.declared.plan.said.Said.TheVariants.{Settings, Slot, Name, Asks}
use Rattle.pf_script.specs.declared.plan.state.Progress.{Progress}
use Rattle.pf_session_laws.proofs.Reading.{IsPlain}

-- names and labels are texts
pub record AreTexts (p : Progress) : Type 0 where
  pub names : All (λ n. is_text n.name ≡ true) p.names
  pub labels : All (λ l. is_text l.name ≡ true) p.labels

-- the fields from a place on
abbrev pub PlainFrom : List (List ℕ) → ℕ → Type 0
PlainFrom fields place = (k : ℕ) → place ≤ k → k < length fields → IsPlain (field fields k)

-- a word at a place, and such fields from there on
abbrev pub IsWorded : List (List ℕ) → ℕ → Type 0
IsWorded fields place = (is_letter_first (field fields place) ≡ true) × PlainFrom fields place

-- the name or the label that a record gives is a text
abbrev pub GivesText : Said → Type 0
GivesText (Settings s) = ⊤
GivesText (Slot length) = ⊤
GivesText (Name task name) = is_text name ≡ true
GivesText (Asks line None) = ⊤
GivesText (Asks line (Some label)) = is_text label ≡ true

pub none_from : (fields : List (List ℕ)) (place : ℕ) → length fields ≤ place → PlainFrom fields place
none_from fields place few k at lt = absurd (omega (arith, few, at, lt))

pub one_more : (fields : List (List ℕ)) (place next : ℕ) → next ≡ place + 1 → IsPlain (field fields place) → PlainFrom fields next → PlainFrom fields place
one_more fields place next is plain more k at lt = elim (cases_Bool (k == place)) [
  | inl same ↦ subst (λ (n : ℕ). IsPlain (field fields n)) (sym (eqb-true k place same)) plain
  | inr other ↦ more k (grind (arith, nat_tests, other, at, is)) lt
]

-- two steps that gave a value
pub both : {A B : Type 0} (r : Result A RecordFault) (f : A → Result B RecordFault) (b : B) → (r >>= f) ≡ Ok b → (a : A) × (r ≡ Ok a) × (f a ≡ Ok b)
both (Ok a) f b e = (a, refl, e)
both (Err fault) f b e = let bad : Err fault ≡ Ok b = e in cc

pub some_from : {A : Type 0} (o : Option A) (fault : RecordFault) (a : A) → ok_or o fault ≡ Ok a → o ≡ Some a
some_from None fault a e = let bad : Err fault ≡ Ok a = e in cc
some_from (Some x) fault a e = let same : x ≡ a = cc in ap Some same

pub at_most : (fields : List (List ℕ)) (least most : ℕ) (reason : Reason) (done : ⊤) → of_length fields least most reason ≡ Ok done → length fields ≤ most
at_most fields least most reason done e = by (nat_lt (length fields) least) (nat_lt most (length fields)) refl e
  where
    by : (few many : Bool) → nat_lt most (length fields) ≡ many
        → (if few then Err (fault_at (length fields) reason) else if many then Err (fault_at most reason) else Ok tt) ≡ Ok done → length fields ≤ most
    by true many is e = let bad : Err (fault_at (length fields) reason) ≡ Ok done = e in cc
    by false true is e = let bad : Err (fault_at most reason) ≡ Ok done = e in cc
    by false false is e = grind (arith, nat_tests, is)

end_digits : (bs : List ℕ) → all_ascii_digits bs ≡ true → trim_end bs ≡ length bs
unfolding trim_end
end_digits [] all = refl
end_digits (b ∷ bs) all =
    let dark = digit_dark b (and_parts (is_ascii_digit b) (all_ascii_digits bs) all).0 in
    let more : trim_end bs ≡ length bs = end_digits bs (and_parts (is_ascii_digit b) (all_ascii_digits bs) all).1 in
    rw (dark, and_right (trim_end bs == 0) false refl) (omega (arith, more))

start_digits : (bs : List ℕ) → all_ascii_digits bs ≡ true → trim_start bs ≡ bs
unfolding trim_start
start_digits [] all = refl
start_digits (b ∷ bs) all = rw (digit_dark b (and_parts (is_ascii_digit b) (all_ascii_digits bs) all).0) refl

digits_plain : (bs : List ℕ) → all_ascii_digits bs ≡ true → IsPlain bs
digits_plain bs all = (plain_digits bs all, rw (start_digits bs all, end_digits bs all) (take_all (length bs) bs (omega arith)))

number_plain : (bytes : List ℕ) (n : ℕ) → number_of bytes ≡ Some n → IsPlain bytes
unfolding number_of
number_plain bytes n e = by (length bytes == 0) (nat_lt 15 (length bytes)) (all_ascii_digits bytes) refl e
  where
    by : (empty long digits : Bool) → all_ascii_digits bytes ≡ digits
        → (if empty || long then None else if digits then Some (digits_value 10 bytes) else None) ≡ Some n → IsPlain bytes
    by true long digits d e = let bad : None ≡ Some n = e in cc
    by false true digits d e = let bad : None ≡ Some n = e in cc
    by false false false d e = let bad : None ≡ Some n = e in cc
    by false false true d e = digits_plain bytes d

pub or_plain : (reason : Reason) (fields : List (List ℕ)) (place n : ℕ) → number_or reason fields place ≡ Ok n → IsPlain (field fields place)
unfolding number_or
or_plain reason fields place n e = number_plain (field fields place) n (some_from (number fields place) (fault_at place reason) n e)

pub within_plain : (reason : Reason) (fields : List (List ℕ)) (place most n : ℕ) → number_within reason fields place most ≡ Ok n → IsPlain (field fields place)
unfolding number_within
within_plain reason fields place most n e =
    let a = both (number_or reason fields place) (within place most) n e in
    or_plain reason fields place a.0 a.1

-- words
pub word_is : (fields : List (List ℕ)) (place : ℕ) (word : List ℕ) → is_word fields place word ≡ true → field fields place ≡ word
unfolding is_word
word_is fields place word e = (bytes_eq-Decides (field fields place) word).0 e

pub worded : (fields : List (List ℕ)) (place next : ℕ) (word : List ℕ) → next ≡ place + 1 → is_letter_first word ≡ true → IsPlain word
    → is_word fields place word ≡ true → PlainFrom fields next → IsWorded fields place
worded fields place next word is first plain e more =
    let same : field fields place ≡ word = word_is fields place word e in
    (ap is_letter_first same ∙ first, one_more fields place next is (subst IsPlain (sym same) plain) more)

pub event_words : IsPlain (codes "join") × IsPlain (codes "leave") × IsPlain (codes "delay") × IsPlain (codes "limit")
unfolding trim_start trim_end
event_words = ((refl, refl), (refl, refl), (refl, refl), (refl, refl))

pub change_words : IsPlain (codes "strike") × IsPlain (codes "alter") × IsPlain (codes "label") × IsPlain (codes "strict")
unfolding trim_start trim_end
change_words = ((refl, refl), (refl, refl), (refl, refl), (refl, refl))

pub again_word : IsPlain (codes "again")
unfolding trim_start trim_end
again_word = (refl, refl)

pub record_words : IsPlain (codes "step") × IsPlain (codes "slot") × IsPlain (codes "name") × IsPlain (codes "settings") × IsPlain (codes "full")
unfolding trim_start trim_end
record_words = ((refl, refl), (refl, refl), (refl, refl), (refl, refl), (refl, refl))

pub unit_words : IsPlain (codes "ns") × IsPlain (codes "us") × IsPlain (codes "ms") × IsPlain (codes "s")
unfolding trim_start trim_end
unit_words = ((refl, refl), (refl, refl), (refl, refl), (refl, refl))

-- names and labels that were given
same_text : (a b : List ℕ) → bytes_eq a b ≡ true → is_text a ≡ true → is_text b ≡ true
same_text a b same text = subst (λ (t : List ℕ). is_text t ≡ true) ((bytes_eq-Decides a b).0 same) text

named_text : (names : List Named) (name : List ℕ) (n : ℕ) → All (λ m. is_text m.name ≡ true) names → task_of names name ≡ Some n → is_text name ≡ true
named_text [] name n texts e = let bad : None ≡ Some n = e in cc
named_text (m ∷ names) name n texts e =
    by (bytes_eq m.name name) refl e (λ k. named_text names name n (All-tail (λ m. is_text m.name ≡ true) m names texts) k)
  where
    by : (b : Bool) → bytes_eq m.name name ≡ b → (if b then Some m.task else task_of names name) ≡ Some n → (task_of names name ≡ Some n → is_text name ≡ true) → is_text name ≡ true
    by true same e more = same_text m.name name same (All-head (λ m. is_text m.name ≡ true) m names texts)
    by false other e more = more e

labelled_text : (labels : List Labelled) (label : List ℕ) (n : ℕ) → All (λ l. is_text l.name ≡ true) labels → number_of_label labels label ≡ Some n → is_text label ≡ true
labelled_text [] label n texts e = let bad : None ≡ Some n = e in cc
labelled_text (l ∷ labels) label n texts e =
    by (bytes_eq l.name label) refl e (λ k. labelled_text labels label n (All-tail (λ l. is_text l.name ≡ true) l labels texts) k)
  where
    by : (b : Bool) → bytes_eq l.name label ≡ b → (if b then Some l.number else number_of_label labels label) ≡ Some n
        → (number_of_label labels label ≡ Some n → is_text label ≡ true) → is_text label ≡ true
    by true same e more = same_text l.name label same (All-head (λ l. is_text l.name ≡ true) l labels texts)
    by false other e more = more e

pub task_plain : (names : List Named) (fields : List (List ℕ)) (place n : ℕ) → All (λ m. is_text m.name ≡ true) names → task_at names fields place ≡ Ok n → IsPlain (field fields place)
unfolding task_at
task_plain names fields place n texts e = by (is_letter_first (field fields place)) e
  where
    by : (b : Bool) → (if b then ok_or (task_of names (field fields place)) (fault_at place NoTask) else number_or NoNumber fields place) ≡ Ok n → IsPlain (field fields place)
    by true e = name_plain (field fields place) (named_text names (field fields place) n texts (some_from (task_of names (field fields place)) (fault_at place NoTask) n e))
    by false e = or_plain NoNumber fields place n e

pub id_plain : (labels : List Labelled) (fields : List (List ℕ)) (place n : ℕ) → All (λ l. is_text l.name ≡ true) labels → id_at labels fields place ≡ Ok n → IsPlain (field fields place)
unfolding id_at
id_plain labels fields place n texts e = by (is_letter_first (field fields place)) e
  where
    by : (b : Bool) → (if b then ok_or (number_of_label labels (field fields place)) (fault_at place LabelUnknown) else number_or NoNumber fields place) ≡ Ok n → IsPlain (field fields place)
    by true e = name_plain (field fields place) (labelled_text labels (field fields place) n texts (some_from (number_of_label labels (field fields place)) (fault_at place LabelUnknown) n e))
    by false e = or_plain NoNumber fields place n e

pub early_plain : (fields : List (List ℕ)) (place next n : ℕ) → next ≡ place + 1 → length fields ≤ next → early_at fields place ≡ Ok n → PlainFrom fields place
unfolding early_at
early_plain fields place next n is few e = by (nat_le (length fields) place) refl e
  where
    by : (b : Bool) → nat_le (length fields) place ≡ b → (if b then Ok 0 else number_or NoNumber fields place) ≡ Ok n → PlainFrom fields place
    by true none e = none_from fields place (grind (arith, nat_tests, none))
    by false some e = one_more fields place next is (or_plain NoNumber fields place n e) (none_from fields next few)
