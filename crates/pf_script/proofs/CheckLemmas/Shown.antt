-- The lines of messages, one after another.
use Rattle.std.proofs.Common.{◌≡◌, ◌<◌, ◌+◌, ◌-◌, ◌==◌, ℕ, Bool, true, false, cond, List, [], ◌∷◌, ◌++◌, ◌∙◌, fold, codes, refl, sym, ap, ap₂, arith, append_assoc, append-nil}
use Rattle.std.specs.Prelude.{min, not, count_by, if◌then◌else◌}
use Rattle.std.proofs.lemmas.Bool.{ne_eqb}
use Rattle.std.proofs.lemmas.List.Sums.{sum_by-cons}
use Rattle.pf_script.specs.Messages.Lines.{FaultMessage}
use Rattle.pf_script.specs.Check.Faults.{count_lacking, message_lines, message_text, others_text, own_lines}
use Rattle.pf_script.specs.Check.Lines.{Lines, after_message, after_lacking, after_own, count_of, text_of}

-- how many pass a test, of the first and of the others
pub count_by-cons : {A : Type 0} (test : A → Bool) (x : A) (xs : List A) → count_by test (x ∷ xs) ≡ cond (test x) 1 0 + count_by test xs
count_by-cons test x xs = sum_by-cons (λ y. cond (test y) 1 0) x xs

-- no number above 0 is 0
above : (n : ℕ) → 0 < n → (n == 0) ≡ false
above n h = ne_eqb n 0 (λ e. absurd (omega (arith, h, e)))

lacking_more : (f : FaultMessage) (fs : List FaultMessage) → count_lacking (f ∷ fs) ≡ cond f.lacks 1 0 + count_lacking fs
lacking_more f fs = count_by-cons (λ (g : FaultMessage). g.lacks) f fs

own_more : (f : FaultMessage) (fs : List FaultMessage) → count_by (λ (g : FaultMessage). not g.lacks) (f ∷ fs) ≡ cond (not f.lacks) 1 0 + count_by (λ (g : FaultMessage). not g.lacks) fs
own_more f fs = count_by-cons (λ (g : FaultMessage). not g.lacks) f fs

-- where some lack settings, with so many more of them and these lines after
abbrev text_with : Lines → ℕ → List ℕ → List ℕ
text_with s more lines = s.head ++ others_text (s.lacking - 1 + more) ++ codes "\n" ++ (s.tail ++ lines)

text_later : (s : Lines) → 0 < s.lacking → text_of s ≡ text_with s 0 []
text_later s some =
    rw (above s.lacking some)
    (ap₂ (λ n t. s.head ++ others_text n ++ codes "\n" ++ t) (omega arith) (sym (append-nil s.tail)))

later_lacking : (s : Lines) (f : FaultMessage) (fs : List FaultMessage) → 0 < s.lacking → f.lacks ≡ true
    → text_with (after_lacking f s) (count_lacking fs) (own_lines fs) ≡ text_with s (count_lacking (f ∷ fs)) (own_lines (f ∷ fs))
later_lacking s f fs some lacks =
    let more : s.lacking + 1 - 1 + count_lacking fs ≡ s.lacking - 1 + count_lacking (f ∷ fs) =
    omega (arith, some, lacking_more f fs, ap {B = ℕ} (λ b. cond b 1 0) lacks) in
    let own : own_lines fs ≡ own_lines (f ∷ fs) = rw lacks refl in
    rw (above s.lacking some) (ap₂ (λ n t. s.head ++ others_text n ++ codes "\n" ++ (s.tail ++ t)) more own)

later_own : (s : Lines) (f : FaultMessage) (fs : List FaultMessage) → 0 < s.lacking → f.lacks ≡ false
    → text_with (after_own f s) (count_lacking fs) (own_lines fs) ≡ text_with s (count_lacking (f ∷ fs)) (own_lines (f ∷ fs))
later_own s f fs some lacks =
    rw (above s.lacking some, lacks)
    (ap₂ (λ n t. s.head ++ others_text n ++ codes "\n" ++ t)
    (omega (arith, lacking_more f fs, ap {B = ℕ} (λ b. cond b 1 0) lacks))
    (append_assoc s.tail (message_text f) (own_lines fs)))

-- after the first record that lacks settings
first_by : (s : Lines) (f : FaultMessage) (fs : List FaultMessage) (b : Bool) → f.lacks ≡ b → 0 < s.lacking
    → ((t : Lines) → 0 < t.lacking → text_of (fold after_message t fs) ≡ text_with t (count_lacking fs) (own_lines fs))
    → text_of (fold after_message (if b then after_lacking f s else after_own f s) fs) ≡ text_with s (count_lacking (f ∷ fs)) (own_lines (f ∷ fs))
first_by s f fs true is some rest = rest (after_lacking f s) (omega arith) ∙ later_lacking s f fs some is
first_by s f fs false is some rest = rest (after_own f s) some ∙ later_own s f fs some is

after_first : (s : Lines) (fs : List FaultMessage) → 0 < s.lacking
    → text_of (fold after_message s fs) ≡ text_with s (count_lacking fs) (own_lines fs)
after_first s [] some = text_later s some
after_first s (f ∷ fs) some = first_by s f fs f.lacks refl some (λ t h. after_first t fs h)

-- before it
four : (a b c d : List ℕ) → ((a ++ b) ++ c) ++ codes "\n" ++ d ≡ a ++ ((b ++ c ++ codes "\n") ++ d)
four a b c d = simp append_assoc refl

no_more : (n : ℕ) → 0 + 1 - 1 + n ≡ n
no_more n = omega arith

before_by : (s : Lines) (f : FaultMessage) (fs : List FaultMessage) (b : Bool) → f.lacks ≡ b → s.lacking ≡ 0 → s.tail ≡ []
    → ((t : Lines) → t.lacking ≡ 0 → t.tail ≡ [] → text_of (fold after_message t fs) ≡ t.head ++ message_lines fs)
    → text_of (fold after_message (if b then after_lacking f s else after_own f s) fs) ≡ s.head ++ message_lines (f ∷ fs)
before_by s f fs true is none empty rest =
    rw is
    (after_first (after_lacking f s) fs (omega arith)
    ∙ rw (none, empty)
    (ap (λ n. (s.head ++ f.what) ++ others_text n ++ codes "\n" ++ (f.hint ++ own_lines fs)) (no_more (count_lacking fs))
    ∙ four s.head f.what (others_text (count_lacking fs)) (f.hint ++ own_lines fs)))
before_by s f fs false is none empty rest =
    rw (is, none)
    (rest (record { head = s.head ++ message_text f; tail = s.tail; lacking = 0; others = s.others + 1 }) refl empty
    ∙ append_assoc s.head (message_text f) (message_lines fs))

pub before_first : (s : Lines) (fs : List FaultMessage) → s.lacking ≡ 0 → s.tail ≡ []
    → text_of (fold after_message s fs) ≡ s.head ++ message_lines fs
before_first s [] none empty = rw none (sym (append-nil s.head))
before_first s (f ∷ fs) none empty = before_by s f fs f.lacks refl none empty (λ t n e. before_first t fs n e)

-- how many lines
count_by_one : (s : Lines) (f : FaultMessage) (fs : List FaultMessage) (b : Bool) → f.lacks ≡ b
    → ((t : Lines) → count_of (fold after_message t fs) ≡ t.others + count_by (λ (g : FaultMessage). not g.lacks) fs + min (t.lacking + count_lacking fs) 1)
    → count_of (fold after_message (if b then after_lacking f s else after_own f s) fs)
    ≡ s.others + count_by (λ (g : FaultMessage). not g.lacks) (f ∷ fs) + min (s.lacking + count_lacking (f ∷ fs)) 1
count_by_one s f fs true is rest =
    rest (after_lacking f s)
    ∙ omega (arith, lacking_more f fs, own_more f fs, ap {B = ℕ} (λ b. cond b 1 0) is, ap {B = ℕ} (λ b. cond (not b) 1 0) is)
count_by_one s f fs false is rest =
    rest (after_own f s)
    ∙ omega (arith, lacking_more f fs, own_more f fs, ap {B = ℕ} (λ b. cond b 1 0) is, ap {B = ℕ} (λ b. cond (not b) 1 0) is)

pub lines_more : (s : Lines) (fs : List FaultMessage)
    → count_of (fold after_message s fs) ≡ s.others + count_by (λ (f : FaultMessage). not f.lacks) fs + min (s.lacking + count_lacking fs) 1
lines_more s [] = omega arith
lines_more s (f ∷ fs) = count_by_one s f fs f.lacks refl (λ t. lines_more t fs)
