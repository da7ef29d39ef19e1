-- Texts that are told one after the other.
use Rattle.std.proofs.Common.{append_assoc, ◌≡◌, ◌+◌, ◌++◌, ◌∷◌, ℕ, List, [], Option, Some, None, arith, refl, sym, ap, ◌∙◌}
use Rattle.std.proofs.lemmas.List.{append-nil}
use Rattle.std.specs.Fmt.{decimal}
use Rattle.std.specs.Prelude.{codes, ◌≤◌, Bool, true, false, Result, Ok, Err, MatchResult, OnErr, OnOk}
use Rattle.std.specs.Result.{is_ok}
use Rattle.std.specs.Io.KnownBytes.{Appends, Keeps}
use Rattle.std.proofs.KnownBytes.{Appends-nil, Appends-trans, Keeps-refl}
use Rattle.pf_stream.specs.Written.{TookFront}
use Rattle.pf_stream.proofs.Sending.{took-after, took-before}
use Rattle.pf_cli.specs.Compared.{size_text}
use Rattle.pf_vocabulary.specs.declared.fault.ending.Ending.{Ending}
use Rattle.pf_vocabulary.specs.declared.fault.fault.Fault.{Fault}
use Rattle.pf_vocabulary.specs.declared.fault.fault.Fault.TheVariants as why
use Rattle.pf_cli.specs.Noted.{IsTold}
use Rattle.pf_cli.specs.Status.{Tells}

-- the first one was told, and then the other, ..
second_told : {A E : Type 0} (r : Result A E) (old mid new : Option (List ℕ)) (a b c : ℕ) (first second : List ℕ) → Appends old mid first → b ≡ a
    → OnOk r (Appends mid new second) → OnErr r (TookFront mid new second) → MatchResult r (λ _. c ≡ b) (λ _. c ≡ b + 1)
    → Tells old new a c (first ++ second)
second_told (Ok x) old mid new a b c first second h same ok err count = record {
  front = took-after old mid new first second h ([], (second, ok, append-nil second));
  whole = λ e. Appends-trans old mid new first second h ok;
}
second_told (Err e) old mid new a b c first second h same ok err count = record {
  front = took-after old mid new first second h err;
  whole = λ is. absurd (omega (arith, is, same, count));
}

-- Use: both were told, ..
pub both_told : {A E B F : Type 0} (r : Result A E) (s : Result B F) (old mid new : Option (List ℕ)) (a b c : ℕ) (first second : List ℕ)
    → is_ok r ≡ true → OnOk r (Appends old mid first) → MatchResult r (λ _. b ≡ a) (λ _. b ≡ a + 1)
    → OnOk s (Appends mid new second) → OnErr s (TookFront mid new second) → MatchResult s (λ _. c ≡ b) (λ _. c ≡ b + 1)
    → Tells old new a c (first ++ second)
both_told (Ok x) s old mid new a b c first second is h same ok err count = second_told s old mid new a b c first second h same ok err count
both_told (Err e) s old mid new a b c first second is h same ok err count = cc

-- .. or the first one was not
pub first_told : {A E : Type 0} (r : Result A E) (old new : Option (List ℕ)) (a b : ℕ) (first second : List ℕ) → is_ok r ≡ false
    → OnErr r (TookFront old new first) → MatchResult r (λ _. b ≡ a) (λ _. b ≡ a + 1) → Tells old new a b (first ++ second)
first_told (Ok x) old new a b first second is h count = cc
first_told (Err e) old new a b first second is h count =
    record { front = took-before old new first second h; whole = λ same. absurd (omega (arith, same, count)) }

-- Use: one text was told, or a front of it.
pub one_told : {A E : Type 0} (r : Result A E) (old new : Option (List ℕ)) (a b : ℕ) (text : List ℕ) → OnOk r (Appends old new text)
    → OnErr r (TookFront old new text) → MatchResult r (λ _. b ≡ a) (λ _. b ≡ a + 1) → Tells old new a b text
one_told (Ok x) old new a b text ok err count = record { front = ([], (text, ok, append-nil text)); whole = λ same. ok }
one_told (Err e) old new a b text ok err count = record { front = err; whole = λ same. absurd (omega (arith, same, count)) }

-- Use: a write failed once, or not at all.
pub few_failed : {A E : Type 0} (r : Result A E) (a b : ℕ) → MatchResult r (λ _. b ≡ a) (λ _. b ≡ a + 1) → b ≤ a + 1
few_failed (Ok x) a b is = omega (arith, is)
few_failed (Err e) a b is = omega (arith, is)

-- Use: nothing is told.
pub nothing_told : (old new : Option (List ℕ)) (a b : ℕ) (text : List ℕ) → Tells old new a b text → text ≡ [] → Keeps old new
nothing_told old new a b text tells none = by old new (tells.front.1.0) (front_nil tells.front.1.0 tells.front.0 (tells.front.1.2 ∙ none)) tells.front.1.1
  where
    front_nil : (front rest : List ℕ) → front ++ rest ≡ [] → front ≡ []
    front_nil [] rest e = refl
    front_nil (x ∷ xs) rest e = cc

    by : (old new : Option (List ℕ)) (front : List ℕ) → front ≡ [] → Appends old new front → Keeps old new
    by None new front e h = tt
    by (Some x) None front e h = absurd h
    by (Some x) (Some y) front e h = h ∙ (ap (λ f. x ++ f) e ∙ append-nil x)

-- Use: nobody was told anything.
pub kept : (x : Option (List ℕ)) → Keeps x x
kept x = Keeps-refl x

pub told_none : (x : Option (List ℕ)) (a : ℕ) → Tells x x a a []
told_none x a = record { front = ([], ([], Appends-nil x, refl)); whole = λ e. Appends-nil x }

-- Use: four pieces, each appended to a text.
pub four_pieces : (old a b c d p q r s : List ℕ) → p ≡ old ++ a → q ≡ p ++ b → r ≡ q ++ c → s ≡ r ++ d → s ≡ old ++ (a ++ (b ++ (c ++ d)))
four_pieces old a b c d p q r s hp hq hr hs =
    hs ∙ (ap (λ (x : List ℕ). x ++ d) (hr ∙ ap (λ (x : List ℕ). x ++ c) (hq ∙ ap (λ (x : List ℕ). x ++ b) hp))
    ∙ (append_assoc ((old ++ a) ++ b) c d ∙ (append_assoc (old ++ a) b (c ++ d) ∙ append_assoc old a (b ++ (c ++ d)))))

-- Use: the size of a script, written out.
pub size_text_is : (slots processors : ℕ)
    → decimal slots ++ (codes " slots, " ++ (decimal processors ++ codes " processors")) ≡ size_text slots processors
unfolding size_text
size_text_is slots processors =
    sym (append_assoc (decimal slots ++ codes " slots, ") (decimal processors) (codes " processors")
    ∙ append_assoc (decimal slots) (codes " slots, ") (decimal processors ++ codes " processors"))

-- Use: the output failed.
pub told_unwritten : (closed : Bool) (outcome : Result Ending Fault) (notes : List ℕ) (told : List ℕ → Type 0) → outcome ≡ Err why.Write
    → IsTold closed (Err why.Write) notes told → IsTold closed outcome notes told
told_unwritten closed outcome notes told is h = rw is h
