-- No two tasks have the same symbol.
use Rattle.std.proofs.Common.{◌≡◌, ◌≢◌, ◌∙◌, ◌⊎◌, inl, inr, ℕ, suc, zero, ◌+◌, ◌%◌, ◌^◌, ◌<◌, ◌≤◌, Bool, true, cond, nat_eq, nat_lt, Option, None, Some, List, [], ◌∷◌, ◌++◌, length, map, count_by, get_or, All, refl, sym, ap, subst, arith, rules, tests, ⊎_elim}
use Rattle.std.specs.Char.{is_ascii_alphabetic}
use Rattle.std.specs.Fmt.{decimal}
use Rattle.std.specs.Option.{option_map_or}
use Rattle.std.specs.Str.{bytes_eq}
use Rattle.std.proofs.lemmas.Bool.{cases_Bool, ltb-false}
use Rattle.std.proofs.lemmas.Fmt.{decimal_by_steps, decimal_injective}
use Rattle.std.proofs.lemmas.List.{get_or-map, length-map}
use Rattle.std.proofs.lemmas.List.Elements.{All-get_or, All-head, All-tail}
use Rattle.std.proofs.lemmas.List.Sums.{sum_by-cons}
use Rattle.std.proofs.lemmas.Slice.Eq.{bytes_eq-Decides}
use Rattle.pf_run.specs.Inside.{Joined}
use Rattle.pf_vocabulary.specs.Names.Names.{name_of}
use Rattle.pf_vocabulary.specs.Names.Text.{is_letter_first, is_text}
use Rattle.pf_vocabulary.specs.declared.names.named.Named.{Named}
use Rattle.pf_code.specs.Laws.{SymbolsDiffer}
use Rattle.pf_code.specs.Symbol.{identifier_byte, identifier_of}
use Rattle.pf_code.specs.Tasks.{own_symbol, symbol_among}

-- how many of some pass

counted_one : {X : Type 0} (p : X → Bool) (xs : List X) (i : ℕ) (d : X) → i < length xs → p (get_or xs i d) ≡ true → 1 ≤ count_by p xs
counted_one p [] i d lt is = absurd (omega (arith, lt))
counted_one p (x ∷ xs) zero d lt is = omega (arith, sum_by-cons (λ y. cond (p y) 1 0) x xs, ap {B = ℕ} (λ b. cond b 1 0) is)
counted_one p (x ∷ xs) (suc i) d lt is = omega (arith, sum_by-cons (λ y. cond (p y) 1 0) x xs, counted_one p xs i d (omega (arith, lt)) is)

counted_two : {X : Type 0} (p : X → Bool) (xs : List X) (i k : ℕ) (d : X) → i < k → k < length xs → p (get_or xs i d) ≡ true →
    p (get_or xs k d) ≡ true → 2 ≤ count_by p xs
counted_two p [] i k d low lt one two = absurd (omega (arith, lt))
counted_two p (x ∷ xs) i zero d low lt one two = absurd (omega (arith, low))
counted_two p (x ∷ xs) zero (suc k) d low lt one two =
    omega (arith, sum_by-cons (λ y. cond (p y) 1 0) x xs, ap {B = ℕ} (λ b. cond b 1 0) one, counted_one p xs k d (omega (arith, lt)) two)
counted_two p (x ∷ xs) (suc i) (suc k) d low lt one two =
    omega (arith, sum_by-cons (λ y. cond (p y) 1 0) x xs, counted_two p xs i k d (omega (arith, low)) (omega (arith, lt)) one two)

-- a text of this first byte
abbrev FirstBelow : ℕ → List ℕ → Type 0
FirstBelow bound text = (0 < length text) × (get_or text 0 0 < bound)

decimal_first : (n : ℕ) → n < 2 ^ 64 → FirstBelow 58 (decimal n)
decimal_first = decimal_by_steps (λ n ds. FirstBelow 58 ds) (λ n low. (omega arith, omega (arith, low))) more where
  more : (n : ℕ) (ds : List ℕ) → 10 ≤ n → FirstBelow 58 ds → FirstBelow 58 (ds ++ ((48 + n % 10) ∷ []))
  more n [] high first = absurd (omega (arith, first.0))
  more n (d ∷ ds) high first = (omega arith, first.1)

capital_first : (byte : ℕ) → is_ascii_alphabetic byte ≡ true → 65 ≤ identifier_byte byte
capital_first byte is = search (rules, tests)

text_first : (name : List ℕ) → is_text name ≡ true → is_letter_first name ≡ true
unfolding is_text
text_first name is = search (rules, tests)

identifier_first : (name : List ℕ) → is_letter_first name ≡ true → FirstBelow 58 (identifier_of name) → ⊥
identifier_first [] is first = cc
identifier_first (byte ∷ rest) is first = omega (arith, capital_first byte is, first.1)

-- what a task is called is a text
called : (names : List Named) (task : ℕ) (name : List ℕ) → All (λ named. is_text named.name ≡ true) names → name_of names task ≡ Some name → is_text name ≡ true
called [] task name all is = cc
called (named ∷ names) task name all is = ⊎_elim
    (λ yes. let same : ◌≡◌ {A = Option (List ℕ)} (Some named.name) (Some name) = sym (ap (λ b. cond b (Some named.name) (name_of names task)) yes) ∙ is in
    let one : named.name ≡ name = cc in subst (λ n. is_text n ≡ true) one (All-head (λ n. is_text n.name ≡ true) named names all))
    (λ no. called names task name (All-tail (λ n. is_text n.name ≡ true) named names all) (sym (ap (λ b. cond b (Some named.name) (name_of names task)) no) ∙ is))
    (cases_Bool (nat_eq named.task task))

-- a number is no other task's own symbol
number_differs : (names : List Named) (task : ℕ) (j : Joined) → All (λ named. is_text named.name ≡ true) names → task < 2 ^ 64 → j.task < 2 ^ 64 → task ≢ j.task →
    decimal task ≢ own_symbol names j
number_differs names task j all low low_j differ same = by (name_of names j.task) refl same where
  by : (o : Option (List ℕ)) → name_of names j.task ≡ o → decimal task ≡ option_map_or identifier_of o (decimal j.task) → ⊥
  by None is e = differ (decimal_injective task j.task low low_j e)
  by (Some name) is e = identifier_first name (text_first name (called names j.task name all is)) (subst (FirstBelow 58) e (decimal_first task low))

-- the symbol is one of these two
own_or_number : (symbols : List (List ℕ)) (own : List ℕ) (task : ℕ) →
    (symbol_among symbols own task ≡ decimal task) ⊎ ((symbol_among symbols own task ≡ own) × (count_by (bytes_eq own) symbols ≤ 1))
own_or_number symbols own task = ⊎_elim
    (λ many. inl (ap (λ b. cond b (decimal task) own) many))
    (λ few. inr (ap (λ b. cond b (decimal task) own) few, ltb-false 1 (count_by (bytes_eq own) symbols) few))
    (cases_Bool (nat_lt 1 (count_by (bytes_eq own) symbols)))

pub symbols_differ : SymbolsDiffer
symbols_differ names tasks texts low differ i k d before lt same =
    let symbols = map (own_symbol names) tasks in
    let a : Joined = get_or tasks i d in
    let b : Joined = get_or tasks k d in
    let differs : a.task ≢ b.task = differ i k d before lt in
    let low_a : a.task < 2 ^ 64 = All-get_or (λ (j : Joined). j.task < 2 ^ 64) tasks i d (omega (arith, before, lt)) low in
    let low_b : b.task < 2 ^ 64 = All-get_or (λ (j : Joined). j.task < 2 ^ 64) tasks k d lt low in
    ⊎_elim
    (λ number_a. ⊎_elim
    (λ number_b. differs (decimal_injective a.task b.task low_a low_b (sym number_a ∙ same ∙ number_b)))
    (λ own_b. number_differs names a.task b texts low_a low_b differs (sym number_a ∙ same ∙ own_b.0))
    (own_or_number symbols (own_symbol names b) b.task))
    (λ own_a. ⊎_elim
    (λ number_b. number_differs names b.task a texts low_b low_a (λ e. differs (sym e)) (sym number_b ∙ sym same ∙ own_a.0))
    (λ own_b.
    let own = own_symbol names a in
    let equal : own ≡ own_symbol names b = sym own_a.0 ∙ same ∙ own_b.0 in
    let passes = λ (text : List ℕ) (e : own ≡ text). (bytes_eq-Decides own text).1 e in
    let two = counted_two (bytes_eq own) symbols i k [] before (omega (arith, lt, length-map tasks (own_symbol names)))
    (passes (get_or symbols i []) (sym (get_or-map (own_symbol names) tasks i d [] (omega (arith, before, lt)))))
    (passes (get_or symbols k []) (equal ∙ sym (get_or-map (own_symbol names) tasks k d [] lt))) in
    omega (arith, two, own_a.1))
    (own_or_number symbols (own_symbol names b) b.task))
    (own_or_number symbols (own_symbol names a) a.task)
