-- Events as the cards of a table keep them.
use Rattle.std.proofs.Common.{◌≡◌, ◌≢◌, ℕ, zero, suc, ◌+◌, ◌-◌, ◌<◌, ◌≤◌, Option, Some, None, true, false, not, cond, List, [], ◌∷◌, ◌++◌, length, take, drop, get_or, set, refl, sym, ap, ◌∙◌, subst, arith, inl, inr}
use Rattle.std.specs.Prelude.{◌==◌}
use Rattle.std.specs.List.{All, AllPairs, filter, cons_option}
use Rattle.std.specs.Option.{option_map, is_some}
use Rattle.std.proofs.lemmas.Bool.{cases_Bool, cond-true, cond-false, false≢true, eq-eqb, ne_eqb, not_from_false}
use Rattle.std.proofs.lemmas.List.{length-map, length-append, take-append-drop, append-nil}
use Rattle.std.proofs.lemmas.List.Elements.{All-nil, All-cons, All-head, All-tail, All-append, All-weaker, filter_map-append}
use Rattle.std.proofs.lemmas.List.Folds.{list_any_none}
use Rattle.pf_lemmas.proofs.Filters.{filter_all}
use Rattle.pf_scenario.proofs.Lists.{Pairs, Pairs-from_all, AllPairs-from_pairs, Pairs_without, Pairs_middle, All_left, All_right, All_at, filter_middle, map_middle, find_middle, find_none}
use Rattle.pf_scenario.specs.Scenario.{with_number, is_held, events_without}
use Rattle.pf_scenario.specs.Cards.{event_on, numbered_on, listed, IsCardAt, IsTable}
use Rattle.pf_scenario.specs.Index.{event_at, with_event}
use Rattle.pf_scenario.specs.declared.card.Card.{Card}
use Rattle.pf_scenario.specs.declared.event.Event.{Event}
use Rattle.pf_scenario.specs.declared.event.Numbered.{Numbered}

-- nothing is found where nothing is held
pub not_held : (xs : List Numbered) (id : ℕ) → event_at xs id ≡ None → is_held xs id ≡ false
not_held [] id h = refl
not_held (x ∷ xs) id h =
    elim (cases_Bool (x.id == id)) [
      | inl here ↦ let found = rw here at h in absurd (cc)
      | inr other ↦ let later = rw other at h in rw other (not_held xs id later)
    ]

-- the event of a card has the card's number
on_card : (n : ℕ) (o : Option Event) (x : Numbered) → option_map (λ e. with_number n e) o ≡ Some x → x.id ≡ n
on_card n (Some e) x h = cc
on_card n None x h = absurd (cc)

-- what holds of the numbers of cards holds of their events'
All_more : (P : ℕ → Type 0) (n : ℕ) (o : Option Event) (xs : List Numbered) → P n → All (λ x. P x.id) xs → All (λ x. P x.id) (cons_option (option_map (λ e. with_number n e) o) xs)
All_more P n (Some e) xs here rest = All-cons (λ x. P x.id) (with_number n e) xs here rest
All_more P n None xs here rest = rest

pub All_listed : (P : ℕ → Type 0) (cards : List Card) → All (λ c. P c.id) cards → All (λ x. P x.id) (listed cards)
All_listed P [] h = All-nil (λ x. P x.id)
All_listed P (c ∷ cs) h =
    All_more P c.id (event_on c) (listed cs) (All-head (λ c. P c.id) c cs h) (All_listed P cs (All-tail (λ c. P c.id) c cs h))

rising_more : (n : ℕ) (o : Option Event) (xs : List Numbered) → All (λ x. n < x.id) xs → Pairs (λ x y. x.id < y.id) xs → Pairs (λ x y. x.id < y.id) (cons_option (option_map (λ e. with_number n e) o) xs)
rising_more n (Some e) xs above rest = (above, rest)
rising_more n None xs above rest = rest

pub rising_listed : (cards : List Card) → Pairs (λ x y. x.id < y.id) cards → Pairs (λ x y. x.id < y.id) (listed cards)
rising_listed [] h = tt
rising_listed (c ∷ cs) h = rising_more c.id (event_on c) (listed cs) (All_listed (λ n. c.id < n) cs h.0) (rising_listed cs h.1)

-- no event has a number that no card has
pub other_numbers : (cards : List Card) (id : ℕ) → All (λ c. c.id ≢ id) cards → All (λ x. (x.id == id) ≡ false) (listed cards)
other_numbers cards id h = All_listed (λ n. (n == id) ≡ false) cards (All-weaker (λ c. c.id ≢ id) (λ c. (c.id == id) ≡ false) (λ c differs. ne_eqb c.id id differs) cards h)

pub event_at-absent : (cards : List Card) (id : ℕ) → All (λ c. c.id ≢ id) cards → event_at (listed cards) id ≡ None
event_at-absent cards id h = ap (option_map (λ x. x.event)) (find_none (λ x. x.id == id) (listed cards) (list_any_none (λ x. x.id == id) (listed cards) (other_numbers cards id h)))

pub held-absent : (cards : List Card) (id : ℕ) → All (λ c. c.id ≢ id) cards → is_held (listed cards) id ≡ false
held-absent cards id h = list_any_none (λ x. x.id == id) (listed cards) (other_numbers cards id h)

pub without-absent : (cards : List Card) (id : ℕ) → All (λ c. c.id ≢ id) cards → events_without id (listed cards) ≡ listed cards
without-absent cards id h = filter_all (λ x. not (x.id == id)) (listed cards) (All-weaker (λ x. (x.id == id) ≡ false) (λ x. not (x.id == id) ≡ true) (λ x e. not_from_false _ e) (listed cards) (other_numbers cards id h))

-- a card amid those of other numbers
pub record Spot (cards : List Card) (id at : ℕ) : Type 0 where
  pub front : List Card
  pub card : Card
  pub back : List Card
  pub is : cards ≡ front ++ card ∷ back
  pub number : card.id ≡ id
  pub before : All (λ c. c.id < id) front
  pub after : All (λ c. id < c.id) back
  pub rising : Pairs (λ x y. x.id < y.id) (front ++ card ∷ back)
  pub read : (d : Card) → get_or cards at d ≡ card
  pub written : (c : Card) → set cards at c ≡ front ++ c ∷ back

spot : (cards : List Card) (id at : ℕ) → Pairs (λ x y. x.id < y.id) cards → IsCardAt cards id at → Spot cards id at
spot [] id at up h = absurd (omega (arith, h.within))
spot (c ∷ cs) id zero up h =
    let number = h.number c in
    record {
      front = [];
      card = c;
      back = cs;
      is = refl;
      number = number;
      before = All-nil (λ c. c.id < id);
      after = subst (λ n. All (λ y. n < y.id) cs) number up.0;
      rising = up;
      read = λ d. refl;
      written = λ x. refl;
    }
spot (c ∷ cs) id (suc at) up h =
    let rest = spot cs id at up.1 (record { within = omega (arith, h.within); number = λ d. h.number d }) in
    let low : c.id < rest.card.id = All_at (λ y. c.id < y.id) rest.front rest.card rest.back (subst (All (λ y. c.id < y.id)) rest.is up.0) in
    record {
      front = c ∷ rest.front;
      card = rest.card;
      back = rest.back;
      is = ap (λ zs. c ∷ zs) rest.is;
      number = rest.number;
      before = All-cons (λ c. c.id < id) c rest.front (subst (λ n. c.id < n) rest.number low) rest.before;
      after = rest.after;
      rising = subst (Pairs (λ x y. x.id < y.id)) (ap (λ zs. c ∷ zs) rest.is) up;
      read = rest.read;
      written = λ x. ap (λ zs. c ∷ zs) (rest.written x);
    }

-- the card at the place that a search of the cards, as a slice, gave
pub spot_at : (lent cards : List Card) (held id at : ℕ) → lent ≡ cards → IsTable cards held → IsCardAt lent id at → Spot cards id at
spot_at lent cards held id at same h here =
    spot cards id at (Pairs-from_all (λ x y. x.id < y.id) cards h.rising) (subst (λ xs. IsCardAt xs id at) same here)

-- the events about a card have other numbers
around : (cards : List Card) (id at : ℕ) (s : Spot cards id at) → All (λ c. c.id ≢ id) (s.front ++ s.back)
around cards id at s =
    All-append (λ c. c.id ≢ id) s.front s.back
    (All-weaker (λ c. c.id < id) (λ c. c.id ≢ id) (λ c low e. absurd (omega arith)) s.front s.before)
    (All-weaker (λ c. id < c.id) (λ c. c.id ≢ id) (λ c high e. absurd (omega arith)) s.back s.after)

listed_amid : (front : List Card) (c : Card) (back : List Card) → listed (front ++ c ∷ back) ≡ listed front ++ cons_option (numbered_on c) (listed back)
listed_amid front c back = filter_map-append numbered_on front (c ∷ back)

listed_around : (front back : List Card) → listed (front ++ back) ≡ listed front ++ listed back
listed_around front back = filter_map-append numbered_on front back

-- where the number of the card is c's
pub rising_amid : (cards : List Card) (id at : ℕ) (s : Spot cards id at) (c : Card) → c.id ≡ id → Pairs (λ x y. x.id < y.id) (s.front ++ c ∷ s.back)
rising_amid cards id at s c e =
    Pairs_middle (λ x y. x.id < y.id) s.front c s.back (Pairs_without (λ x y. x.id < y.id) s.front s.card s.back s.rising)
    (subst (λ n. All (λ y. y.id < n) s.front) (sym e) s.before)
    (subst (λ n. All (λ y. n < y.id) s.back) (sym e) s.after)

-- what a search, a change and a filter find of the card in the middle
found_amid : (front : List Card) (n : ℕ) (o : Option Event) (back : List Card) (id : ℕ) → n ≡ id → All (λ c. c.id ≢ id) (front ++ back) → event_at (listed front ++ cons_option (option_map (λ e. with_number n e) o) (listed back)) id ≡ o
found_amid front n (Some e) back id same h =
    ap (option_map (λ x. x.event)) (find_middle (λ x. x.id == id) (listed front) (with_number n e) (listed back) (other_numbers front id (All_left (λ c. c.id ≢ id) front back h)) (eq-eqb n id same))
found_amid front n None back id same h = ap (λ xs. event_at xs id) (sym (listed_around front back)) ∙ event_at-absent (front ++ back) id h

put_amid : (front : List Card) (n : ℕ) (o : Option Event) (back : List Card) (id : ℕ) (event : Event) → n ≡ id → All (λ c. c.id ≢ id) (front ++ back) → is_held (listed front ++ cons_option (option_map (λ e. with_number n e) o) (listed back)) id ≡ true → listed front ++ with_number id event ∷ listed back ≡ with_event id event (listed front ++ cons_option (option_map (λ e. with_number n e) o) (listed back))
put_amid front n (Some e) back id event same h held =
    let f : Numbered → Numbered = λ x. cond (x.id == id) (with_number id event) x in
    let others : All (λ x. f x ≡ x) (listed front ++ listed back) = subst (All (λ x. f x ≡ x)) (listed_around front back) (All-weaker (λ x. (x.id == id) ≡ false) (λ x. f x ≡ x) (λ x e. cond-false (x.id == id) _ _ e) (listed (front ++ back)) (other_numbers (front ++ back) id h)) in
    sym (map_middle f (listed front) (with_number n e) (listed back) others ∙ ap (λ y. listed front ++ y ∷ listed back) (cond-true (n == id) (with_number id event) (with_number n e) (eq-eqb n id same)))
put_amid front n None back id event same h held =
    absurd (false≢true (sym (ap (λ xs. is_held xs id) (sym (listed_around front back)) ∙ held-absent (front ++ back) id h) ∙ held))

left_amid : (front : List Card) (n : ℕ) (o : Option Event) (back : List Card) (id : ℕ) → n ≡ id → All (λ c. c.id ≢ id) (front ++ back) → listed front ++ listed back ≡ events_without id (listed front ++ cons_option (option_map (λ e. with_number n e) o) (listed back))
left_amid front n (Some e) back id same h =
    let others = subst (All (λ x. not (x.id == id) ≡ true)) (listed_around front back) (All-weaker (λ x. (x.id == id) ≡ false) (λ x. not (x.id == id) ≡ true) (λ x e. not_from_false _ e) (listed (front ++ back)) (other_numbers (front ++ back) id h)) in
    sym (filter_middle (λ x. not (x.id == id)) (listed front) (with_number n e) (listed back) others (ap not (eq-eqb n id same)))
left_amid front n None back id same h =
    sym (listed_around front back) ∙ sym (without-absent (front ++ back) id h) ∙ ap (events_without id) (listed_around front back)

-- the same of the card at a place of a table
listed_spot : (cards : List Card) (id at : ℕ) (s : Spot cards id at) → listed cards ≡ listed s.front ++ cons_option (numbered_on s.card) (listed s.back)
listed_spot cards id at s = ap listed s.is ∙ listed_amid s.front s.card s.back

pub event_at-spot : (cards : List Card) (id at : ℕ) (s : Spot cards id at) → event_at (listed cards) id ≡ (event_on s.card)
event_at-spot cards id at s =
    ap (λ xs. event_at xs id) (listed_spot cards id at s) ∙ found_amid s.front s.card.id (event_on s.card) s.back id s.number (around cards id at s)

pub listed-set : (cards : List Card) (id at : ℕ) (s : Spot cards id at) (c : Card) (event : Event) → numbered_on c ≡ Some (with_number id event) → is_held (listed cards) id ≡ true → listed (set cards at c) ≡ with_event id event (listed cards)
listed-set cards id at s c event is held =
    ap listed (s.written c) ∙ listed_amid s.front c s.back ∙ ap (λ o. listed s.front ++ cons_option o (listed s.back)) is
    ∙ put_amid s.front s.card.id (event_on s.card) s.back id event s.number (around cards id at s) (ap (λ xs. is_held xs id) (sym (listed_spot cards id at s)) ∙ held)
    ∙ ap (with_event id event) (sym (listed_spot cards id at s))

pub table-set : (cards : List Card) (held id at : ℕ) (s : Spot cards id at) (c : Card) (event : Event) → IsTable cards held → numbered_on c ≡ Some (with_number id event) → is_held (listed cards) id ≡ true → IsTable (set cards at c) held
table-set cards held id at s c event h is some = record {
  rising = subst (AllPairs (λ x y. x.id < y.id)) (sym (s.written c)) (AllPairs-from_pairs (λ x y. x.id < y.id) (s.front ++ c ∷ s.back) (rising_amid cards id at s c (sym (on_card c.id (event_on c) (with_number id event) is))));
  counted = h.counted ∙ sym (ap length (listed-set cards id at s c event is some) ∙ length-map (listed cards) _);
}

-- a struck card
pub listed-struck : (cards : List Card) (id at : ℕ) (s : Spot cards id at) (c : Card) → event_on c ≡ None → listed (set cards at c) ≡ events_without id (listed cards)
listed-struck cards id at s c none =
    ap listed (s.written c) ∙ listed_amid s.front c s.back ∙ ap (λ o. listed s.front ++ cons_option (option_map (λ e. with_number c.id e) o) (listed s.back)) none
    ∙ left_amid s.front s.card.id (event_on s.card) s.back id s.number (around cards id at s)
    ∙ ap (events_without id) (sym (listed_spot cards id at s))

-- one event fewer
pub fewer-struck : (cards : List Card) (id at : ℕ) (s : Spot cards id at) (c : Card) → event_on c ≡ None → is_some (event_on s.card) ≡ true → length (listed cards) ≡ length (listed (set cards at c)) + 1
fewer-struck cards id at s c none some =
    ap length (listed_spot cards id at s) ∙ one (event_on s.card) some
    ∙ ap (λ n. n + 1) (sym (ap length (ap listed (s.written c) ∙ listed_amid s.front c s.back ∙ ap (λ o. listed s.front ++ cons_option (option_map (λ e. with_number c.id e) o) (listed s.back)) none)))
  where
    one : (o : Option Event) → is_some o ≡ true → length (listed s.front ++ cons_option (option_map (λ e. with_number s.card.id e) o) (listed s.back)) ≡ length (listed s.front ++ listed s.back) + 1
    one (Some e) some =
        let whole = length-append (listed s.front) (with_number s.card.id e ∷ listed s.back) in
        let parts = length-append (listed s.front) (listed s.back) in
        omega (arith, whole, parts)
    one None some = absurd (false≢true some)

-- a card that is struck already
none_there : (o : Option Event) → is_some o ≡ false → o ≡ None
none_there (Some e) h = absurd (false≢true (sym h))
none_there None h = refl

pub without-none : (cards : List Card) (id at : ℕ) (s : Spot cards id at) → is_some (event_on s.card) ≡ false → listed cards ≡ events_without id (listed cards)
without-none cards id at s none =
    listed_spot cards id at s ∙ ap (λ o. listed s.front ++ cons_option (option_map (λ e. with_number s.card.id e) o) (listed s.back)) (none_there (event_on s.card) none)
    ∙ left_amid s.front s.card.id (event_on s.card) s.back id s.number (around cards id at s)
    ∙ ap (events_without id) (sym (listed_spot cards id at s))

-- the struck cards swept away
swept_one : (c : Card) (o : Option Event) (kept cs : List Card) → event_on c ≡ o → listed kept ≡ listed cs → listed (cond (is_some o) (c ∷ kept) kept) ≡ cons_option (numbered_on c) (listed cs)
swept_one c (Some e) kept cs is same = ap (cons_option (numbered_on c)) same
swept_one c None kept cs is same = same ∙ sym (ap (λ o. cons_option (option_map (λ e. with_number c.id e) o) (listed cs)) is)

pub listed-swept : (cards : List Card) → listed (filter (λ c. is_some (event_on c)) cards) ≡ listed cards
listed-swept [] = refl
listed-swept (c ∷ cs) = swept_one c (event_on c) (filter (λ c. is_some (event_on c)) cs) cs refl (listed-swept cs)

-- the cards from a number on, where no event has such a number
none_both : (id : ℕ) (xs : List Numbered) → All (λ x. x.id < id) xs → All (λ x. id ≤ x.id) xs → xs ≡ []
none_both id [] low high = refl
none_both id (x ∷ xs) low high =
    let below = All-head (λ x. x.id < id) x xs low in
    let above = All-head (λ x. id ≤ x.id) x xs high in
    absurd (omega arith)

pub listed-cut : (cards : List Card) (n id : ℕ) → All (λ x. x.id < id) (listed cards) → All (λ c. id ≤ c.id) (drop n cards) → listed (take n cards) ≡ listed cards
listed-cut cards n id low high =
    let parts : listed cards ≡ listed (take n cards) ++ listed (drop n cards) = ap listed (sym (take-append-drop n cards)) ∙ listed_around (take n cards) (drop n cards) in
    let none = none_both id (listed (drop n cards)) (All_right (λ x. x.id < id) (listed (take n cards)) (listed (drop n cards)) (subst (All (λ x. x.id < id)) parts low)) (All_listed (λ k. id ≤ k) (drop n cards) high) in
    sym (parts ∙ ap (λ xs. listed (take n cards) ++ xs) none ∙ append-nil (listed (take n cards)))

Pairs_left : (xs ys : List Card) → Pairs (λ x y. x.id < y.id) (xs ++ ys) → Pairs (λ x y. x.id < y.id) xs
Pairs_left [] ys h = tt
Pairs_left (x ∷ xs) ys h = (All_left (λ y. x.id < y.id) xs ys h.0, Pairs_left xs ys h.1)

pub rising-cut : (cards : List Card) (n : ℕ) → AllPairs (λ x y. x.id < y.id) cards → AllPairs (λ x y. x.id < y.id) (take n cards)
rising-cut cards n h =
    AllPairs-from_pairs (λ x y. x.id < y.id) (take n cards) (Pairs_left (take n cards) (drop n cards) (subst (Pairs (λ x y. x.id < y.id)) (sym (take-append-drop n cards)) (Pairs-from_all (λ x y. x.id < y.id) cards h)))

-- a card at the end
pub listed-push : (cards : List Card) (c : Card) (x : Numbered) → numbered_on c ≡ Some x → listed (cards ++ c ∷ []) ≡ listed cards ++ x ∷ []
listed-push cards c x is = listed_amid cards c [] ∙ ap (λ o. listed cards ++ cons_option o []) is

pub table-push : (cards old : List Card) (held : ℕ) (c : Card) (x : Numbered) → listed cards ≡ listed old → AllPairs (λ x y. x.id < y.id) cards → All (λ c. c.id < x.id) cards → held ≡ length (listed old) → numbered_on c ≡ Some x → IsTable (cards ++ c ∷ []) (held + 1)
table-push cards old held c x same up low counted is = record {
  rising = AllPairs-from_pairs (λ x y. x.id < y.id) (cards ++ c ∷ []) (Pairs_middle (λ x y. x.id < y.id) cards c [] (subst (Pairs (λ x y. x.id < y.id)) (sym (append-nil cards)) (Pairs-from_all (λ x y. x.id < y.id) cards up)) (subst (λ n. All (λ y. y.id < n) cards) (on_card c.id (event_on c) x is) low) (All-nil (λ y. c.id < y.id)));
  counted =
      let long = ap length (listed-push cards c x is) ∙ length-append (listed cards) (x ∷ []) in
      let was = ap length same in
      omega (arith, long, was, counted);
}

-- no more events than cards
one_more : (o : Option Numbered) (xs : List Numbered) → length (cons_option o xs) ≤ length xs + 1
one_more (Some x) xs = omega arith
one_more None xs = omega arith

pub fewer-listed : (cards : List Card) → length (listed cards) ≤ length cards
fewer-listed [] = omega arith
fewer-listed (c ∷ cs) =
    let one = one_more (numbered_on c) (listed cs) in
    let rest = fewer-listed cs in
    omega arith

-- a table after a card was struck, and others swept away
pub table-struck : (cards swept : List Card) (held id at : ℕ) (s : Spot cards id at) (c : Card) → IsTable cards held → event_on c ≡ None → is_some (event_on s.card) ≡ true → listed swept ≡ listed (set cards at c) → AllPairs (λ x y. x.id < y.id) swept → IsTable swept (held - 1)
table-struck cards swept held id at s c h none some same up = record {
  rising = up;
  counted =
      let fewer = fewer-struck cards id at s c none some in
      let left = ap length same in
      let counted = h.counted in
      omega (arith, fewer, left, counted);
}

pub some-held : (cards : List Card) (held id at : ℕ) (s : Spot cards id at) → IsTable cards held → is_some (event_on s.card) ≡ true → 1 ≤ held
some-held cards held id at s h some =
    let fewer = fewer-struck cards id at s (record { id = id; event = None }) refl some in
    let counted = h.counted in
    omega (arith, fewer, counted)
