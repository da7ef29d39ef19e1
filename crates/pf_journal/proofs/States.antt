-- What the state of a file says of its bytes.
use Rattle.std.proofs.Common.{◌≡◌, ◌≢◌, ◌⊎◌, inl, inr, ℕ, ◌+◌, ◌≤◌, Bool, true, false, ◌&&◌, ◌||◌, List, [], ◌∷◌, ◌++◌, length, drop, refl, sym, ◌∙◌, ap, arith, ◌-◌, ◌<◌, slice_index, length-append, length-drop, append_assoc, if◌then◌else◌, ◌==◌, nat_eq, nat_le}
use Rattle.std.proofs.lemmas.Bool.{le-leb, leb-true, and_parts}
use Rattle.std.proofs.lemmas.Bool.Decides.{Decides-eqb, nat_tests}
use Rattle.std.proofs.lemmas.List.{drop_at, drop_more}
use Rattle.std.proofs.lemmas.Slice.Eq.{starts_is}
use Rattle.std.specs.List.{list_all, starts_with}
use Rattle.pf_journal.specs.declared.state.State.TheVariants.{New, Journal, Damaged}
use Rattle.pf_journal.specs.Lines.{end_of, heading, is_end, is_new, is_text, line_of, lines_of, state_from, state_of, texts_of}
use Rattle.pf_journal.specs.Crash.{IsOpenable}
use Rattle.pf_journal.proofs.Reading.{line_read, lines_then}

pub bool_cases : (b : Bool) → (b ≡ true) ⊎ (b ≡ false)
bool_cases true = inl refl
bool_cases false = inr refl

abbrev pub is_headed : List ℕ → Bool
is_headed file = starts_with nat_eq file (line_of heading)

pub state_new : (file : List ℕ) → is_new file ≡ true → state_of file ≡ New
state_new file is = ap (λ (b : Bool). if b then New else state_from (is_headed file) file) is

state_old : (file : List ℕ) (headed : Bool) → is_new file ≡ false → is_headed file ≡ headed → state_of file ≡ state_from headed file
state_old file headed old is =
    ap (λ (b : Bool). if b then New else state_from (is_headed file) file) old ∙ ap (λ (b : Bool). state_from b file) is

state_ended : (file : List ℕ) (ended : Bool) → is_new file ≡ false → is_headed file ≡ true → is_end (texts_of file) (end_of file) ≡ ended
    → state_of file ≡ (if ended then Journal else Damaged)
state_ended file ended old headed is = state_old file true old headed ∙ ap (λ (b : Bool). if b then Journal else Damaged) is

-- a journal is no new file, begins with a heading, and ends as a crash may leave it
pub record IsEnded (file : List ℕ) : Type 0 where
  pub old : is_new file ≡ false
  pub headed : is_headed file ≡ true
  pub ended : is_end (texts_of file) (end_of file) ≡ true

pub journal_ended : (file : List ℕ) → state_of file ≡ Journal → IsEnded file
journal_ended file is = elim (bool_cases (is_new file)) [
  | inl new ↦ absurd (cc (sym is ∙ state_new file new))
  | inr old ↦ elim (bool_cases (is_headed file)) [
    | inr other ↦ absurd (cc (sym is ∙ state_old file false old other))
    | inl headed ↦ elim (bool_cases (is_end (texts_of file) (end_of file))) [
      | inl ended ↦ record { old = old; headed = headed; ended = ended }
      | inr more ↦ absurd (cc (sym is ∙ state_ended file false old headed more))
    ]
  ]
]

-- a file that opens is a journal, where it is not new
pub is_journal : (file : List ℕ) → is_new file ≡ false → IsOpenable file → state_of file ≡ Journal
is_journal file old (inr is) = is
is_journal file old (inl new) = elim (bool_cases (is_headed file)) [
  | inr other ↦ absurd (cc (sym new ∙ state_old file false old other))
  | inl headed ↦ elim (bool_cases (is_end (texts_of file) (end_of file))) [
    | inl ended ↦ absurd (cc (sym new ∙ state_ended file true old headed ended))
    | inr more ↦ absurd (cc (sym new ∙ state_ended file false old headed more))
  ]
]

-- lines, the heading first, and an end that a crash may leave after them
pub opens : (records : List (List ℕ)) (end file : List ℕ) → list_all is_text (heading ∷ records) ≡ true → texts_of end ≡ []
    → is_end (heading ∷ records) end ≡ true → file ≡ lines_of (heading ∷ records) ++ end → IsOpenable file
opens records end file all none ended is = elim (bool_cases (is_new file)) [
  | inl new ↦ inl (state_new file new)
  | inr old ↦
      let lines = lines_of (heading ∷ records) in
      let texts : texts_of file ≡ heading ∷ records = ap texts_of is ∙ lines_then (heading ∷ records) end all none in
      let behind : end_of file ≡ end =
      ap (λ (ts : List (List ℕ)). drop (length (lines_of ts)) file) texts ∙ ap (λ (l : List ℕ). drop (length lines) l) is
      ∙ drop_at lines end (length lines) refl in
      let begins : file ≡ line_of heading ++ (lines_of records ++ end) = is ∙ append_assoc (line_of heading) (lines_of records) end in
      let headed : is_headed file ≡ true = (starts_is Decides-eqb file (line_of heading) (is_headed file) refl).1 (lines_of records ++ end) begins in
      inr (state_ended file true old headed
      (ap (λ (ts : List (List ℕ)). is_end ts (end_of file)) texts ∙ ap (λ (l : List ℕ). is_end (heading ∷ records) l) behind ∙ ended))
]

-- an end of one byte at most
pub short_end : (texts : List (List ℕ)) (end : List ℕ) → length end ≤ 1 → is_end texts end ≡ true
short_end texts [] few = refl
short_end texts (gate ∷ []) few = refl
short_end texts (gate ∷ byte ∷ rest) few = absurd (omega (arith, few))

either : (a b : Bool) → (a ≡ true) ⊎ (b ≡ true) → (a || b) ≡ true
either true b h = refl
either false b (inl h) = cc
either false b (inr h) = h

-- a shut gate, and so many bytes after it
pub shut_end : (texts : List (List ℕ)) (rest : List ℕ) → (length texts ≤ 1) ⊎ (length rest ≤ 65538) → is_end texts (35 ∷ rest) ≡ true
shut_end texts [] few = refl
shut_end texts (byte ∷ rest) (inl few) = either (nat_le (length texts) 1) (nat_le (length (byte ∷ rest)) 65538) (inl (le-leb (length texts) 1 few))
shut_end texts (byte ∷ rest) (inr few) = either (nat_le (length texts) 1) (nat_le (length (byte ∷ rest)) 65538) (inr (le-leb (length (byte ∷ rest)) 65538 few))

-- where more than a byte lies behind the lines, their gate is shut
pub long_end : (texts : List (List ℕ)) (gate : ℕ) (rest : List ℕ) → is_end texts (gate ∷ rest) ≡ true → 1 ≤ length rest
    → (gate ≡ 35) × ((length texts ≤ 1) ⊎ (length rest ≤ 65538))
long_end texts gate [] is some = absurd (omega (arith, some))
long_end texts gate (byte ∷ rest) is some =
    let parts = and_parts (gate == 35) (nat_le (length texts) 1 || nat_le (length (byte ∷ rest)) 65538) is in
    ((Decides-eqb gate 35).0 parts.0, few (nat_le (length texts) 1) (nat_le (length (byte ∷ rest)) 65538) refl refl parts.1)
  where
    few : (a b : Bool) → a ≡ nat_le (length texts) 1 → b ≡ nat_le (length (byte ∷ rest)) 65538 → (a || b) ≡ true
        → (length texts ≤ 1) ⊎ (length (byte ∷ rest) ≤ 65538)
    few true b first second h = inl (leb-true (length texts) 1 (sym first))
    few false b first second h = inr (leb-true (length (byte ∷ rest)) 65538 (sym second ∙ h))

-- .. and what then lies behind is judged by that
pub end_long : (texts : List (List ℕ)) (file : List ℕ) (size : ℕ) → size + 1 < length file
    → is_end texts (drop size file) ≡ (slice_index file size == 35 && (nat_le (length texts) 1 || nat_le (length file - (size + 1)) 65538))
end_long texts file size long =
    ap (λ (l : List ℕ). is_end texts l) (drop_more file size 0 (omega (arith, long)))
    ∙ judged (drop (size + 1) file) (omega (arith, long, length-drop (size + 1) file))
    ∙ ap (λ (n : ℕ). slice_index file size == 35 && (nat_le (length texts) 1 || nat_le n 65538)) (length-drop (size + 1) file)
  where
    judged : (rest : List ℕ) → 1 ≤ length rest
        → is_end texts (slice_index file size ∷ rest) ≡ (slice_index file size == 35 && (nat_le (length texts) 1 || nat_le (length rest) 65538))
    judged [] some = absurd (omega (arith, some))
    judged (byte ∷ rest) some = refl

-- a heading alone takes eight bytes, and each line more two at least
pub bare_size : (records : List (List ℕ)) (size : ℕ) → size ≡ length (lines_of (heading ∷ records)) → nat_le size 8 ≡ nat_le (length (heading ∷ records)) 1
bare_size [] size is = ap (λ (n : ℕ). nat_le n 8) is
bare_size (text ∷ records) size is =
    let long : 8 < size = omega (arith, is, length-append (line_of heading) (lines_of (text ∷ records)), length-append (line_of text) (lines_of records), length-append text (10 ∷ [])) in
    grind (arith, nat_tests)

pub headed_texts : (file : List ℕ) → is_headed file ≡ true → texts_of file ≡ heading ∷ texts_of (drop 8 file)
headed_texts file is =
    let begins : file ≡ line_of heading ++ drop 8 file = (starts_is Decides-eqb file (line_of heading) true (sym is)).0 refl in
    ap texts_of begins ∙ line_read heading (drop 8 file) refl

-- Use: how the bytes after the lines of a file with a heading are judged by their size.
module _ (file : List ℕ) (size : ℕ) (is_size : size ≡ length (lines_of (texts_of file))) (begins : is_headed file ≡ true) where
  pub short_judged : length file ≤ size + 1 → is_end (texts_of file) (end_of file) ≡ true
  short_judged short =
      short_end (texts_of file) (end_of file)
      (omega (arith, is_size, short, length-drop (length (lines_of (texts_of file))) file))

  pub long_judged : size + 1 < length file
      → is_end (texts_of file) (end_of file) ≡ (slice_index file size == 35 && (nat_le size 8 || nat_le (length file - (size + 1)) 65538))
  long_judged long =
      let records = texts_of (drop 8 file) in
      let texts : texts_of file ≡ heading ∷ records = headed_texts file begins in
      let bare : nat_le size 8 ≡ nat_le (length (heading ∷ records)) 1 =
      bare_size records size (is_size ∙ ap (λ (ts : List (List ℕ)). length (lines_of ts)) texts) in
      ap (λ (n : ℕ). is_end (texts_of file) (drop n file)) (sym is_size)
      ∙ ap (λ (ts : List (List ℕ)). is_end ts (drop size file)) texts
      ∙ end_long (heading ∷ records) file size long
      ∙ ap (λ (b : Bool). slice_index file size == 35 && (b || nat_le (length file - (size + 1)) 65538)) (sym bare)

  pub few_judged : size + 1 < length file → slice_index file size ≡ 35 → 8 < size
      → nat_le (length file - (size + 1)) 65538 ≡ is_end (texts_of file) (end_of file)
  few_judged long gate some =
      let more : nat_le size 8 ≡ false = grind (arith, nat_tests) in
      sym (long_judged long ∙ ap (λ (b : ℕ). b == 35 && (nat_le size 8 || nat_le (length file - (size + 1)) 65538)) gate
      ∙ ap (λ (b : Bool). b || nat_le (length file - (size + 1)) 65538) more)

  pub open_judged : size + 1 < length file → slice_index file size ≢ 35 → nat_eq (slice_index file size) 35 ≡ is_end (texts_of file) (end_of file)
  open_judged long gate =
      let other : nat_eq (slice_index file size) 35 ≡ false = grind (arith, nat_tests) in
      other ∙ sym (long_judged long ∙ ap (λ (b : Bool). b && (nat_le size 8 || nat_le (length file - (size + 1)) 65538)) other)
