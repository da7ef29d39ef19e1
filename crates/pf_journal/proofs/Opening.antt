-- What a crash leaves while a file is opened.
use Rattle.std.proofs.Common.{◌≡◌, ◌⊎◌, inl, inr, ℕ, ◌+◌, ◌≤◌, ◌<◌, Bool, true, false, ◌&&◌, ◌||◌, List, [], ◌∷◌, ◌++◌, length, drop, slice_index, refl, sym, ◌∙◌, ap, subst, arith, length-append, length-drop, take-append-drop, if◌then◌else◌, ◌==◌, nat_le}
use Rattle.std.proofs.lemmas.Bool.{cases_lt, leb-true, le-leb, and_parts}
use Rattle.std.proofs.lemmas.Bool.Decides.{Decides-eqb}
use Rattle.std.proofs.lemmas.List.{append-nil, drop_at, drop_all, drop_more}
use Rattle.std.specs.List.{list_all}
use Rattle.sqlite_disk.specs.Disk.{Torn, Holds, Cut}
use Rattle.std.specs.Cmp.Derive.{both_true}
use Rattle.pf_journal.specs.declared.state.State.TheVariants.{Journal}
use Rattle.pf_journal.specs.Lines.{is_text, line_of, lines_of, journal_of, texts_of, heading, is_end, is_new, state_of, records_of}
use Rattle.pf_journal.specs.Crash.{IsBegun, IsAtRest, IsMended}
use Rattle.pf_journal.proofs.Reading.{shuts, lines_then, short_nothing, texts_of-all, split}
use Rattle.pf_journal.proofs.Sizes.{size_within}
use Rattle.pf_journal.proofs.States.{bool_cases, headed_texts, journal_ended, long_end, opens, short_end, shut_end}
use Rattle.pf_journal.proofs.Shapes.{torn_front, written, torn_end, written_end, torn_byte, written_byte, torn_cut, cut_done}

-- the tests of a new file
new_parts : (short few blank : Bool) → (short || (few && blank)) ≡ true → (short ≡ true) ⊎ ((few ≡ true) × (blank ≡ true))
new_parts true few blank is = inl refl
new_parts false few blank is = inr (and_parts few blank is)

is_either : (short few blank : Bool) → few ≡ true → blank ≡ true → (short || (few && blank)) ≡ true
is_either true few blank is_few is_blank = refl
is_either false few blank is_few is_blank = ap (λ (b : Bool). b && blank) is_few ∙ is_blank

parts_of : (file : List ℕ) → is_new file ≡ true → (length file ≤ 1) ⊎ ((length file ≤ 9) × (slice_index file 0 ≡ 32))
parts_of file is = elim (new_parts (nat_le (length file) 1) (nat_le (length file) 9) (slice_index file 0 == 32) is) [
  | inl short ↦ inl (leb-true (length file) 1 short)
  | inr other ↦ inr (leb-true (length file) 9 other.0, (Decides-eqb (slice_index file 0) 32).0 other.1)
]

pub new_few : (file : List ℕ) → is_new file ≡ true → length file ≤ 9
new_few file is = elim (parts_of file is) [
  | inl short ↦ omega (arith, short)
  | inr other ↦ other.0
]

new_short : (file : List ℕ) → length file ≤ 1 → is_new file ≡ true
new_short file short = ap (λ (b : Bool). b || (nat_le (length file) 9 && (slice_index file 0 == 32))) (le-leb (length file) 1 short)

new_blank : (rest : List ℕ) → length rest ≤ 8 → is_new (32 ∷ rest) ≡ true
new_blank rest few = is_either (nat_le (length (32 ∷ rest)) 1) (nat_le (length (32 ∷ rest)) 9) true (le-leb (length (32 ∷ rest)) 9 (omega (arith, few))) refl

-- what a file stands for
pub records_new : (file : List ℕ) → is_new file ≡ true → records_of file ≡ []
records_new file is = ap (λ (b : Bool). if b then [] else drop 1 (texts_of file)) is

records_old : (file : List ℕ) → is_new file ≡ false → records_of file ≡ drop 1 (texts_of file)
records_old file is = ap (λ (b : Bool). if b then [] else drop 1 (texts_of file)) is

-- a new file has room for the heading alone
no_more : (file : List ℕ) (records : List (List ℕ)) → texts_of file ≡ heading ∷ records → length file ≤ 9 → records ≡ []
no_more file [] is few = refl
no_more file (text ∷ records) is few =
    let within : length (lines_of (heading ∷ text ∷ records)) ≤ length file = subst (λ (ts : List (List ℕ)). length (lines_of ts) ≤ length file) is (size_within file) in
    absurd (omega (arith, within, few, length-append (line_of heading) (lines_of (text ∷ records)), length-append (line_of text) (lines_of records), length-append text (10 ∷ [])))

pub records_are : (file : List ℕ) (records : List (List ℕ)) → texts_of file ≡ heading ∷ records → records_of file ≡ records
records_are file records is = elim (bool_cases (is_new file)) [
  | inl new ↦ records_new file new ∙ sym (no_more file records is (new_few file new))
  | inr old ↦ records_old file old ∙ ap (λ (ts : List (List ℕ)). drop 1 ts) is
]

pub journal_heading : (file : List ℕ) → state_of file ≡ Journal → texts_of file ≡ heading ∷ texts_of (drop 8 file)
journal_heading file is = headed_texts file (journal_ended file is).headed

-- the gate of a heading is written into a file of one byte at most
module _ (file : List ℕ) (short : length file ≤ 1) where
  pub first_crash : (c : List ℕ) → Torn 0 1 file c → is_new c ≡ true
  first_crash c torn = new_short c (omega (arith, short, torn.no_longer))

  pub first_done : (c : List ℕ) → Torn 0 1 file c → Holds c 0 (32 ∷ []) → IsBegun c
  first_done c torn holds = (
    [],
    omega arith,
    written 0 (32 ∷ []) file c (omega arith) torn holds ∙ ap (λ (l : List ℕ). (32 ∷ []) ++ l) (drop_all 1 file short),
  )

-- after a blank
module _ (rest : List ℕ) (few : length rest ≤ 8) where
  abbrev behind : List ℕ
  behind = drop 1 (journal_of (heading ∷ []))

  pub heading_crash : (c : List ℕ) → Torn 1 8 (32 ∷ rest) c → is_new c ≡ true
  heading_crash c torn =
      let is : c ≡ 32 ∷ drop 1 c =
      sym (take-append-drop 1 c) ∙ ap (λ (l : List ℕ). l ++ drop 1 c) (torn_front 1 8 (32 ∷ rest) c (omega arith) torn) in
      let size : length (drop 1 c) ≤ 8 = omega (arith, few, torn.no_longer, length-drop 1 c) in
      ap is_new is ∙ new_blank (drop 1 c) size

  pub heading_done : (c : List ℕ) → Torn 1 8 (32 ∷ rest) c → Holds c 1 behind → c ≡ journal_of (heading ∷ [])
  heading_done c torn holds =
      written 1 behind (32 ∷ rest) c (omega arith) torn holds
      ∙ ap (λ (l : List ℕ). (32 ∷ behind) ++ l) (drop_all 8 rest few)

-- the end of a journal is mended
module _ (file : List ℕ) (size : ℕ) (is_size : size ≡ length (lines_of (texts_of file))) (journal : state_of file ≡ Journal) where
  abbrev texts : List (List ℕ)
  texts = texts_of file

  abbrev lines : List ℕ
  lines = lines_of texts

  all : list_all is_text texts ≡ true
  all = texts_of-all file

  abbrev records : List (List ℕ)
  records = texts_of (drop 8 file)

  is_headed : texts ≡ heading ∷ records
  is_headed = journal_heading file journal

  all_headed : list_all is_text (heading ∷ records) ≡ true
  all_headed = both_true refl (texts_of-all (drop 8 file))

  -- the same lines, and another end that a crash may leave after them
  same : (c end : List ℕ) → c ≡ lines ++ end → texts_of end ≡ [] → is_end (heading ∷ records) end ≡ true → IsMended file c
  same c end is none ended = (
    records_are c records (ap texts_of is ∙ lines_then texts end all none ∙ is_headed) ∙ sym (records_are file records is_headed),
    opens records end c all_headed none ended (is ∙ ap (λ (ts : List (List ℕ)). lines_of ts ++ end) is_headed),
  )

  pub mended_rest : (new : List ℕ) → new ≡ journal_of texts → IsAtRest new size
  mended_rest new is = record {
    records = records;
    texts = texts_of-all (drop 8 file);
    is = is ∙ ap (λ (ts : List (List ℕ)). journal_of ts) is_headed;
    size = is_size ∙ ap (λ (ts : List (List ℕ)). length (lines_of ts)) is_headed;
  }

  pub kept_same : IsMended file file
  kept_same =
      let s = split file in
      same file s.end s.is s.nothing (ap (λ (ts : List (List ℕ)). is_end ts s.end) (sym is_headed)
      ∙ ap (λ (l : List ℕ). is_end texts l) (sym (drop_at lines s.end (length lines) refl) ∙ sym (ap (λ (l : List ℕ). drop (length lines) l) s.is))
      ∙ (journal_ended file journal).ended)

  module _ (inside : size < length file) where
    abbrev past : List ℕ
    past = drop (size + 1) file

    pub file_is : file ≡ lines ++ slice_index file size ∷ past
    file_is =
        let s = split file in
        s.is ∙ ap (λ (l : List ℕ). lines ++ l)
        (sym (ap (λ (l : List ℕ). drop size l) s.is ∙ drop_at lines s.end size (sym is_size)) ∙ drop_more file size 0 inside)

    -- it is at rest
    pub is_rest : length file ≤ size + 1 → slice_index file size ≡ 35 → file ≡ journal_of texts
    is_rest long gate =
        file_is ∙ ap (λ (b : ℕ). lines ++ b ∷ past) gate ∙ ap (λ (l : List ℕ). lines ++ 35 ∷ l) (drop_all (size + 1) file long)

  -- more than a byte lies behind its lines: their gate is shut, and the rest is cut
  module _ (long : size + 1 < length file) where
    abbrev rest : List ℕ
    rest = drop (size + 1) file

    shut_parts : (slice_index file size ≡ 35) × ((length (heading ∷ records) ≤ 1) ⊎ (length rest ≤ 65538))
    shut_parts =
        let inside : size < length file = omega (arith, long) in
        long_end (heading ∷ records) (slice_index file size) rest
        (ap (λ (ts : List (List ℕ)). is_end ts (slice_index file size ∷ rest)) (sym is_headed)
        ∙ ap (λ (l : List ℕ). is_end texts l) (sym (drop_more file size 0 inside) ∙ ap (λ (n : ℕ). drop n file) is_size)
        ∙ (journal_ended file journal).ended)
        (omega (arith, long, length-drop (size + 1) file))

    shut_is : file ≡ lines ++ 35 ∷ rest
    shut_is = file_is (omega (arith, long)) ∙ ap (λ (b : ℕ). lines ++ b ∷ rest) shut_parts.0

    few_more : (more : List ℕ) → length more ≤ length rest → (length (heading ∷ records) ≤ 1) ⊎ (length rest ≤ 65538)
        → (length (heading ∷ records) ≤ 1) ⊎ (length more ≤ 65538)
    few_more more within (inl few) = inl few
    few_more more within (inr few) = inr (omega (arith, within, few))

    pub cut_crash : (c : List ℕ) → Cut (size + 1) file c → IsMended file c
    cut_crash c cut =
        let torn = torn_cut lines 35 rest size is_size c (subst (λ (f : List ℕ). Cut (size + 1) f c) shut_is cut) in
        same c (35 ∷ torn.0) torn.2 (shuts 35 torn.0 (omega arith)) (shut_end (heading ∷ records) torn.0 (few_more torn.0 torn.1 shut_parts.1))

    pub is_cut : (new : List ℕ) → Cut (size + 1) file new → length new ≡ size + 1 → new ≡ journal_of texts
    is_cut new cut size_is = cut_done lines 35 rest size is_size new (subst (λ (f : List ℕ). Cut (size + 1) f new) shut_is cut) size_is

  -- a byte at most lies there: the gate is shut
  module _ (short : length file ≤ size + 1) where
    none_is : length file ≤ size → file ≡ lines
    none_is ends =
        let s = split file in
        let none : s.end ≡ [] = sym (drop_at lines s.end size (sym is_size)) ∙ sym (ap (λ (l : List ℕ). drop size l) s.is) ∙ drop_all size file ends in
        s.is ∙ ap (λ (l : List ℕ). lines ++ l) none ∙ append-nil lines

    one_is : (inside : size < length file) → file ≡ lines ++ slice_index file size ∷ []
    one_is inside = file_is inside ∙ ap (λ (l : List ℕ). lines ++ slice_index file size ∷ l) (drop_all (size + 1) file short)

    short_same : (c end : List ℕ) → length end ≤ 1 → c ≡ lines ++ end → IsMended file c
    short_same c end few is = same c end is (short_nothing end few) (short_end (heading ∷ records) end few)

    pub shut_crash : (c : List ℕ) → Torn size 1 file c → IsMended file c
    shut_crash c torn = elim (cases_lt size (length file)) [
      | inl inside ↦
          let byte = torn_byte lines (slice_index file size) [] size is_size c (subst (λ (f : List ℕ). Torn size 1 f c) (one_is inside) torn) in
          short_same c (byte.0 ∷ []) (omega arith) byte.1
      | inr ends ↦
          let more = torn_end size 1 file c (is_size ∙ sym (ap length (none_is ends))) torn in
          short_same c more.0 more.1 (more.2 ∙ ap (λ (l : List ℕ). l ++ more.0) (none_is ends))
    ]

    pub is_shut : (new : List ℕ) → Torn size 1 file new → Holds new size (35 ∷ []) → new ≡ journal_of texts
    is_shut new torn holds = elim (cases_lt size (length file)) [
      | inl inside ↦
          written_byte lines (slice_index file size) [] size is_size 35 new (subst (λ (f : List ℕ). Torn size 1 f new) (one_is inside) torn) holds
      | inr ends ↦
          written_end size (35 ∷ []) file new (is_size ∙ sym (ap length (none_is ends))) torn holds
          ∙ ap (λ (l : List ℕ). l ++ 35 ∷ []) (none_is ends)
    ]
