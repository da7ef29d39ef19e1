-- Lines that are put in batches, one after another.
use Rattle.std.proofs.Common.{◌≡◌, inl, inr, ℕ, ◌+◌, ◌<◌, ◌≤◌, Bool, true, false, not, ◌==◌, if◌then◌else◌, List, [], ◌∷◌, ◌++◌, nat_le, refl, sym, ◌∙◌, ap, subst, append_assoc, ◌||◌, arith, length}
use Rattle.std.proofs.lemmas.Bool.Decides.{nat_tests}
use Rattle.std.proofs.lemmas.Grind.{flat_map-append}
use Rattle.std.proofs.lemmas.List.Folds.{list_any-append}
use Rattle.std.proofs.lemmas.List.{append-nil}
use Rattle.std.specs.List.{list_all, list_any}
use Rattle.std.specs.Cmp.Derive.{both_true}
use Rattle.std.proofs.lemmas.Bool.{cases_eq}
use Rattle.sqlite_disk.specs.Disk.{MoreFaults}
use Rattle.pf_journal.specs.Batches.{has_room}
use Rattle.pf_journal.specs.Kept.{HasCause}
use Rattle.pf_journal.specs.declared.journal_error.JournalError.{JournalError}
use Rattle.pf_journal.specs.Crash.{IsAdded, IsBeforeOrAfter, IsWithFront}
use Rattle.pf_journal.specs.Lines.{is_text, journal_of, line_of, lines_of, texts_of}
use Rattle.pf_journal.proofs.Reading.{journal_texts, text_more}
use Rattle.pf_journal.specs.Texts.{IsFirst, whole_behind, whole_lines}

-- some lines were put, and some stand in a batch: after these records, where P holds
pub record Midway (P : Type 0) (before after lines batch : List (List ℕ)) (rest : List ℕ) : Type 0 where
  pub done : List (List ℕ)
  pub parts : lines ≡ (done ++ batch) ++ whole_lines rest
  pub records : P → after ≡ before ++ done

pub midway_line : (P : Type 0) (before after lines batch : List (List ℕ)) (rest line more : List ℕ) (newer next : List (List ℕ))
    → Midway P before after lines batch rest → IsFirst rest line more → IsAdded P after batch line newer next → Midway P before newer lines next more
midway_line P before after lines batch rest line more newer next h first (inl a) = record {
  done = h.done;
  parts =
      h.parts ∙ ap (λ (l : List (List ℕ)). (h.done ++ batch) ++ l) first.lines
      ∙ sym (append_assoc (h.done ++ batch) (line ∷ []) (whole_lines more))
      ∙ ap (λ (l : List (List ℕ)). l ++ whole_lines more) (append_assoc h.done batch (line ∷ []) ∙ ap (λ (l : List (List ℕ)). h.done ++ l) (sym a.0));
  records = λ p. a.1 p ∙ h.records p;
}
midway_line P before after lines batch rest line more newer next h first (inr a) = record {
  done = h.done ++ batch;
  parts =
      h.parts ∙ ap (λ (l : List (List ℕ)). (h.done ++ batch) ++ l) first.lines
      ∙ sym (append_assoc (h.done ++ batch) (line ∷ []) (whole_lines more))
      ∙ ap (λ (l : List (List ℕ)). ((h.done ++ batch) ++ l) ++ whole_lines more) (sym a.0);
  records = λ p. a.1 p ∙ ap (λ (l : List (List ℕ)). l ++ batch) (h.records p) ∙ append_assoc before h.done batch;
}

-- at the end of the text
pub midway_end : (P : Type 0) (before after lines batch : List (List ℕ)) (rest : List ℕ) (new : List (List ℕ))
    → Midway P before after lines batch rest → whole_lines rest ≡ [] → P → new ≡ after ++ batch → new ≡ before ++ lines
midway_end P before after lines batch rest new h none p is =
    is ∙ ap (λ (l : List (List ℕ)). l ++ batch) (h.records p) ∙ append_assoc before h.done batch
    ∙ ap (λ (l : List (List ℕ)). before ++ l) (sym (h.parts ∙ ap (λ (l : List (List ℕ)). (h.done ++ batch) ++ l) none ∙ append-nil (h.done ++ batch)))

-- what a crash leaves on the way
pub midway_leaves : (P : Type 0) (before after lines batch : List (List ℕ)) (rest : List ℕ) (c : List ℕ)
    → Midway P before after lines batch rest → P → IsBeforeOrAfter after batch c → IsWithFront before lines c
midway_leaves P before after lines batch rest c h p (inl is) = (
  h.done,
  batch ++ whole_lines rest,
  h.parts ∙ append_assoc h.done batch (whole_lines rest),
  is ∙ h.records p,
)
midway_leaves P before after lines batch rest c h p (inr is) = (
  h.done ++ batch,
  whole_lines rest,
  h.parts,
  is ∙ ap (λ (l : List (List ℕ)). l ++ batch) (h.records p) ∙ append_assoc before h.done batch,
)

-- a line without room is one of the lines
any_append : (f : List ℕ → Bool) (front rest : List (List ℕ)) → list_any f rest ≡ true → list_any f (front ++ rest) ≡ true
any_append f [] rest h = h
any_append f (first ∷ front) rest h = either_true (f first) _ (any_append f front rest h)
  where
    either_true : (a b : Bool) → b ≡ true → (a || b) ≡ true
    either_true true b h = refl
    either_true false b h = h

one_any : (f : List ℕ → Bool) (line : List ℕ) (more : List (List ℕ)) → list_any f (line ∷ []) ≡ true → list_any f (line ∷ more) ≡ true
one_any f line more h = first_true (f line) _ h
  where
    first_true : (a b : Bool) → (a || false) ≡ true → (a || b) ≡ true
    first_true true b h = refl
    first_true false b h = cc h

pub midway_long : (P : Type 0) (before after lines batch : List (List ℕ)) (rest line more : List ℕ) (f : List ℕ → Bool)
    → Midway P before after lines batch rest → IsFirst rest line more → list_any f (line ∷ []) ≡ true → list_any f lines ≡ true
midway_long P before after lines batch rest line more f h first any =
    ap (λ (l : List (List ℕ)). list_any f l) (h.parts ∙ ap (λ (l : List (List ℕ)). (h.done ++ batch) ++ l) first.lines)
    ∙ any_append f (h.done ++ batch) (line ∷ whole_lines more) (one_any f line (whole_lines more) any)

-- a line without room among those of a text
pub long_among : (lines done : List (List ℕ)) (rest line more : List ℕ) → lines ≡ done ++ whole_lines rest → IsFirst rest line more → 65536 < length line
    → list_any (λ line. not (has_room [] line)) lines ≡ true
long_among lines done rest line more is first long =
    let none : nat_le (0 + length line + 2) 65538 ≡ false = grind (arith, nat_tests) in
    let any : list_any (λ line. not (has_room [] line)) (line ∷ []) ≡ true = ap (λ (b : Bool). not b || false) none in
    ap (λ (l : List (List ℕ)). list_any (λ line. not (has_room [] line)) l) (is ∙ ap (λ (l : List (List ℕ)). done ++ l) first.lines)
    ∙ any_append (λ line. not (has_room [] line)) done (line ∷ whole_lines more) (one_any (λ line. not (has_room [] line)) line (whole_lines more) any)

-- one more line, which has room
pub none_long : (done : List (List ℕ)) (line : List ℕ) → list_any (λ line. not (has_room [] line)) done ≡ false → length line ≤ 65536
    → list_any (λ line. not (has_room [] line)) (done ++ line ∷ []) ≡ false
none_long done line none short =
    let room : nat_le (0 + length line + 2) 65538 ≡ true = grind (arith, nat_tests) in
    list_any-append (λ line. not (has_room [] line)) done (line ∷ [])
    ∙ ap (λ (b : Bool). b || (not (has_room [] line) || false)) none
    ∙ ap (λ (b : Bool). not b || false) room

-- the lines of a text with their gates, and one more
pub gated_line : (lines done : List (List ℕ)) (rest line more : List ℕ) → lines ≡ done ++ whole_lines rest → IsFirst rest line more
    → lines ≡ (done ++ line ∷ []) ++ whole_lines more
gated_line lines done rest line more is first = is ∙ ap (λ (l : List (List ℕ)). done ++ l) first.lines ∙ sym (append_assoc done (line ∷ []) (whole_lines more))

pub gated_bytes : (done : List (List ℕ)) (line had bytes : List ℕ) → had ≡ lines_of done → bytes ≡ ((had ++ 32 ∷ []) ++ line) ++ 10 ∷ []
    → bytes ≡ lines_of (done ++ line ∷ [])
gated_bytes done line had bytes was is =
    is ∙ ap (λ (l : List ℕ). l ++ 10 ∷ []) (append_assoc had (32 ∷ []) line) ∙ append_assoc had (32 ∷ line) (10 ∷ [])
    ∙ ap (λ (l : List ℕ). l ++ line_of line) was
    ∙ ap (λ (l : List ℕ). lines_of done ++ l) (sym (append-nil (line_of line)))
    ∙ sym (flat_map-append line_of done (line ∷ []))

-- why lines were not put, where the journal failed at some of them
pub cause_of : {D : Type 0} (seen : D → List ℕ) (faults : D → ℕ) (is_clean : D → Bool) (lines some : List (List ℕ)) (error : JournalError) (old mid new : D)
    → faults mid ≡ faults old
    → (list_any (λ line. not (has_room [] line)) some ≡ true → list_any (λ line. not (has_room [] line)) lines ≡ true)
    → HasCause seen faults is_clean some error mid new → HasCause seen faults is_clean lines error old new
cause_of seen faults is_clean lines some error old mid new same any (inl long) = inl long
cause_of seen faults is_clean lines some error old mid new same any (inr (inl line)) = inr (inl (line.0, any line.1))
cause_of seen faults is_clean lines some error old mid new same any (inr (inr failed)) =
    inr (inr (record {
      why = failed.why;
      is = failed.is;
      more = subst (λ (n : ℕ). MoreFaults n (faults new)) same failed.more;
    }))

-- the lines of a text have no LF
behind_all : (line text : List ℕ) → is_text line ≡ true → list_all is_text (whole_behind line text) ≡ true
behind_all line [] is = refl
behind_all line (byte ∷ text) is = elim (cases_eq byte 10) [
  | inl end ↦
      ap (λ (b : ℕ). list_all is_text (whole_behind line (b ∷ text))) end ∙ both_true is (behind_all [] text refl)
  | inr other ↦
      let none : (byte == 10) ≡ false = grind (arith, nat_tests) in
      ap (λ (b : Bool). list_all is_text (if b then line ∷ whole_behind [] text else whole_behind (line ++ byte ∷ []) text)) none
      ∙ behind_all (line ++ byte ∷ []) text (text_more line byte is other)
]

pub gated_read : (text bytes : List ℕ) → bytes ≡ journal_of (whole_lines text) → texts_of bytes ≡ whole_lines text
gated_read text bytes is = ap texts_of is ∙ journal_texts (whole_lines text) (behind_all [] text refl)

pub added_so : (P Q : Type 0) (records batch : List (List ℕ)) (line : List ℕ) (new next : List (List ℕ)) → (P → Q)
    → IsAdded Q records batch line new next → IsAdded P records batch line new next
added_so P Q records batch line new next to (inl h) = inl (h.0, λ p. h.1 (to p))
added_so P Q records batch line new next to (inr h) = inr (h.0, λ p. h.1 (to p))
