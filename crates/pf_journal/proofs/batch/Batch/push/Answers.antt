use Rattle.std.proofs.Common.{append_assoc, ◌≡◌, ◌+◌, ◌≤◌, ◌-◌, ℕ, List, [], ◌∷◌, ◌++◌, length, slice_set, sym, ◌∙◌, ap, arith, length-append}
use Rattle.pf_journal.specs.Batches.{has_room}
use Rattle.pf_journal.specs.Lines.{line_of, lines_of, journal_of, texts_of}
use Rattle.pf_journal.proofs.Reading.{texts_of-all}
use Rattle.pf_journal.proofs.Pushing.{pushed, pushed_lines, pushed_room, pushed_texts}
use Rattle.pf_journal.proofs.batch.Batch.push.Goals as goal

pub invariant_of-self : goal.invariant_of-self
invariant_of-self c =
    let had = c.self.inside.bytes.items in
    let texts = texts_of had in
    let text = c.args.text.now in
    let bytes = c.extend_from_slice-2.new.self.items in
    let gate = c.len-gate.result - 1 in
    let first : c.extend_from_slice.new.self.items ≡ had ++ text = rw c.unwrap.ensures at c.extend_from_slice.ensures.items in
    let second : bytes ≡ c.extend_from_slice.new.self.items ++ 10 ∷ 35 ∷ [] = rw c.unwrap-2.ensures at c.extend_from_slice-2.ensures.items in
    let bytes_are : bytes ≡ journal_of texts ++ (text ++ 10 ∷ 35 ∷ []) =
    second
    ∙ ap (λ (l : List ℕ). l ++ 10 ∷ 35 ∷ []) first
    ∙ append_assoc had text (10 ∷ 35 ∷ [])
    ∙ ap (λ (l : List ℕ). l ++ (text ++ 10 ∷ 35 ∷ [])) c.self.invariant.0 in
    let gate_is : gate ≡ length (lines_of texts) = omega (arith, c.len-gate.ensures, ap length c.self.invariant.0, length-append (lines_of texts) (35 ∷ [])) in
    let whole : slice_set bytes gate 32 ≡ journal_of (texts ++ text ∷ []) = pushed texts text bytes gate bytes_are gate_is in
    let all : texts_of (slice_set bytes gate 32) ≡ texts ++ text ∷ [] = pushed_texts texts text (texts_of-all had) c.requires.text (slice_set bytes gate 32) whole in
    let view : texts ≡ c.args.self.now = c.self.view_is in
    let room : length (lines_of texts) + length text + 2 ≤ 65538 = pushed_room texts text (ap (λ (ts : List (List ℕ)). has_room ts text) view ∙ c.requires.room) in (
      whole ∙ ap (λ (ts : List (List ℕ)). journal_of ts) (sym all),
      omega (arith, ap length all, length-append texts (text ∷ []), c.self.invariant.1),
      omega (
        arith,
        room,
        ap length whole,
        ap length (pushed_lines texts text),
        length-append (lines_of texts) (line_of text),
        length-append text (10 ∷ []),
        length-append (lines_of (texts ++ text ∷ [])) (35 ∷ []),
      ),
      omega (arith, c.self.invariant.3, c.extend_from_slice.ensures.capacity, c.extend_from_slice-2.ensures.capacity),
    )

pub returns : goal.returns
returns c =
    let had = c.self.inside.bytes.items in
    let texts = texts_of had in
    let text = c.args.text.now in
    let bytes = c.extend_from_slice-2.new.self.items in
    let gate = c.len-gate.result - 1 in
    let first : c.extend_from_slice.new.self.items ≡ had ++ text = rw c.unwrap.ensures at c.extend_from_slice.ensures.items in
    let second : bytes ≡ c.extend_from_slice.new.self.items ++ 10 ∷ 35 ∷ [] = rw c.unwrap-2.ensures at c.extend_from_slice-2.ensures.items in
    let bytes_are : bytes ≡ journal_of texts ++ (text ++ 10 ∷ 35 ∷ []) =
    second
    ∙ ap (λ (l : List ℕ). l ++ 10 ∷ 35 ∷ []) first
    ∙ append_assoc had text (10 ∷ 35 ∷ [])
    ∙ ap (λ (l : List ℕ). l ++ (text ++ 10 ∷ 35 ∷ [])) c.self.invariant.0 in
    let gate_is : gate ≡ length (lines_of texts) = omega (arith, c.len-gate.ensures, ap length c.self.invariant.0, length-append (lines_of texts) (35 ∷ [])) in
    let whole : slice_set bytes gate 32 ≡ journal_of (texts ++ text ∷ []) = pushed texts text bytes gate bytes_are gate_is in
    let view : texts ≡ c.args.self.now = c.self.view_is in
    record {
      ok = pushed_texts texts text (texts_of-all had) c.requires.text (slice_set bytes gate 32) whole ∙ ap (λ (ts : List (List ℕ)). ts ++ text ∷ []) view;
    }
