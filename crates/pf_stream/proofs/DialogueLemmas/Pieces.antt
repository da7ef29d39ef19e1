-- What is left of a piece, and what comes after it.
use Rattle.std.proofs.Common.{◌≡◌, ◌≢◌, ◌∙◌, ◌+◌, ◌-◌, ◌≤◌, ℕ, Some, true, false, List, [], ◌++◌, arith, ap, drop, length, sym, subst, take, false-eqb}
use Rattle.std.proofs.lemmas.Bool.{eqb-true}
use Rattle.std.specs.Prelude.{◌==◌, slice_range}
use Rattle.std.proofs.lemmas.List.{append-nil, drop-drop, drop-take, length-take}
use Rattle.pf_stream.specs.Dialogue.Ahead.{HearsAhead, IsAhead, ahead_of}
use Rattle.pf_stream.specs.Dialogue.Lines.{IsFront, lines_in}
use Rattle.pf_stream.specs.declared.dialogue.ahead.Ahead.{Ahead}

-- Use: some bytes of it were taken.
pub left_more : (piece : List ℕ) (from to count : ℕ) → count ≤ length (slice_range piece from to)
    → drop count (slice_range piece from to) ≡ slice_range piece (from + count) to
left_more piece from to count within =
    let parts : to - from ≡ count + (to - (from + count)) = omega (arith, within, length-take (to - from) (drop from piece)) in
    ap (λ (n : ℕ). drop count (take n (drop from piece))) parts ∙ drop-take count (to - (from + count)) (drop from piece)
    ∙ ap (take (to - (from + count))) (drop-drop count from piece)

none_left : (piece : List ℕ) (from to : ℕ) → to ≤ from → slice_range piece from to ≡ []
none_left piece from to none =
    let zero : to - from ≡ 0 = omega (arith, none) in
    ap (λ (n : ℕ). take n (drop from piece)) zero

whole_left : (piece : List ℕ) (count : ℕ) → slice_range piece 0 count ≡ take count piece
whole_left piece count =
    let all : count - 0 ≡ count = omega arith in
    ap (λ (n : ℕ). take n piece) all

none_taken : (bytes : List ℕ) (count : ℕ) → (count == 0) ≡ true → take count bytes ≡ []
none_taken bytes count is = ap (λ (n : ℕ). take n bytes) (eqb-true count 0 is)

some_taken : (bytes : List ℕ) (count : ℕ) → (count == 0) ≡ false → count ≤ length bytes → Some (take count bytes) ≢ Some []
some_taken bytes count is bound none =
    let empty : take count bytes ≡ [] = cc in
    let length_is : length (take count bytes) ≡ 0 = ap length empty in
    let some : count ≢ 0 = false-eqb count 0 (sym is) in
    omega (arith, some, bound, length_is, length-take count bytes)

-- Use: more was asked for.
pub heard_more : {D : Type 0} (hears : D → List ℕ → D → Type 0) (d : D) (old new : Ahead) (piece : List ℕ) (came : ℕ) (e : D) → IsAhead old → old.to ≤ old.from
    → new.line.items ≡ old.line.items → new.from ≡ 0 → new.to ≡ came → new.piece.items ≡ piece → length piece ≡ length old.piece.items → came ≤ length piece
    → hears d (take came piece) e → HearsAhead hears d old (came == 0) e new
heard_more hears d old new piece came e is none line from to now_is same bound heard =
    let was : ahead_of old ≡ old.line.items =
    ap (λ (l : List ℕ). old.line.items ++ l) (none_left old.piece.items old.from old.to none) ∙ append-nil old.line.items in
    let now : ahead_of new ≡ old.line.items ++ take came piece =
    ap (λ (l : List ℕ). l ++ slice_range new.piece.items new.from new.to) line
    ∙ ap (λ (n : ℕ). old.line.items ++ slice_range new.piece.items n new.to) from
    ∙ ap (λ (n : ℕ). old.line.items ++ slice_range new.piece.items 0 n) to
    ∙ ap (λ (l : List ℕ). old.line.items ++ slice_range l 0 came) now_is ∙ ap (λ (l : List ℕ). old.line.items ++ l) (whole_left piece came) in
    let length_is : length new.piece.items ≡ length piece = ap length now_is in
    record {
      came = Some (take came piece);
      heard = (ap (lines_in []) was ∙ is.front.lines, heard);
      ahead = now ∙ sym (ap (λ (l : List ℕ). l ++ take came piece) was);
      is = record {
        front = subst IsFront (sym line) is.front;
        some = omega (arith, length_is, same, is.some);
        order = omega (arith, from);
        bound = omega (arith, to, length_is, bound);
      };
      end = λ ends. ap (λ (l : List ℕ). Some l) (none_taken piece came ends);
      none = λ ends. from ∙ sym (to ∙ eqb-true came 0 ends);
      more = λ more. some_taken piece came more bound;
    }
