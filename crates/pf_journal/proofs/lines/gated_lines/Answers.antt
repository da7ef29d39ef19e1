use Rattle.std.proofs.Common.{◌++◌, ◌∷◌, [], ℕ, List, ◌∙◌, ap, inl, refl, sym, append-nil, arith, not}
use Rattle.std.specs.List.{list_any}
use Rattle.pf_journal.specs.Batches.{has_room}
use Rattle.pf_journal.specs.Lines.{lines_of}
use Rattle.pf_journal.proofs.Adding.{gated_bytes, gated_line, gated_read, long_among, none_long}
use Rattle.pf_journal.proofs.lines.gated_lines.Goals as goal

pub loop-line-preserved : goal.loop-line-preserved
loop-line-preserved c =
    let i = c.loop-line.invariant in
    let line = c.in-Some.line.now in (
      i.0 ++ line ∷ [],
      gated_bytes i.0 line c.loop-line.bytes.items _ i.1
          (c.in_ok-extend_from_slice-3.ensures.items
          ∙ ap (λ (l : List ℕ). l ++ 10 ∷ [])
          (c.in_ok-extend_from_slice-2.ensures.items ∙ ap (λ (l : List ℕ). l ++ line) c.in_ok-extend_from_slice.ensures.items)),
      gated_line _ i.0 c.loop-line.rest.now line _ i.2 c.in-Some.ensures,
      none_long i.0 line i.3 (omega (arith, c.if-line-gt-MOST_TEXT.false)),
    )

pub returns-clause-read : goal.returns-clause-read
returns-clause-read c =
    let i = c.loop-line.invariant in
    gated_read c.args.text.now c.extend_from_slice-2.new.self.items (c.in_ok-extend_from_slice-4.ensures.items
    ∙ ap (λ (l : List ℕ). l ++ 35 ∷ [])
    (i.1 ∙ ap lines_of (sym (i.2 ∙ ap (λ (l : List (List ℕ)). i.0 ++ l) c.in_default.ensures ∙ append-nil i.0))))

pub returns-then-line-gt-MOST_TEXT-clause-failed : goal.returns-then-line-gt-MOST_TEXT-clause-failed
returns-then-line-gt-MOST_TEXT-clause-failed c =
    let i = c.loop-line.invariant in
    inl (refl, long_among _ i.0 c.loop-line.rest.now c.in-Some.line.now _ i.2 c.in-Some.ensures c.if-line-gt-MOST_TEXT.true)

pub returns-clause-short : goal.returns-clause-short
returns-clause-short c =
    let i = c.loop-line.invariant in
    ap (λ (l : List (List ℕ)). list_any (λ line. not (has_room [] line)) l) (i.2 ∙ ap (λ (l : List (List ℕ)). i.0 ++ l) c.in_default.ensures ∙ append-nil i.0) ∙ i.3
