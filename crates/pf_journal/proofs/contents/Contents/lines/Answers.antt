use Rattle.std.proofs.Common.{ℕ, List, length, take, sym, ◌∙◌, ap, arith}
use Rattle.std.proofs.lemmas.List.{length-take, take_at}
use Rattle.pf_journal.specs.Lines.{lines_of, texts_of}
use Rattle.pf_journal.proofs.Reading.{split}
use Rattle.pf_journal.proofs.Sizes.{size_within}
use Rattle.pf_journal.proofs.contents.Contents.lines.Goals as goal

pub slice_bounds-result-end : goal.slice_bounds-result-end
slice_bounds-result-end c =
    let self = c.args.self.now in
    omega (arith, self.sized, size_within self.bytes.items, length-take self.size c.deref.result.now, ap length c.deref.ensures.value)

pub returns : goal.returns
returns c =
    let self = c.args.self.now in
    let s = split self.bytes.items in
    ap (λ (l : List ℕ). take self.size l) (c.deref.ensures.value ∙ s.is) ∙ take_at (lines_of (texts_of self.bytes.items)) s.end self.size (sym self.sized)
