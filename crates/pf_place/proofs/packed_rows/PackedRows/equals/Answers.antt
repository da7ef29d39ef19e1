use Rattle.std.proofs.Common.{◌≡◌, ap₂, sym, ◌∙◌, arith}
use Rattle.std.proofs.lemmas.Bool.{eqb-true}
use Rattle.pf_place.specs.Blocks.{rows_between}
use Rattle.pf_place.specs.Packed.{even_ends}
use Rattle.pf_place.proofs.Small.{same_places}
use Rattle.pf_place.proofs.packed_rows.PackedRows.equals.Goals as goal
use Rattle.pf_place.proofs.packed_rows.PackedRows.equals.Goals.{then-self-other, else-self-other}

pub returns-then-self-other-2 : goal.returns-then-self-other-2
returns-then-self-other-2 c same =
    let ours = c.self.inside in
    let theirs = c.other.inside in
    elim c.if-self-other.branch [
      | then-self-other w ↦
          let count : theirs.count ≡ ours.count = sym w.if-self-other.true in
          let width : theirs.width ≡ ours.width = sym (eqb-true ours.width theirs.width (sym w.value-is ∙ c.if-self-other-2.true)) in
          let places : theirs.places.items ≡ ours.places.items = same_places ours.places.items theirs.places.items (sym c.eq.ensures ∙ same) in
          sym c.other.view_is
          ∙ ap₂ (λ ends places. rows_between 0 ends places) (ap₂ (λ width count. even_ends 0 width count) width count) places
          ∙ c.self.view_is
      | else-self-other w ↦
          let count : ours.count ≡ theirs.count = eqb-true ours.count theirs.count (sym w.value-is ∙ c.if-self-other-2.true) in
          absurd (omega (arith, count, w.if-self-other.false))
    ]
