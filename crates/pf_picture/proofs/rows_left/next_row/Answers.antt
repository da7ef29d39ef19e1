use Rattle.std.proofs.Common.{◌≡◌, ◌≤◌, ◌<◌, ◌∙◌, ◌+◌, ◌∷◌, ◌++◌, drop, length, ap, sym, subst, arith}
use Rattle.pf_picture.specs.Picture.{rows_text}
use Rattle.pf_picture.specs.Processors.{processor_text}
use Rattle.pf_picture.specs.Rows.{height_of}
use Rattle.pf_picture.specs.Task.{task_text_of}
use Rattle.pf_picture.proofs.Parts.{processor_next, processor_some, task_and_others, task_next, task_some}
use Rattle.pf_picture.proofs.rows_left.next_row.Goals as goal

pub returns-then-from-processors : goal.returns-then-from-processors
returns-then-from-processors c =
    let seen = c.args.snapshot.now in
    let s = c.args.scale in
    let drawings = c.args.drawings.now in
    let rows = c.args.rows in
    let text = c.in_ok-text.text.items in
    let is : text ≡ processor_text seen s drawings rows.processor = c.in_ok-text.ensures in (
      processor_next seen s drawings rows.processor rows.place rows.top (omega (arith, c.if-from-processors.true, c.from.ensures, c.processors.ensures.value))
          ∙ ap (λ t. t ++ rows_text seen s drawings (rows.processor + 1) rows.place rows.top) (sym is),
      processor_some seen s drawings rows.processor text is,
      record { below = c.requires.left.below; above = c.requires.left.above },
    )

pub returns : goal.returns
returns c =
    let seen = c.args.snapshot.now in
    let s = c.args.scale in
    let drawings = c.args.drawings.now in
    let rows = c.args.rows in
    let shown = c.shown-shown.result.now in
    let drawing = c.index-shown-place.result in
    let text = c.in_ok-text-2.text.items in
    let is : text ≡ task_text_of s rows.top rows.place drawing = c.in_ok-text-2.ensures in
    let within : rows.place < length shown = omega (arith, c.if-place-shown.false) in
    let first : drop rows.place shown ≡ drawing ∷ drop (rows.place + 1) shown =
    task_and_others shown rows.place drawing within ∙ ap (λ d. d ∷ drop (rows.place + 1) shown) (sym c.index-shown-place.is) in
    let at : drop rows.place drawings.shown ≡ drawing ∷ drop (rows.place + 1) drawings.shown =
    subst (λ ds. drop rows.place ds ≡ drawing ∷ drop (rows.place + 1) ds) c.shown-shown.ensures first in
    let over : s.processors ≤ rows.processor = omega (arith, c.if-from-processors.false, c.from.ensures, c.processors.ensures.value) in (
      task_next seen s drawings rows.processor rows.place rows.top drawing over at
          ∙ ap (λ t. t ++ rows_text seen s drawings rows.processor (rows.place + 1) (rows.top + height_of s drawing)) (sym is)
          ∙ ap (λ h. text ++ rows_text seen s drawings rows.processor (rows.place + 1) (rows.top + h)) (sym c.height_of.ensures.value),
      task_some s rows.top rows.place drawing text is,
      record { below = omega (arith, c.requires.left.below); above = omega (arith, c.requires.left.above, c.height_of.ensures.short) },
    )
