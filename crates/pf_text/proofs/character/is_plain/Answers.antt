use Rattle.std.proofs.Common.{◌≡◌, true, false, not, ap, refl, ◌∙◌}
use Rattle.std.proofs.lemmas.Str.{IsUtf8-from_is_utf8, is_utf8-from_IsUtf8}
use Rattle.std.specs.List.{list_any}
use Rattle.std.specs.Str.{chars, is_utf8}
use Rattle.pf_text.specs.FileName.{is_hidden, is_plain}
use Rattle.pf_text.proofs.character.is_plain.Goals as goal

pub returns-in-Ok : goal.returns-in-Ok
unfolding is_plain
returns-in-Ok c =
    rw (is_utf8-from_IsUtf8 c.args.bytes.now c.in-Ok.ensures.cases.1)
    (ap not c.has_hidden.ensures ∙ ap (λ bytes. not (list_any is_hidden (chars bytes))) c.in-Ok.ensures.cases.0)

pub returns-in-Err : goal.returns-in-Err
unfolding is_plain
returns-in-Err c =
    let bytes = c.args.bytes.now in
    let no : is_utf8 bytes ≡ false = elim (is_utf8 bytes) as (λ v. is_utf8 bytes ≡ v → v ≡ false) [
      | true ↦ λ e. absurd (c.in-Err.ensures.cases.0 (IsUtf8-from_is_utf8 bytes e))
      | false ↦ λ e. refl
    ] refl in
    rw no refl
