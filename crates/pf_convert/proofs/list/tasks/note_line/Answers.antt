use Rattle.std.proofs.Common.{◌≡◌, ◌∙◌, string_bytes, sym, ap}
use Rattle.std.specs.BTreeMap.{get_by_text}
use Rattle.std.specs.Prelude.{Some}
use Rattle.std.specs.Map.{update}
use Rattle.std.specs.Str.{bytes_eq}
use Rattle.std.proofs.lemmas.Map.Text.{btree_map_updates_text}
use Rattle.std.proofs.lemmas.Result.{IfOk-at_ok}
use Rattle.pf_convert.proofs.ListLemmas.Named.{name_noted}
use Rattle.pf_convert.proofs.list.tasks.note_line.Goals as goal

pub returns-clause-noted : goal.returns-clause-noted
returns-clause-noted c = λ other.
    let named = IfOk-at_ok (λ s. string_bytes s ≡ c.args.name.now) c.in_ok-name.was c.from_str.ensures.ok in
    btree_map_updates_text (string_bytes c.in_ok-name.name) c.args.lines.now c.insert.new.self _ c.in_ok-insert.ensures.updates other
    ∙ ap (λ bytes. update bytes_eq (get_by_text c.args.lines.now) bytes (Some c.args.line) other) named
    ∙ name_noted (get_by_text c.args.lines.now) c.args.name.now c.args.line (sym c.contains_key.ensures ∙ c.if-contains_key.false) other
