use Rattle.std.proofs.Common.{◌≡◌, suc, ◌-◌, ◌<◌, ◌∷◌, [], ◌∙◌, None, ap, get_or, length, map, sym, arith}
use Rattle.std.specs.Fmt.{decimal}
use Rattle.std.proofs.lemmas.List.{get_or-map, length-map}
use Rattle.pf_place.specs.Lent.{lent_row}
use Rattle.pf_report.specs.Tables.{sitter_field}
use Rattle.pf_report.proofs.schedule.SlotFieldsFields.write.Goals as goal

pub returns : goal.returns
returns c =
    let row = lent_row c.self.inside.row in
    let k = c.args.at - 1 in
    let next : suc k ≡ c.args.at = omega (arith, c.if-at-eq0.false) in
    let long = length-map row sitter_field in
    let within : k < length row = omega (arith, next, long, ap length c.self.view_is, c.requires) in
    c.write_sitter.ensures
    ∙ ap sitter_field c.get.ensures
    ∙ sym (get_or-map sitter_field row k None [] within)
    ∙ ap (λ n. get_or (decimal c.self.inside.slot ∷ map sitter_field row) n []) next
    ∙ ap (λ fields. get_or fields c.args.at []) c.self.view_is
