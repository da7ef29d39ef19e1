use Rattle.std.proofs.Common.{rules, ◌≡◌, ◌++◌, ◌/◌, ℕ, List, OnOk, codes, subst}
use Rattle.pf_text.specs.Columns.Decimals.{up}
use Rattle.pf_fit_text.specs.Lines.{late_end, late_line}
use Rattle.pf_fit_text.proofs.Pieces.{pieces}
use Rattle.pf_fit_text.proofs.lines.push_late.Goals as goal

pub returns : goal.returns
unfolding late_line
returns c =
    let end = late_end (c.args.units / c.args.base) in
    let second : c.push_up.new.text.items ≡ c.push_element.new.text.items ++ up c.args.units c.args.base 4 = search rules in
    let told : OnOk c.push_late_end.result (c.push_late_end.new.text.items ≡ c.push_up.new.text.items ++ end) = search rules in
    subst (λ (t : List ℕ). OnOk c.push_late_end.result (c.push_late_end.new.text.items ≡ t))
    (pieces c.args.text.now.items (codes "by theorem: they are asked for ") (up c.args.units c.args.base 4) end c.push_element.new.text.items c.push_up.new.text.items
    c.in_ok-push_element.ensures second)
    told
