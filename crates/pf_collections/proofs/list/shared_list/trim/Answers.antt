use Rattle.std.proofs.Common.{rules, ◌≡◌, ◌+◌, ◌*◌, ◌/◌, ◌%◌, ◌≤◌, length, take, ap, ap₂, ◌∙◌, arith}
use Rattle.pf_collections.specs.List.Grouping.{grouped}
use Rattle.pf_collections.proofs.ListLemmas.Groups.{first_in_full, first_in_last, none_within}
use Rattle.pf_collections.proofs.list.shared_list.trim.Goals as goal

pub returns-in-None-clause-ok : goal.returns-in-None-clause-ok
returns-in-None-clause-ok g c =
    let full = c.args.full.now in
    let past : length full ≤ c.args.count / 128 = none_within full (c.args.count / 128) c.in-None.ensures in
    let first = first_in_last full c.args.last.now c.args.count c.requires.groups.whole (omega arith) in
    search rules

pub returns-in_ok-truncate-in-Some-2-clause-ok : goal.returns-in_ok-truncate-in-Some-2-clause-ok
returns-in_ok-truncate-in-Some-2-clause-ok g c =
    let q = c.args.count / 128 in
    let r = c.args.count % 128 in
    let at : q * 128 + r ≡ c.args.count = omega arith in
    let first = first_in_full c.args.full.now c.args.last.now c.in-Some.group.now q r c.requires.groups.whole c.in-Some.ensures (omega arith) in
    let part : c.truncate-in-Some.new.self ≡ take r c.in-Some.group.now = c.in_ok-truncate-in-Some.ensures.ok ∙ ap (take r) c.in_ok-part-in-Some.ensures in
    ap₂ grouped c.in_ok-truncate-in-Some-2.ensures.ok part
    ∙ first
    ∙ ap (λ n. take n (grouped c.args.full.now c.args.last.now)) at
