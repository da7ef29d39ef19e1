use Rattle.std.proofs.Common.{◌≡◌, ◌+◌, ◌*◌, ◌/◌, ◌%◌, ◌-◌, ◌≤◌, length, ap, sym, ◌∙◌, arith}
use Rattle.std.specs.List.{slice_get}
use Rattle.pf_collections.specs.List.Grouping.{grouped}
use Rattle.pf_collections.proofs.ListLemmas.Groups.{slice_get-take, got_in_full, got_in_last, none_within}
use Rattle.pf_collections.proofs.list.shared_list.SharedList.owner.Goals as goal

pub returns-in-Some : goal.returns-in-Some
returns-in-Some g c =
    let inside = c.self.inside in
    let all = grouped inside.full inside.last in
    let q = c.args.k / 128 in
    let r = c.args.k % 128 in
    let at : q * 128 + r ≡ c.args.k = omega arith in
    c.owner.ensures
    ∙ sym (got_in_full inside.full inside.last c.in-Some.group.now q r c.self.invariant.groups.whole c.in-Some.ensures (omega arith))
    ∙ ap (slice_get all) at
    ∙ sym (slice_get-take inside.count all c.args.k (omega (arith, c.if-k-self.false)))
    ∙ ap (λ items. slice_get items c.args.k) c.self.view_is

pub returns-in-None : goal.returns-in-None
returns-in-None g c =
    let inside = c.self.inside in
    let all = grouped inside.full inside.last in
    let past : length inside.full ≤ c.args.k / 128 = none_within inside.full (c.args.k / 128) c.in-None.ensures in
    c.owner-in-None.ensures
    ∙ ap (λ n. slice_get inside.last (c.args.k - n * 128)) c.len.ensures
    ∙ sym (got_in_last inside.full inside.last c.args.k c.self.invariant.groups.whole (omega arith))
    ∙ sym (slice_get-take inside.count all c.args.k (omega (arith, c.if-k-self.false)))
    ∙ ap (λ items. slice_get items c.args.k) c.self.view_is
