use Rattle.std.proofs.Common.{◌≡◌, ◌+◌, ◌*◌, ◌-◌, ◌≤◌, length, ap, sym, ◌∙◌, arith}
use Rattle.std.specs.List.{slice_get}
use Rattle.std.proofs.lemmas.List.{length-take-le}
use Rattle.pf_collections.specs.List.Grouping.{grouped}
use Rattle.pf_collections.proofs.ListLemmas.Groups.{slice_get-take, got_in_last}
use Rattle.pf_collections.proofs.list.shared_list.SharedList.share_last.Goals as goal

pub share-requires : goal.share-requires
share-requires g c =
    let inside = c.self.inside in
    let all = grouped inside.full inside.last in
    let k = c.in-Some.k in
    let at = c.in-Some-checked_sub.at in
    let count : length c.args.self.now ≡ inside.count = ap length (sym c.self.view_is) ∙ length-take-le inside.count all c.self.invariant.within in
    let last : k ≡ length c.args.self.now - 1 = omega (arith, count, c.in-Some.ensures) in
    c.in-Some-owner.ensures
    ∙ ap (slice_get c.args.other.now) last
    ∙ c.requires
    ∙ ap (slice_get c.args.self.now) (sym last)
    ∙ sym (ap (λ items. slice_get items k) c.self.view_is)
    ∙ slice_get-take inside.count all k (omega (arith, c.in-Some.ensures))
    ∙ got_in_last inside.full inside.last k c.self.invariant.groups.whole (omega (arith, c.len.ensures, c.in-Some-checked_sub.ensures))
    ∙ ap (slice_get inside.last) (omega (arith, c.len.ensures, c.in-Some-checked_sub.ensures))
