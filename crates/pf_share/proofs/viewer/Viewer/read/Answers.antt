use Rattle.std.proofs.Common.{◌++◌, ◌∷◌, [], length, ap, ◌∙◌, refl, inl, inr}
use Rattle.left_right.specs.Sides.{view}
use Rattle.pf_lemmas.proofs.Prefixes.{prefix_self}
use Rattle.pf_share.proofs.Growing.{enters, prefix_into, viewed}
use Rattle.pf_share.proofs.viewer.Viewer.read.Goals as goal

pub enter_as-requires : goal.enter_as-requires
enter_as-requires c x = let v = view c.in-Some.reader.place in enters c.in-Some.reader.place.id v x (v.reads ++ length x.history ∷ [])

pub invariant_of-self : goal.invariant_of-self
invariant_of-self c =
    let sees = c.in-Ok.ensures.1 in
    let x = c.in-Ok.reading.part.value in
    let v = view c.in-Some.reader.place in
    let is = rw (← c.in-Some.ensures.value) at c.self.invariant in
    viewed c.self.inside.read c.self.inside.told v x (v.reads ++ length x.history ∷ []) (view c.in-Ok.reading.place) (view c.leave.result.place) c.self.inside.read c.self.inside.told is sees c.leave.ensures.1 (inl refl) (inl refl)

pub invariant_of-self-in-Ok : goal.invariant_of-self-in-Ok
invariant_of-self-in-Ok c =
    let sees = c.in-Ok.ensures.1 in
    let x = c.in-Ok.reading.part.value in
    let v = view c.in-Some.reader.place in
    let stamp = c.again-stamp.ensures ∙ (c.stamp.ensures ∙ c.get-shown.ensures) in
    let is = rw (← c.in-Some.ensures.value) at c.self.invariant in
    viewed c.self.inside.read c.self.inside.told v x (v.reads ++ length x.history ∷ []) (view c.in-Ok.reading.place) (view c.leave.result.place) c.again-stamp.result c.self.inside.told is sees c.leave.ensures.1 (inr stamp) (inl refl)

pub returns-in-Ok-snapshot-clause-grew : goal.returns-in-Ok-snapshot-clause-grew
returns-in-Ok-snapshot-clause-grew c =
    let sees = c.in-Ok.ensures.1 in
    let x = c.in-Ok.reading.part.value in
    let v = view c.in-Some.reader.place in
    let stamp = c.again-stamp.ensures ∙ (c.stamp.ensures ∙ c.get-shown.ensures) in
    let is = rw (← c.in-Some.ensures.value) at c.self.invariant in
    rw (← ap (λ s. s.read) c.self.view_is) (prefix_into c.self.inside.read.history v.seen x.history c.again-stamp.result.history is.seen_read sees.grew (ap (λ s. s.history) stamp))

pub returns-in_default-snapshot-clause-grew : goal.returns-in_default-snapshot-clause-grew
returns-in_default-snapshot-clause-grew c = rw (← ap (λ s. s.read) c.self.view_is) (prefix_self c.self.inside.read.history)

pub returns-in-Ok-snapshot-clause-told : goal.returns-in-Ok-snapshot-clause-told
returns-in-Ok-snapshot-clause-told c =
    let sees = c.in-Ok.ensures.1 in
    let x = c.in-Ok.reading.part.value in
    let v = view c.in-Some.reader.place in
    let stamp = c.again-stamp.ensures ∙ (c.stamp.ensures ∙ c.get-shown.ensures) in
    let is = rw (← c.in-Some.ensures.value) at c.self.invariant in
    rw (← ap (λ s. s.told) c.self.view_is) (prefix_into c.self.inside.told.history v.seen x.history c.again-stamp.result.history is.seen_told sees.grew (ap (λ s. s.history) stamp))
