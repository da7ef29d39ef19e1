use Rattle.std.proofs.Common.{sym, ap, ◌∙◌, refl, inl, inr}
use Rattle.left_right.specs.Sides.{view}
use Rattle.pf_share.proofs.Growing.{enters, prefix_into, viewed}
use Rattle.pf_share.proofs.viewer.Viewer.learn.Goals as goal

pub enter_as-requires : goal.enter_as-requires
enter_as-requires c x = let v = view c.in-Some.reader.place in enters c.in-Some.reader.place.id v x v.reads

pub invariant_of-self : goal.invariant_of-self
invariant_of-self c =
    let sees = c.in-Ok.ensures.1 in
    let x = c.in-Ok.reading.part.value in
    let v = view c.in-Some.reader.place in
    let stamp = c.again.ensures ∙ (sym (c.if-is.ensures refl) ∙ (c.stamp.ensures ∙ c.get.ensures)) in
    let is = rw (← c.in-Some.ensures.value) at c.self.invariant in
    viewed c.self.inside.read c.self.inside.told v x v.reads (view c.in-Ok.reading.place) (view c.leave.result.place) c.self.inside.read c.again.result is sees c.leave.ensures.1 (inl refl) (inr stamp)

pub invariant_of-self-else-is : goal.invariant_of-self-else-is
invariant_of-self-else-is c =
    let sees = c.in-Ok.ensures.1 in
    let x = c.in-Ok.reading.part.value in
    let v = view c.in-Some.reader.place in
    let is = rw (← c.in-Some.ensures.value) at c.self.invariant in
    viewed c.self.inside.read c.self.inside.told v x v.reads (view c.in-Ok.reading.place) (view c.leave.result.place) c.self.inside.read c.self.inside.told is sees c.leave.ensures.1 (inl refl) (inl refl)

pub returns-then-is-clause-grew : goal.returns-then-is-clause-grew
returns-then-is-clause-grew c told =
    let sees = c.in-Ok.ensures.1 in
    let x = c.in-Ok.reading.part.value in
    let v = view c.in-Some.reader.place in
    let stamp = sym (c.if-is.ensures refl) ∙ (c.stamp.ensures ∙ c.get.ensures) in
    let is = rw (← c.in-Some.ensures.value) at c.self.invariant in
    rw (← ap (λ s. s.told) c.self.view_is) (prefix_into c.self.inside.told.history v.seen x.history c.args.stamp.now.history is.seen_told sees.grew (ap (λ s. s.history) stamp))

pub returns-then-is-clause-read : goal.returns-then-is-clause-read
returns-then-is-clause-read c told =
    let sees = c.in-Ok.ensures.1 in
    let x = c.in-Ok.reading.part.value in
    let v = view c.in-Some.reader.place in
    let stamp = sym (c.if-is.ensures refl) ∙ (c.stamp.ensures ∙ c.get.ensures) in
    let is = rw (← c.in-Some.ensures.value) at c.self.invariant in
    rw (← ap (λ s. s.read) c.self.view_is) (prefix_into c.self.inside.read.history v.seen x.history c.args.stamp.now.history is.seen_read sees.grew (ap (λ s. s.history) stamp))
