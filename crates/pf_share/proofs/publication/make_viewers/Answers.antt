use Rattle.std.proofs.Common.{◌≡◌, suc, ap, ◌∙◌, refl, ◌+◌, arith}
use Rattle.pf_share.proofs.publication.make_viewers.Goals as goal

pub loop-preserved : goal.loop-preserved
loop-preserved g c =
    let push = c.push_reserved.ensures in
    let is = c.loop.invariant in
    let one : c.loop.counter + 1 ≡ suc c.loop.counter = omega arith in record {
      made = push.items ∙ rw (is.made, c.new.ensures, one) refl;
      len = push.len ∙ ap (λ n. n + 1) is.len;
      room = rw push.capacity is.room;
      same = c.reader.ensures.same ∙ is.same;
    }
