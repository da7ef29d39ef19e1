use Rattle.std.proofs.Common.{refl}
use Rattle.pf_diff.specs.Changes.{changes_of}
use Rattle.pf_diff.proofs.changes.changes.Goals as goal

pub loop-key-init : goal.loop-key-init
unfolding changes_of
loop-key-init c =
    rw (
      c.new-changes.ensures.items,
      c.into_iter-key-iterator.ensures.into_iter_gives,
      c.keys-key-items.ensures.rest,
      c.in_ok-note.ensures,
      c.in_ok-both.ensures,
      c.in_ok-first.ensures,
      c.in_ok-second.ensures,
    ) refl
