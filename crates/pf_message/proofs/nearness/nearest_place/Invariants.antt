use Rattle.std.proofs.Common.{◌≡◌, ◌<◌, drop, length, map}
use Rattle.pf_message.specs.Nearness.{distance, name_at, nearest_name}
use Rattle.pf_message.proofs.nearness.nearest_place.Given as goal

-- the best so far is as far away as counted, and the nearest of it and of those that are left is that of all
abbrev pub invariant-loop-place : goal.invariant-loop-place
invariant-loop-place l = record {
  within : l.best < length l.names;
  edits : l.least ≡ distance l.word (name_at l.names l.best);
  nearest : nearest_name l.word (name_at l.names l.best) (map (λ n. n.now) (drop l.place l.names))
      ≡ nearest_name l.word (name_at l.names 0) (map (λ n. n.now) (drop 1 l.names));
}
