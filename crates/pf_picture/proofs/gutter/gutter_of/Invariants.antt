use Rattle.std.proofs.Common.{◌≡◌, ◌≤◌, ◌+◌, ◌*◌, ◌^◌, drop}
use Rattle.std.specs.Prelude.{max}
use Rattle.std.specs.List.{fold}
use Rattle.pf_picture.specs.Picture.{characters_in, gutter_of}
use Rattle.pf_picture.proofs.gutter.gutter_of.Given as goal

-- the words so far and those that are left are all
abbrev pub invariant-loop-drawing : goal.invariant-loop-drawing
invariant-loop-drawing l = record {
  value : fold (λ most drawing. max most (16 + 6 * characters_in l.style drawing)) l.most (drop l.drawing-index l.drawings) ≡ gutter_of l.style l.drawings;
  some : 96 ≤ l.most;
  short : l.most ≤ 2 ^ 80;
}
