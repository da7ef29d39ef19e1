use Rattle.std.proofs.Common.{◌≡◌, ap, ◌∙◌, replicate, arith}
use Rattle.pf_place.proofs.Index.{starts_at_end}
use Rattle.pf_place.proofs.pick_index.note_starts.Goals.{After-fill}
use Rattle.pf_place.proofs.pick_index.note_starts.Goals as goal

filled : (c : After-fill) → c.fill.new.self ≡ replicate 512 c.min-filed.result
filled c = c.fill.ensures.after (λ y e. e) ∙ ap (λ n. replicate n c.min-filed.result) c.told-starts

pub loop-k-init-whole : goal.loop-k-init-whole
loop-k-init-whole c = rw (filled c) (starts_at_end c.min-filed.result c.args.picks.now (omega (arith, c.min-filed.ensures)))
