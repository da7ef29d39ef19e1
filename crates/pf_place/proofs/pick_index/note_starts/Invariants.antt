use Rattle.std.proofs.Common.{◌≡◌, ℕ, ◌≤◌, ◌<◌, ◌%◌, length, get_or}
use Rattle.std.specs.List.{All}
use Rattle.pf_order.specs.declared.pick.Pick.{Pick}
use Rattle.pf_place.proofs.pick_index.note_starts.Given as goal

abbrev pub invariant-loop-k : goal.invariant-loop-k
invariant-loop-k l =
    (length l.starts ≡ 512)
    × (All (λ start. start ≤ length l.picks) l.starts)
    × ((k : ℕ) (d : Pick) → l.k ≤ k → k < length l.picks → get_or l.starts ((get_or l.picks k d).task % 512) 0 ≤ k)
