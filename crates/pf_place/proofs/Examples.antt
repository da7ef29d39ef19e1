-- Rows worked out by hand.
use Rattle.std.proofs.Common.{◌≡◌, ℕ, [], ◌∷◌, Some, None, refl}
use Rattle.pf_order.specs.declared.pick.Pick.{Pick}
use Rattle.pf_place.specs.Occupancy.{row_of}

abbrev pick : ℕ → Pick
pick task = record { task = task; sub = 1 }

-- of 3 processors, 7 keeps its place, and 9 and 2 take the others in their order
keeps_in_the_middle :
    row_of 3 3 (Some (pick 5) ∷ Some (pick 7) ∷ None ∷ []) (pick 9 ∷ pick 7 ∷ pick 2 ∷ [])
    ≡ Some (pick 9) ∷ Some (pick 7) ∷ Some (pick 2) ∷ []
unfolding row_of
keeps_in_the_middle = refl

-- a lone task keeps its place, and the lower one is idle
lower_place_idle : row_of 2 2 (Some (pick 1) ∷ Some (pick 2) ∷ []) (pick 2 ∷ []) ≡ None ∷ Some (pick 2) ∷ []
unfolding row_of
lower_place_idle = refl

-- where only place 0 is in use, the task of place 1 is an other pick
leaves_a_place_out_of_use : row_of 2 1 (Some (pick 1) ∷ Some (pick 2) ∷ []) (pick 2 ∷ []) ≡ Some (pick 2) ∷ None ∷ []
unfolding row_of
leaves_a_place_out_of_use = refl

-- of 4 processors 3 are in use: 1 keeps its place, 4 takes the lower free one, and 3, whose place is out of use, the next
moves_down_in_turn :
    row_of 4 3 (Some (pick 6) ∷ Some (pick 1) ∷ None ∷ Some (pick 3) ∷ []) (pick 4 ∷ pick 1 ∷ pick 3 ∷ [])
    ≡ Some (pick 4) ∷ Some (pick 1) ∷ Some (pick 3) ∷ None ∷ []
unfolding row_of
moves_down_in_turn = refl
