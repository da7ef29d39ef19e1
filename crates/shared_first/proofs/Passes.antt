-- What passes took, one after another, and what a board of five of them closes with.
use Rattle.std.proofs.Common.{◌≡◌, ℕ, zero, suc, List, [], ◌∷◌, ◌++◌, length, refl, subst, ap}
use Rattle.std.specs.Prelude.{All}
use Rattle.std.proofs.lemmas.List.Elements.{All-nil, All-push}
use Rattle.std.proofs.lemmas.List.{append-nil}
use Rattle.atomic_table.specs.Seated.{TableId}
use Rattle.pf_scenario.specs.System.{System}
use Rattle.pf_desk.specs.declared.entry.Entry.{Entry}
use Rattle.pf_board.specs.declared.quantum.Quantum.{Quantum}
use Rattle.pf_board.specs.Passes.{Boarding, Passing, all_taken, new_pass, new_passes}
use Rattle.pf_board.specs.Quanta.{issues, HasSame, IsOnceEach}
use Rattle.pf_share.specs.declared.closed.Closed.{Closed}
use Rattle.pf_share.specs.Ended.{EndsDesk}
use Rattle.pf_share.specs.Histories.{numbered, quanta_of}
use Rattle.pf_share.specs.Opening.{new_viewers}
use Rattle.pf_share.specs.Reads.{Viewing, new_viewer}
use Rattle.pf_share.specs.Stories.{Origin}
use Rattle.shared_first.specs.Handed.{AreHandedOut, Took}

-- new passes took nothing
pub new_took : (board : TableId) (terms : System) (n : ℕ) → All (Took board []) (new_passes {E = Entry} board terms n)
new_took board terms zero = All-nil (Took board [])
new_took board terms (suc n) =
    All-push (Took board []) (new_passes {E = Entry} board terms n) (new_pass {E = Entry} board terms n) (new_took board terms n) (refl, refl)

-- new viewers are of their desk
pub new_from : (origin : Origin) (n : ℕ) → All (λ (v : Viewing). v.origin ≡ origin) (new_viewers origin n)
new_from origin zero = All-nil (λ (v : Viewing). v.origin ≡ origin)
new_from origin (suc n) =
    All-push (λ (v : Viewing). v.origin ≡ origin) (new_viewers origin n) (new_viewer origin) (new_from origin n) refl

-- where none but the first two took any, these quanta are all
pub five_took : (board : TableId) (f s : List Quantum) (a b p q r : Passing Entry System) → Took board f a → Took board s b → Took board [] p → Took board [] q → Took board [] r
    → all_taken (a ∷ b ∷ p ∷ q ∷ r ∷ []) ≡ f ++ s
five_took board f s a b p q r ta tb tp tq tr = rw (ta.1, tb.1, tp.1, tq.1, tr.1) (ap (λ (w : List Quantum). f ++ w) (append-nil s))

-- where all passes are handed in, and took these quanta, no other was issued
pub are_handed_out : (board : Boarding System) (ps : List (Passing Entry System)) (c : Closed) (f s : List Quantum) → EndsDesk board ps c → length ps ≡ board.passes → all_taken ps ≡ f ++ s
    → AreHandedOut c.desk.history c.left.items f s
are_handed_out board ps c f s ends len took =
    let left = c.left.items in record {
      all = subst (λ (w : List Quantum). HasSame (issues quanta_of (numbered c.desk.history)) (left ++ w)) took (ends.closes.all len);
      once = subst (λ (w : List Quantum). IsOnceEach (left ++ w)) took ends.closes.once;
    }
