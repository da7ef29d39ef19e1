-- A step's quanta before they are issued.
use Rattle.std.specs.Prelude.{ℕ, ◌≡◌, ◌<◌, Option, List, length, All, ⊤}
use Rattle.pf_order.specs.declared.pick.Pick.{Pick}
use Rattle.pf_scenario.specs.System.{System}
use Rattle.pf_desk.specs.declared.reply.Reply.{Reply}
use Rattle.pf_desk.specs.declared.reply.Reply.TheVariants.{Edited, Stepped, Refused}
use Rattle.pf_desk.specs.declared.entry.Entry.{Entry}
use Rattle.pf_board.specs.declared.quantum.Quantum.{Quantum}
use Rattle.pf_board.specs.Quanta.{times, issues}
use Rattle.pf_board.specs.Passes.{Keeping, IsIn}
use Rattle.pf_board.specs.Words.{FitsWord}
use Rattle.pf_desk_board.specs.Histories.{quanta_from, quanta_of}

-- the quanta of the slot's row are left to issue: each fits its processor's word, which is empty, and the history issues
-- no other quantum of the slot
pub record AwaitsIssue (m : ℕ) (keeper : Keeping Entry System) (slot : ℕ) (row : List (Option Pick)) : Type 0 where
  pub places : length row ≡ m
  pub left : keeper.left ≡ quanta_from slot 0 row
  pub fit : All FitsWord (quanta_from slot 0 row)
  pub fresh : (q : Quantum) → q.slot ≡ slot → times q (issues quanta_of keeper.seen) ≡ times q (quanta_from slot 0 row)
  pub empty : (p : ℕ) → p < m → IsIn keeper.empty p

-- where the reply took a slot
abbrev pub AwaitsReply : ℕ → Keeping Entry System → Reply → Type 0
AwaitsReply m keeper (Edited id) = ⊤
AwaitsReply m keeper (Stepped slot row) = AwaitsIssue m keeper slot row
AwaitsReply m keeper (Refused fault) = ⊤
