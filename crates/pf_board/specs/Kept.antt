-- The rule of the board's table: the words and the views show one state that the shared machine reaches, but for what is published.
use Rattle.std.specs.Prelude.{ℕ, slice_index, ◌≡◌, ◌+◌, ◌<◌, ◌≤◌, ◌==◌, if◌then◌else◌, nat_lt, Bool, true, false, List, [], ◌∷◌, length}
use mathlib.Core.List.{IsPrefix}
use mathlib.Core.Option.{some}
use lib.ListN.{get_elem?}
use Rattle.pf_board.specs.declared.quantum.Quantum.{Quantum}
use Rattle.pf_board.specs.declared.hand.Hand.{Hand}
use Rattle.pf_board.specs.declared.view.View.{View}
use Rattle.pf_board.specs.declared.charter.Charter.{Charter}
use Rattle.pf_board.specs.Quanta.{total, weigh, one_if, issues, last_issues, IsOnceEach}
use Rattle.pf_board.specs.Words.{on_words, on_each_word}
use Rattle.pf_board.specs.Machine.{Machine, IsReached}
use Rattle.pf_board.specs.Passes.{calls_by, IsIn}

-- 1 for the numbers below n, and else 0
abbrev pub one_below : ℕ → ℕ → ℕ
one_below n m = one_if (nat_lt m n)

-- these words are empty
abbrev pub AreEmpty : List ℕ → List ℕ → Type 0
AreEmpty cells empty = (p : ℕ) → IsIn empty p → slice_index cells p ≡ 0

module _ {E T : Type 0} where
  -- how many hands of this number a seat has: its own, and those that it carries
  abbrev pub hands_of : ℕ → View E T → ℕ
  hands_of m v = (if v.named then one_if (v.me == m) else 0) + total (λ g. one_if (g.me == m)) v.guests

  -- how many hands it has in all
  abbrev pub hand_count : View E T → ℕ
  hand_count v = (if v.named then 1 else 0) + total (λ g. 1) v.guests

  -- the quanta that they took
  abbrev pub held : (Quantum → ℕ) → View E T → ℕ
  held h v = weigh h v.taken + total (λ g. weigh h g.taken) v.guests

-- one state of the board: its history, the processors' words, what the pass of each number took, the quanta that were issued and those that are left to issue, the seat with the turn, and the number of passes made
pub record Core (E : Type 0) : Type 0 where
  pub log : List (ℕ × E)
  pub cells : List ℕ
  pub taken : List (List Quantum)
  pub issued : List Quantum
  pub left : List Quantum
  pub turn : ℕ
  pub next : ℕ

module _ {E : Type 0} where
  -- it as a state of the shared machine, where nothing is published that isn't entered
  abbrev pub machine_of : Core E → Machine E
  machine_of c = record { history = c.log; published = c.log; words = on_each_word 0 c.cells; taken = c.taken }

module _ {E T : Type 0} where
  -- the seat with the turn knows the state
  pub record KnowsAll (c : Core E) (seat : ℕ) (v : View E T) : Type 0 where
    pub here : c.turn ≡ seat
    pub whole : v.whole ≡ c.log
    pub next : v.next ≡ c.next
    pub empty : AreEmpty c.cells v.empty
    pub issued : v.issued ≡ c.issued
    pub left : v.left ≡ c.left

  -- what the rule says of one seat: its lists begin the history, and a pass knows its own entries and what it took
  pub record Fits (terms : T) (c : Core E) (seat : ℕ) (v : View E T) : Type 0 where
    pub of_terms : (t : T) → v.terms ≡ t ∷ [] → t ≡ terms
    pub seen : IsPrefix v.seen c.log
    pub mine : v.named ≡ true → v.mine ≡ calls_by v.me c.log
    pub took : v.named ≡ true → get_elem? c.taken v.me ≡ some v.taken
    pub idle : v.named ≡ false → v.taken ≡ []
    pub guests : (k : ℕ) (g : Hand E) → get_elem? v.guests k ≡ some g → IsPrefix g.seen c.log × (g.mine ≡ calls_by g.me c.log) × (get_elem? c.taken g.me ≡ some g.taken)
    pub whole : v.turn ≡ true → KnowsAll c seat v

  -- each number below `next` has one hand
  pub record IsOneEach (next : ℕ) (views : List (View E T)) : Type 0 where
    pub each : (m : ℕ) → total (hands_of m) views ≡ one_below next m
    pub all : total hand_count views ≡ next

  module _ (quanta : E → List Quantum) (steps : E → Bool) where
    -- what the history issues is issued or left, what is issued was taken or lies on a word, each quantum once, and what wasn't taken is of the last step
    pub record Balances (c : Core E) (views : List (View E T)) : Type 0 where
      pub issues_are : (h : Quantum → ℕ) → weigh h (issues quanta c.log) ≡ weigh h c.issued + weigh h c.left
      pub issued_are : (h : Quantum → ℕ) → weigh h c.issued ≡ total (held h) views + weigh h (on_words 0 c.cells)
      pub once : IsOnceEach c.issued
      pub last : (h : Quantum → ℕ) → weigh h (on_words 0 c.cells) + weigh h c.left ≤ weigh h (last_issues quanta steps c.log)

    pub record Kept (legal : T → List (ℕ × E) → Type 0) (charter : Charter T) (words : List ℕ) (views : List (View E T)) : Type 0 where
      pub core : Core E
      pub words_are : words ≡ length core.log ∷ core.cells
      pub wide : length core.cells ≡ charter.processors
      pub legal_log : legal charter.terms.value core.log
      pub fits : (seat : ℕ) (v : View E T) → get_elem? views seat ≡ some v → Fits charter.terms.value core seat v
      pub hands : IsOneEach core.next views
      pub room : core.next ≤ charter.passes
      pub unmade : (m : ℕ) → core.next ≤ m → m < charter.passes → get_elem? core.taken m ≡ some []
      pub reached : IsReached quanta steps (legal charter.terms.value) charter.processors charter.passes (machine_of core) core.issued
      pub balances : Balances core views
