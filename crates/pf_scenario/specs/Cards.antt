-- The cards of a table of events by number.
use Rattle.std.specs.Prelude.{◌≡◌, ◌≢◌, ℕ, ◌<◌, ◌≤◌, ◌^◌, true, Option, List, length, filter_map, slice_index_or, All, AllPairs, MatchOption}
use Rattle.std.specs.Option.{option_map}
use Rattle.pf_scenario.specs.Scenario.{with_number}
use Rattle.pf_scenario.specs.Packed.{has_packed, unpacked}
use Rattle.pf_scenario.specs.declared.card.Card.{Card}
use Rattle.pf_scenario.specs.declared.event.Event.{Event}
use Rattle.pf_scenario.specs.declared.event.Numbered.{Numbered}

-- the event of a card, until it is struck
abbrev pub event_on : Card → Option Event
event_on card = option_map unpacked card.event

-- the same with its number
abbrev pub numbered_on : Card → Option Numbered
numbered_on card = option_map (λ event. with_number card.id event) (event_on card)

-- the events of the cards that are not struck
abbrev pub listed : List Card → List Numbered
listed = filter_map numbered_on

-- the numbers of the cards rise
abbrev pub AreRising : List Card → Type 0
AreRising = AllPairs (λ x y. x.id < y.id)

-- the card of this number is at this place
pub record IsCardAt (cards : List Card) (id at : ℕ) : Type 0 where
  pub within : at < length cards
  pub number : (d : Card) → (slice_index_or cards at d).id ≡ id

-- where the card of this number is, if there is one
abbrev pub IsPlaceOf : List Card → ℕ → Option ℕ → Type 0
IsPlaceOf cards id place = MatchOption place (All (λ card. card.id ≢ id) cards) (λ at. IsCardAt cards id at)

-- the cards before this place are below the number
abbrev pub AreBelow : List Card → ℕ → ℕ → Type 0
AreBelow cards id at = (k : ℕ) (d : Card) → k < at → k < length cards → (slice_index_or cards k d).id < id

-- those from it on are not
abbrev pub AreBehind : List Card → ℕ → ℕ → Type 0
AreBehind cards id at = (k : ℕ) (d : Card) → at ≤ k → k < length cards → id ≤ (slice_index_or cards k d).id

-- this place is where the cards cease to be below the number
pub record IsCut (cards : List Card) (id at : ℕ) : Type 0 where
  pub below : AreBelow cards id at
  pub behind : AreBehind cards id at

-- cards in rising order, of which so many are not struck
pub record IsTable (cards : List Card) (held : ℕ) : Type 0 where
  pub rising : AreRising cards
  pub counted : held ≡ length (listed cards)

-- a card has room for the event and its number
pub record IsSmall (x : Numbered) : Type 0 where
  pub number : x.id < 2 ^ 32
  pub event : has_packed x.event ≡ true
