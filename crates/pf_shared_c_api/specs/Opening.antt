-- What the opening of a shared desk, of a caller and of a reader does.
use Rattle.std.specs.Prelude.{ℕ, ◌≡◌, ◌⊎◌, Option, None, Some, [], ◌∷◌}
use Rattle.pf_scenario.specs.System.{System, IsInLimits, wide_horizon}
use Rattle.pf_shared_desk.specs.Opening.{IsBadOpening, AreNewCallers, new_readers}
use Rattle.pf_shared_desk.specs.declared.opened.Opened.{Opened}
use Rattle.pf_c_forms.specs.declared.status.TheConstants.{OK, BAD_SETTINGS, NOT_OPEN, ALREADY_OPEN, NO_MEMORY, NO_PLACE}
use Rattle.pf_shared_c_api.specs.declared.content.Content.{Content}
use Rattle.pf_shared_c_api.specs.declared.content.Content.TheVariants.{Desk, Caller, Reader}

-- numbers of which no shared desk can be opened
abbrev pub AreBadNumbers : (m h cap every callers readers : ℕ) → Type 0
AreBadNumbers m h cap every callers readers = (IsInLimits m h cap → ⊥) ⊎ IsBadOpening every callers readers

-- all callers and readers of a new desk with these settings
pub record IsNewDesk (settings : System) (callers readers : ℕ) (opened : Opened) : Type 0 where
  pub new_callers : AreNewCallers settings callers opened.callers.items
  pub readers_are : opened.readers.items ≡ new_readers settings readers

-- a desk of these numbers, which are within their limits
abbrev pub IsOpened : (m h cap every callers readers : ℕ) → Content → Type 0
IsOpened m h cap every callers readers (Desk opened) =
    (AreBadNumbers m h cap every callers readers → ⊥)
    × IsNewDesk (record { processors = m; base = h; cap = cap; horizon = wide_horizon }) callers readers opened
IsOpened m h cap every callers readers content = ⊥

-- no desk was opened, and the status tells why
abbrev pub OpensNone : (m h cap every callers readers status : ℕ) → Type 0
OpensNone m h cap every callers readers status =
    ((status ≡ NO_MEMORY) × (AreBadNumbers m h cap every callers readers → ⊥))
    ⊎ ((status ≡ BAD_SETTINGS) × AreBadNumbers m h cap every callers readers)

-- a handle that is closed gets such a desk, or none, and the status tells why; an open one is as before
abbrev pub Opens : (m h cap every callers readers : ℕ) → Option Content → ℕ → Option Content → Type 0
Opens m h cap every callers readers (Some content) status after = (status ≡ ALREADY_OPEN) × (after ≡ Some content)
Opens m h cap every callers readers None status None = OpensNone m h cap every callers readers status
Opens m h cap every callers readers None status (Some content) = (status ≡ OK) × IsOpened m h cap every callers readers content

-- the first caller that nobody had is there
abbrev pub NextCaller : Opened → Opened → Content → Type 0
NextCaller before after (Caller caller) =
    (before.callers.items ≡ caller ∷ after.callers.items) × (after.readers ≡ before.readers)
NextCaller before after content = ⊥

-- nothing was opened: each caller was, or memory was refused
abbrev pub LacksCaller : Opened → Opened → ℕ → Type 0
LacksCaller before after status =
    (((status ≡ NO_PLACE) × (before.callers.items ≡ [])) ⊎ (status ≡ NO_MEMORY)) × (after ≡ before)

-- the first reader that nobody had is there
abbrev pub NextReader : Opened → Opened → Content → Type 0
NextReader before after (Reader reader) =
    (before.readers.items ≡ reader ∷ after.readers.items) × (after.callers ≡ before.callers)
NextReader before after content = ⊥

-- nothing was opened: each reader was, or memory was refused
abbrev pub LacksReader : Opened → Opened → ℕ → Type 0
LacksReader before after status =
    (((status ≡ NO_PLACE) × (before.readers.items ≡ [])) ⊎ (status ≡ NO_MEMORY)) × (after ≡ before)

-- what the opening of a place of a desk does at its handle: an open one is as before, a closed one has the next, or is as
-- before where there is none
abbrev OpensPlace : (Opened → Opened → Content → Type 0) → (Opened → Opened → ℕ → Type 0) → Opened → Opened → Option Content → Option Content → ℕ → Type 0
OpensPlace next lacks before after (Some content) place status = (status ≡ ALREADY_OPEN) × (place ≡ Some content) × (after ≡ before)
OpensPlace next lacks before after None (Some content) status = (status ≡ OK) × next before after content
OpensPlace next lacks before after None None status = lacks before after status

-- the same at the handle of the desk: where it has none, both are as before
abbrev OpensPlaceOf : (Opened → Opened → Content → Type 0) → (Opened → Opened → ℕ → Type 0) → Option Content → Option Content → Option Content → Option Content → ℕ → Type 0
OpensPlaceOf next lacks (Some (Desk before)) (Some (Desk after)) there place status = OpensPlace next lacks before after there place status
OpensPlaceOf next lacks before after there place status = (status ≡ NOT_OPEN) × (after ≡ before) × (place ≡ there)

abbrev pub OpensCaller : Option Content → Option Content → Option Content → Option Content → ℕ → Type 0
OpensCaller = OpensPlaceOf NextCaller LacksCaller

abbrev pub OpensReader : Option Content → Option Content → Option Content → Option Content → ℕ → Type 0
OpensReader = OpensPlaceOf NextReader LacksReader
