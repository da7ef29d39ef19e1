-- What a call does at a caller's handle.
use Rattle.std.specs.Prelude.{ℕ, ◌≡◌, Option, Some}
use Rattle.pf_shared_desk.specs.Calling.{Calling}
use Rattle.pf_c_forms.specs.declared.status.TheConstants.{NOT_OPEN}
use Rattle.pf_shared_c_api.specs.declared.content.Content.{Content}
use Rattle.pf_shared_c_api.specs.declared.content.Content.TheVariants.{Caller}

-- this of the caller before and after, where the handle has one; else nothing, and the status tells it
abbrev pub ChangesCaller : Option Content → ℕ → Option Content → (Calling → Calling → Type 0) → Type 0
ChangesCaller (Some (Caller before)) status (Some (Caller after)) of_callers = of_callers before after
ChangesCaller before status after of_callers = (status ≡ NOT_OPEN) × (after ≡ before)
