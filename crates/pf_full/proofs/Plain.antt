-- The object has no float.
use Rattle.std.proofs.Common.{◌≡◌, ◌∙◌, ℕ, ℤ, pos, negsuc, false, List, Option, None, Some, Result, Ok, Err, refl, ap}
use Rattle.std.specs.Prelude.{IfOk}
use Rattle.serde_json.specs.Data.{Data, number}
use Rattle.serde_json.specs.Find.{of_integer}
use Rattle.serde_json.specs.View.{view}
use Rattle.serde_json.specs.Written.{has_float}
use Rattle.serde_json.specs.declared.value.Value.{Value}
use Rattle.pf_scenario.specs.declared.event.Numbered.{Numbered}
use Rattle.pf_scenario.specs.Event.{slot_of}
use Rattle.pf_tally.specs.declared.extremes.Extremes.{Extremes}
use Rattle.pf_tally.specs.declared.figures.Figures.{Figures}
use Rattle.pf_full.specs.Full.{event_data, event_object, figures_data, greatest_data, kind_text, least_data, numbers_of, optional_data, signed_data}
use Rattle.pf_full.specs.declared.event_numbers.EventNumbers.{EventNumbers}

optional_plain : (o : Option ℕ) → has_float (optional_data o) ≡ false
optional_plain None = refl
optional_plain (Some n) = refl

signed_plain : (z : ℤ) → has_float (signed_data z) ≡ false
signed_plain (pos n) = refl
signed_plain (negsuc n) = refl

least_plain : (o : Option Extremes) → has_float (least_data o) ≡ false
least_plain None = refl
least_plain (Some e) = signed_plain e.least

greatest_plain : (o : Option Extremes) → has_float (greatest_data o) ≡ false
greatest_plain None = refl
greatest_plain (Some e) = signed_plain e.greatest

object_plain : (id slot : ℕ) (kind : List ℕ) (n : EventNumbers) → has_float (event_object id slot kind n) ≡ false
object_plain id slot kind n =
    rw (optional_plain n.by, optional_plain n.cost, optional_plain n.count, optional_plain n.early, optional_plain n.period, optional_plain n.task)

pub figures_plain : (f : Figures) → has_float (figures_data f) ≡ false
figures_plain f = rw (signed_plain f.lag.greatest, signed_plain f.lag.least, greatest_plain f.response, least_plain f.response)

pub event_plain : (x : Numbered) → has_float (event_data x) ≡ false
event_plain x = object_plain x.id (slot_of x.event) (kind_text x.event) (numbers_of x.event)

-- Use: what is shown of it.
pub shown_plain : {X E : Type 0} (show : X → Data) → ((x : X) → has_float (show x) ≡ false) → (r : Result Value E) (x : X) → IfOk r (λ v. view v ≡ show x)
    → IfOk r (λ v. has_float (view v) ≡ false)
shown_plain show plain (Err e) x h = tt
shown_plain show plain (Ok v) x h = ap has_float h ∙ plain x
