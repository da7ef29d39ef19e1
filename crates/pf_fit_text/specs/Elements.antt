-- The elements of a fit's JSON lists: what was refused, denied and missed.
use Rattle.std.specs.Prelude.{ℕ, Option, None, Some, List, ◌++◌, codes}
use Rattle.pf_weight.specs.Refusals.{weight_fault_code}
use Rattle.pf_admit.specs.Refusals.{denial_code, denial_name}
use Rattle.pf_run.specs.declared.denied.Denied.{Denied}
use Rattle.pf_tally.specs.declared.miss.Miss.{Miss}
use Rattle.pf_scenario.specs.declared.fault.EditFault.{EditFault}
use Rattle.pf_scenario.specs.declared.fault.EditFault.TheVariants.{BadWeight}
use Rattle.pf_verdict.specs.Fault.{Fault}
use Rattle.pf_verdict.specs.Fault.TheVariants.{AtHorizon, BadEdit, WouldDeny}
use Rattle.pf_run_notes.specs.Grounds.{Grounds}
use Rattle.pf_run_notes.specs.Grounds.TheVariants.{OverCapacity, NotInside, TooEarly, Released}
use Rattle.pf_run_notes.specs.Refusals.{fault_code, fault_name}
use Rattle.pf_run_notes.specs.declared.place.Place.{Place}
use Rattle.pf_fit_text.specs.Json.{key, key_or_null}

-- the numbers on which a denial rests, each where it has it
abbrev pub asked_of : Grounds → Option ℕ
asked_of (OverCapacity asked free base cost) = Some asked
asked_of (NotInside task absence) = None
asked_of (TooEarly task sub slot ran from later horizon) = None
asked_of (Released task sub slot) = None

abbrev pub free_of : Grounds → Option ℕ
free_of (OverCapacity asked free base cost) = Some free
free_of (NotInside task absence) = None
free_of (TooEarly task sub slot ran from later horizon) = None
free_of (Released task sub slot) = None

abbrev pub from_of : Grounds → Option ℕ
from_of (OverCapacity asked free base cost) = None
from_of (NotInside task absence) = None
from_of (TooEarly task sub slot ran from later horizon) = from
from_of (Released task sub slot) = None

abbrev pub released_of : Grounds → Option ℕ
released_of (OverCapacity asked free base cost) = None
released_of (NotInside task absence) = None
released_of (TooEarly task sub slot ran from later horizon) = None
released_of (Released task sub slot) = Some slot

-- a name of the tables of reasons, after its key
abbrev pub reason_json : List ℕ → List ℕ
reason_json name = codes ",\"reason\":\"" ++ (name ++ codes "\"")

unfoldable pub denied_front : Denied → Option ℕ → Option ℕ → Option ℕ → List ℕ
denied_front denied asked free from =
    key_or_null (codes "{\"asked\":") asked ++ key (codes ",\"code\":") (denial_code denied.denial) ++ key (codes ",\"event\":") denied.id
    ++ key_or_null (codes ",\"free\":") free ++ key_or_null (codes ",\"from\":") from

unfoldable pub denied_end : Place → Denied → Option ℕ → ℕ → List ℕ
denied_end place denied released task =
    key (codes ",\"line\":") place.line ++ reason_json (denial_name denied.denial) ++ key (codes ",\"record\":") place.record
    ++ key_or_null (codes ",\"released\":") released ++ key (codes ",\"slot\":") denied.slot ++ key (codes ",\"task\":") task ++ codes "}"

-- a denied event of this task, with the place of the record that made it
abbrev pub denied_json : Place → Denied → Grounds → ℕ → List ℕ
denied_json place denied grounds task =
    denied_front denied (asked_of grounds) (free_of grounds) (from_of grounds) ++ denied_end place denied (released_of grounds) task

unfoldable pub missed_front : Place → Miss → ℕ → List ℕ
missed_front place miss event =
    key (codes "{\"deadline\":") miss.deadline ++ key (codes ",\"event\":") event ++ key (codes ",\"line\":") place.line
    ++ key_or_null (codes ",\"ran\":") miss.ran

unfoldable pub missed_end : Place → Miss → ℕ → List ℕ
missed_end place miss windows =
    key (codes ",\"record\":") place.record ++ key (codes ",\"sub\":") miss.sub ++ key (codes ",\"task\":") miss.task
    ++ key (codes ",\"windows\":") windows ++ codes "}"

-- the first window that a task missed, and how many it missed, with the event that is its join and the place of its record
abbrev pub missed_json : Place → ℕ → Miss → ℕ → List ℕ
missed_json place event miss windows = missed_front place miss event ++ missed_end place miss windows

-- the number of the denial that a strict change would have brought
abbrev pub denial_of_fault : Fault → Option ℕ
denial_of_fault (WouldDeny id denial) = Some (denial_code denial)
denial_of_fault (BadEdit fault) = None
denial_of_fault AtHorizon = None

-- the number of what is wrong with a weight
abbrev pub weight_of_edit : EditFault → Option ℕ
weight_of_edit (BadWeight fault) = Some (weight_fault_code fault)
weight_of_edit fault = None

abbrev pub weight_of_fault : Fault → Option ℕ
weight_of_fault (BadEdit fault) = weight_of_edit fault
weight_of_fault AtHorizon = None
weight_of_fault (WouldDeny id denial) = None

unfoldable pub refused_front : Place → ℕ → Option ℕ → Option ℕ → List ℕ
refused_front place code denial event =
    key (codes "{\"code\":") code ++ key_or_null (codes ",\"denial\":") denial ++ key_or_null (codes ",\"event\":") event
    ++ key (codes ",\"line\":") place.line

unfoldable pub refused_end : Place → List ℕ → Option ℕ → Option ℕ → List ℕ
refused_end place name steps weight =
    reason_json name ++ key (codes ",\"record\":") place.record ++ key_or_null (codes ",\"steps\":") steps
    ++ key_or_null (codes ",\"weight\":") weight ++ codes "}"

-- a refused record: the event that its fault names, where it names one, and how many steps were refused, where it is one of steps
abbrev pub refused_json : Place → Fault → Option ℕ → Option ℕ → List ℕ
refused_json place fault event steps =
    refused_front place (fault_code fault) (denial_of_fault fault) event ++ refused_end place (fault_name fault) steps (weight_of_fault fault)
