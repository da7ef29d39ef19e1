-- What records of a plan say, computed from the definitions.
use Rattle.std.proofs.Common.{◌≡◌, [], ◌∷◌, Some, None, Ok, Err, true, false, refl, codes}
use Rattle.pf_vocabulary.specs.Names.Slots.{unit_named}
use Rattle.pf_vocabulary.specs.Names.Text.{is_text}
use Rattle.pf_vocabulary.specs.declared.names.unit.Unit.TheVariants.{Microsecond}
use Rattle.pf_scenario.specs.declared.change.Change.TheVariants.{Insert, Strike}
use Rattle.pf_scenario.specs.declared.event.Event.TheVariants.{Join, Leave}
use Rattle.pf_script.specs.Fields.{is_word}
use Rattle.pf_text.specs.Numbers.{number_of}
use Rattle.pf_script.specs.declared.line.Line.TheVariants.{Edit}
use Rattle.pf_script.specs.declared.plan.fault.Reason.TheVariants.{HasName, JoinFields, LabelUnknown, LateSlot, NoCap, NoEvent, NoSettings}
use Rattle.pf_script.specs.declared.plan.said.Said.TheVariants.{Asks, Name, Slot}
use Rattle.pf_script.specs.declared.plan.state.Progress.{Progress}
use Rattle.pf_script.specs.Plan.Parsing.{cap_at, early_at, edit_at, event_at, fault_at, first_labelled_at, free_name_at, given_label_at, id_at, join_at, label_at, labelled_again_at, labelled_at, leave_at, name_at, nameless_at, names_record, number_or, number_within, opening_at, record_at, said_at, settings_at, slot_at, strike_at, task_at}
use Rattle.pf_script.specs.Plan.Progress.{at_heading, progress_after}

-- task 1 is the camera, and the event with the label `in` was given number 4
abbrev rig : Progress
rig = record {
  opened = true;
  begun = true;
  slot = None;
  names = record { task = 1; name = codes "camera" } ∷ [];
  labels = record { name = codes "in"; number = 4 } ∷ [];
}

-- EARLY may be left out, and a task told by its name
pub a-join : said_at rig (codes "join" ∷ codes "0" ∷ codes "camera" ∷ codes "2" ∷ codes "3" ∷ []) ≡ Ok (Asks (Edit (Insert (Join 0 1 2 3 0)) false) None)
unfolding record_at edit_at event_at join_at task_at early_at number_or number_of is_word
a-join = refl

-- a label stands for the number that its event was given
pub a-strike : said_at rig (codes "strike" ∷ codes "in" ∷ []) ≡ Ok (Asks (Edit (Strike 4) false) None)
unfolding record_at edit_at strike_at id_at is_word
a-strike = refl

pub an-unknown-label : said_at rig (codes "strict" ∷ codes "strike" ∷ codes "out" ∷ []) ≡ Err (fault_at 2 LabelUnknown)
unfolding record_at edit_at strike_at id_at is_word
an-unknown-label = refl

-- a label is noted with its event
pub a-labelled-leave : said_at rig (codes "label" ∷ codes "out" ∷ codes "leave" ∷ codes "6" ∷ codes "camera" ∷ [])
    ≡ Ok (Asks (Edit (Insert (Leave 6 1)) false) (Some (codes "out")))
unfolding record_at edit_at labelled_at first_labelled_at label_at event_at leave_at task_at number_or number_of is_word is_text
a-labelled-leave = refl

-- with `again` a label goes on to another event
pub a-label-again : said_at rig (codes "label" ∷ codes "in" ∷ codes "again" ∷ codes "leave" ∷ codes "6" ∷ codes "camera" ∷ [])
    ≡ Ok (Asks (Edit (Insert (Leave 6 1)) false) (Some (codes "in")))
unfolding record_at edit_at labelled_at labelled_again_at given_label_at event_at leave_at task_at number_or number_of is_word is_text
a-label-again = refl

pub an-unknown-label-again : said_at rig (codes "label" ∷ codes "out" ∷ codes "again" ∷ codes "leave" ∷ []) ≡ Err (fault_at 1 LabelUnknown)
unfolding record_at edit_at labelled_at labelled_again_at given_label_at is_word is_text
an-unknown-label-again = refl

pub an-event-expected-again : said_at rig (codes "label" ∷ codes "in" ∷ codes "again" ∷ codes "again" ∷ []) ≡ Err (fault_at 3 NoEvent)
unfolding record_at edit_at labelled_at labelled_again_at given_label_at event_at is_word is_text
an-event-expected-again = refl

-- the label means the new event, but where its insert was refused
pub a-label-goes-on : (progress_after rig (Asks (Edit (Insert (Leave 6 1)) false) (Some (codes "in"))) 7).labels ≡ record { name = codes "in"; number = 7 } ∷ []
a-label-goes-on = refl

pub a-label-stays : (progress_after rig (Asks (Edit (Insert (Leave 6 1)) false) (Some (codes "in"))) 0).labels ≡ record { name = codes "in"; number = 4 } ∷ []
a-label-stays = refl

pub a-labelled-strike : said_at rig (codes "label" ∷ codes "x" ∷ codes "strike" ∷ codes "1" ∷ []) ≡ Err (fault_at 2 NoEvent)
unfolding record_at edit_at labelled_at first_labelled_at label_at event_at is_word is_text
a-labelled-strike = refl

-- the first field that is missing or too much
pub a-short-join : said_at rig (codes "label" ∷ codes "x" ∷ codes "join" ∷ codes "1" ∷ []) ≡ Err (fault_at 4 (JoinFields 7))
unfolding record_at edit_at labelled_at first_labelled_at label_at event_at join_at is_word is_text
a-short-join = refl

pub a-name : said_at rig (codes "name" ∷ codes "2" ∷ codes "lidar" ∷ []) ≡ Ok (Name 2 (codes "lidar"))
unfolding record_at name_at nameless_at free_name_at number_within number_or number_of is_word is_text
a-name = refl

pub a-second-name : said_at rig (codes "name" ∷ codes "1" ∷ codes "9x" ∷ []) ≡ Err (fault_at 1 (HasName 1))
unfolding record_at name_at nameless_at number_within number_or number_of is_word
a-second-name = refl

pub a-late-slot : said_at rig (codes "slot" ∷ []) ≡ Err (fault_at 0 LateSlot)
unfolding record_at slot_at is_word
a-late-slot = refl

pub a-slot : said_at (record at_heading { opened = true }) (codes "slot" ∷ codes "500" ∷ codes "us" ∷ [])
    ≡ Ok (Slot (record { length = 500; unit = Microsecond }))
unfolding record_at slot_at number_within number_or number_of is_word unit_named
a-slot = refl

pub before-the-settings : said_at at_heading (codes "name" ∷ []) ≡ Err (fault_at 0 NoSettings)
unfolding opening_at names_record is_word
before-the-settings = refl

pub a-bad-cap : said_at at_heading (codes "settings" ∷ codes "2" ∷ codes "6" ∷ codes "x" ∷ []) ≡ Err (fault_at 3 NoCap)
unfolding opening_at settings_at cap_at number_within number_or number_of is_word
a-bad-cap = refl
