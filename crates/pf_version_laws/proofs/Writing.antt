-- Records of version 2 that were written are read as what they were written for.
use Rattle.std.proofs.Common.{◌≡◌, ◌∙◌, ◌^◌, ◌<◌, ◌≤◌, ℕ, true, false, Ok, Err, Some, List, ap, sym, arith, refl}
use Rattle.std.specs.Fmt.{decimal}
use Rattle.std.proofs.lemmas.Bool.{le-leb}
use Rattle.csv.specs.Writing.{read_back}
use Rattle.pf_scenario.specs.System.{wide_horizon}
use Rattle.pf_scenario.specs.declared.event.Event.{Event}
use Rattle.pf_scenario.specs.declared.event.Event.TheVariants.{Join, Leave, Delay, Limit}
use Rattle.pf_scenario.specs.declared.change.Change.TheVariants.{Insert, Alter, Strike}
use Rattle.pf_script.specs.Fields.{field, is_word}
use Rattle.pf_text.specs.Numbers.{number_of}
use Rattle.pf_script.specs.Parsing.{alter_at, change_at, delay_at, edit_at, event_at, fault_at, join_at, leave_at, limit_at, line_at, names_line, number_at, number_within, opening_at, record_at, settings_at, steps_at, strike_at}
use Rattle.pf_script.specs.declared.fault.Reason.TheVariants.{NoRecord}
use Rattle.pf_script.specs.declared.line.Line.{Line}
use Rattle.pf_script.specs.declared.line.Line.TheVariants.{Edit, Steps}
use Rattle.pf_script.specs.declared.record.Record.TheVariants.{Asks, Settings}
use Rattle.pf_script.specs.declared.record.ScriptSettings.{ScriptSettings}
use Rattle.pf_script.specs.declared.stage.Stage.TheVariants.{Headed, Opened}
use Rattle.pf_script.specs.declared.version.Version.TheVariants.{Second}
use Rattle.pf_plain_script.specs.Written.{bad_fields, event_fields, line_fields, settings_fields}
use Rattle.pf_version_laws.proofs.Numbers.{number_again}
use Rattle.pf_version_laws.proofs.Saying.{AreSettings, IsShortLine}

number_inside : (fields : List (List ℕ)) (place most n : ℕ) → field fields place ≡ decimal n → n < 10 ^ 15 → 1 ≤ n → n ≤ most
    → number_within fields place most ≡ Ok n
unfolding number_within number_at
number_inside fields place most n is small some few =
    let e : number_of (field fields place) ≡ Some n = ap number_of is ∙ number_again n small in
    rw (e, le-leb 1 n some, le-leb n most few) refl

line_again : (line : Line) → IsShortLine line → line_at Second (line_fields line) ≡ Ok line
unfolding line_at edit_at change_at event_at join_at leave_at delay_at limit_at strike_at alter_at steps_at number_at is_word
line_again (Edit (Insert (Join slot task cost period early)) false) s =
    rw (number_again slot s.0, number_again task s.1, number_again cost s.2, number_again period s.3, number_again early s.4) refl
line_again (Edit (Insert (Leave slot task)) false) s = rw (number_again slot s.0, number_again task s.1) refl
line_again (Edit (Insert (Delay slot task by)) false) s = rw (number_again slot s.0, number_again task s.1, number_again by s.2) refl
line_again (Edit (Insert (Limit slot count)) false) s = rw (number_again slot s.0, number_again count s.1) refl
line_again (Edit (Insert (Join slot task cost period early)) true) s =
    rw (number_again slot s.0, number_again task s.1, number_again cost s.2, number_again period s.3, number_again early s.4) refl
line_again (Edit (Insert (Leave slot task)) true) s = rw (number_again slot s.0, number_again task s.1) refl
line_again (Edit (Insert (Delay slot task by)) true) s = rw (number_again slot s.0, number_again task s.1, number_again by s.2) refl
line_again (Edit (Insert (Limit slot count)) true) s = rw (number_again slot s.0, number_again count s.1) refl
line_again (Edit (Alter id (Join slot task cost period early)) false) s =
    rw (number_again id s.number, number_again slot s.fields.0, number_again task s.fields.1, number_again cost s.fields.2, number_again period s.fields.3, number_again early s.fields.4) refl
line_again (Edit (Alter id (Leave slot task)) false) s = rw (number_again id s.number, number_again slot s.fields.0, number_again task s.fields.1) refl
line_again (Edit (Alter id (Delay slot task by)) false) s =
    rw (number_again id s.number, number_again slot s.fields.0, number_again task s.fields.1, number_again by s.fields.2) refl
line_again (Edit (Alter id (Limit slot count)) false) s = rw (number_again id s.number, number_again slot s.fields.0, number_again count s.fields.1) refl
line_again (Edit (Alter id (Join slot task cost period early)) true) s =
    rw (number_again id s.number, number_again slot s.fields.0, number_again task s.fields.1, number_again cost s.fields.2, number_again period s.fields.3, number_again early s.fields.4) refl
line_again (Edit (Alter id (Leave slot task)) true) s = rw (number_again id s.number, number_again slot s.fields.0, number_again task s.fields.1) refl
line_again (Edit (Alter id (Delay slot task by)) true) s =
    rw (number_again id s.number, number_again slot s.fields.0, number_again task s.fields.1, number_again by s.fields.2) refl
line_again (Edit (Alter id (Limit slot count)) true) s = rw (number_again id s.number, number_again slot s.fields.0, number_again count s.fields.1) refl
line_again (Edit (Strike id) false) s = rw (number_again id s) refl
line_again (Edit (Strike id) true) s = rw (number_again id s) refl
line_again (Steps count) s = rw (number_inside (line_fields (Steps count)) 1 wide_horizon count refl (omega (arith, s.1)) s.0 s.1) refl

-- Use: a line is read as it was written, ..
pub line_read : (line : Line) → IsShortLine line → record_at (Opened Second) (line_fields line) ≡ Ok (Asks line)
unfolding record_at
line_read line short = rw (line_again line short) refl

-- .. and so are settings.
pub settings_read : (s : ScriptSettings) → AreSettings s → record_at Headed (settings_fields s) ≡ Ok (Settings s)
unfolding record_at opening_at settings_at is_word
settings_read s are =
    let fields = settings_fields s in
    rw (
      number_inside fields 1 64 s.settings.processors refl (omega (arith, are.processors.1)) are.processors.0 are.processors.1,
      number_inside fields 2 1073741824 s.settings.base refl (omega (arith, are.base.1)) are.base.0 are.base.1,
      number_inside fields 3 17592186044416 s.settings.cap refl (omega (arith, are.cap.1)) are.cap.0 are.cap.1,
      number_inside fields 4 4096 s.every refl (omega (arith, are.every.1)) are.every.0 are.every.1,
    )
    (λ k. Ok (Settings (record {
      version = sym are.version k;
      settings = record { processors = s.settings.processors; base = s.settings.base; cap = s.settings.cap; horizon = sym are.horizon k };
      every = s.every;
    })))

-- Use: what stands for a bad record is none, before the settings ..
pub bad_before : record_at Headed bad_fields ≡ Err (fault_at 0 (NoRecord Second))
unfolding record_at opening_at names_line is_word
bad_before = refl

-- .. and after them.
pub bad_behind : record_at (Opened Second) bad_fields ≡ Err (fault_at 0 (NoRecord Second))
unfolding record_at line_at edit_at change_at event_at is_word
bad_behind = refl

event_kept : (event : Event) → read_back (event_fields event) ≡ event_fields event
event_kept (Join slot task cost period early) = refl
event_kept (Leave slot task) = refl
event_kept (Delay slot task by) = refl
event_kept (Limit slot count) = refl

-- Use: the fields of a line are kept.
pub line_kept : (line : Line) → read_back (line_fields line) ≡ line_fields line
line_kept (Edit change true) = refl
line_kept (Edit (Insert event) false) = event_kept event
line_kept (Edit (Alter id event) false) = refl
line_kept (Edit (Strike id) false) = refl
line_kept (Steps count) = refl
