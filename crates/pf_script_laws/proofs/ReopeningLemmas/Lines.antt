-- The records of a script, read as lines.
use Rattle.std.proofs.Common.{◌≡◌, ◌^◌, ◌<◌, ◌≤◌, ◌&&◌, ℕ, true, false, nat_le, [], ◌∷◌, codes, refl, arith}
use Rattle.std.specs.Prelude.{⊤, Ok}
use Rattle.std.specs.Fmt.{decimal}
use Rattle.std.proofs.lemmas.Bool.{leb-true}
use Rattle.std.proofs.lemmas.Bool.Decides.{nat_tests}
use Rattle.pf_laws.proofs.ReachLemmas.Weights.{weight-share}
use Rattle.pf_scenario.specs.System.{System, IsInLimits}
use Rattle.pf_scenario.specs.Edit.{IsEvent}
use Rattle.pf_scenario.specs.declared.limits.TheConstants.{MOST_EARLY}
use Rattle.pf_scenario.specs.declared.settings.TheConstants.{MOST_PROCESSORS, LARGEST_CAP}
use Rattle.pf_scenario.specs.declared.limits.TheConstants.{LARGEST_DISTANCE}
use Rattle.pf_weight.specs.declared.base.TheConstants.{LARGEST_BASE}
use Rattle.pf_scenario.specs.declared.event.Event.{Event}
use Rattle.pf_scenario.specs.declared.event.Event.TheVariants.{Join, Leave, Delay, Limit}
use Rattle.pf_scenario.specs.declared.change.Change.TheVariants.{Insert}
use Rattle.pf_run.proofs.Limits.{passes_tests, join_task, join_weight, leave_task, delay_task, delay_by, limit_count}
use Rattle.pf_script.specs.Fields.{is_word}
use Rattle.pf_script.specs.Grammar.{horizon_of}
use Rattle.pf_script.specs.Parsing.{change_at, delay_at, edit_at, event_at, join_at, leave_at, limit_at, line_at, number_at, number_within, opening_at, settings_at, steps_at}
use Rattle.pf_script.specs.declared.version.Version.{Version}
use Rattle.pf_script.specs.declared.version.Version.TheVariants.{First, Second}
use Rattle.pf_script.specs.declared.line.Line.TheVariants.{Edit, Steps}
use Rattle.pf_script.specs.declared.record.Record.TheVariants.{Settings}
use Rattle.pf_report.specs.Script.{settings_record, insert_record}
use Rattle.pf_script_laws.specs.Reopening.Reopen.{is_limit, IsDistance}
use Rattle.pf_script_laws.proofs.ReopeningLemmas.Numbers.{number_again}

-- the numbers of an event are short enough for fields
abbrev pub AreShort : Event → Type 0
AreShort (Join slot task cost period early) = (slot < 10 ^ 15) × (task < 10 ^ 15) × (cost < 10 ^ 15) × (period < 10 ^ 15) × (early < 10 ^ 15)
AreShort (Leave slot task) = (slot < 10 ^ 15) × (task < 10 ^ 15)
AreShort (Delay slot task by) = (slot < 10 ^ 15) × (task < 10 ^ 15) × (by < 10 ^ 15)
AreShort (Limit slot count) = (slot < 10 ^ 15) × (count < 10 ^ 15)

-- only version 2 has limits
abbrev pub IsAllowed : Version → Event → Type 0
IsAllowed First event = is_limit event ≡ false
IsAllowed Second event = ⊤

pub short_from : (s : System) (event : Event) → IsInLimits s.processors s.base s.cap → s.horizon ≤ 2 ^ 22 → IsEvent s event → AreShort event
short_from s (Join slot task cost period early) limits horizon is =
    let tests = passes_tests s (Join slot task cost period early) is in
    let share = weight-share s.base cost period limits.base (join_weight s slot task cost period early is) in
    let early_within = leb-true early MOST_EARLY tests.early in (
      omega (arith, tests.slot),
      omega (arith, join_task s slot task cost period early is),
      omega (arith, share.within, share.short),
      omega (arith, share.short),
      omega (arith, early_within),
    )
short_from s (Leave slot task) limits horizon is =
    (omega (arith, (passes_tests s (Leave slot task) is).slot), omega (arith, leave_task s slot task is))
short_from s (Delay slot task by) limits horizon is =
    (omega (arith, (passes_tests s (Delay slot task by) is).slot), omega (arith, delay_task s slot task by is), omega (arith, delay_by s slot task by is))
short_from s (Limit slot count) limits horizon is =
    (omega (arith, (passes_tests s (Limit slot count) is).slot), omega (arith, limit_count s slot count is, limits.processors_within))

-- an insert is read as one
pub insert_again : (version : Version) (event : Event) → AreShort event → IsAllowed version event
    → line_at version (insert_record event) ≡ Ok (Edit (Insert event) false)
unfolding line_at edit_at change_at event_at join_at leave_at delay_at limit_at number_at is_word
insert_again version (Join slot task cost period early) short allowed =
    rw (number_again slot short.0, number_again task short.1, number_again cost short.2, number_again period short.3, number_again early short.4) refl
insert_again version (Leave slot task) short allowed = rw (number_again slot short.0, number_again task short.1) refl
insert_again version (Delay slot task by) short allowed = rw (number_again slot short.0, number_again task short.1, number_again by short.2) refl
insert_again First (Limit slot count) short allowed = cc
insert_again Second (Limit slot count) short allowed = rw (number_again slot short.0, number_again count short.1) refl

-- so are steps
pub steps_again : (version : Version) (n : ℕ) → 1 ≤ n → n ≤ horizon_of version → n < 10 ^ 15 → line_at version (codes "step" ∷ decimal n ∷ []) ≡ Ok (Steps n)
unfolding line_at steps_at number_within number_at is_word
steps_again version n some within short =
    let least : nat_le 1 n ≡ true = grind (arith, nat_tests, some) in
    let most : nat_le n (horizon_of version) ≡ true = grind (arith, nat_tests, within) in
    rw (number_again n short, least, most) refl

-- and the settings
pub settings_again : (version : Version) (s : System) (every : ℕ) → IsInLimits s.processors s.base s.cap → IsDistance every → horizon_of version ≡ s.horizon
    → opening_at version (settings_record s every) ≡ Ok (Settings (record { version = version; settings = s; every = every }))
unfolding opening_at settings_at number_within number_at is_word
settings_again version s every limits distance horizon =
    let processors : (nat_le 1 s.processors && nat_le s.processors MOST_PROCESSORS) ≡ true = grind (arith, nat_tests, limits.processors_some, limits.processors_within) in
    let base : (nat_le 1 s.base && nat_le s.base LARGEST_BASE) ≡ true = grind (arith, nat_tests, limits.base.some, limits.base.within) in
    let cap : (nat_le 1 s.cap && nat_le s.cap LARGEST_CAP) ≡ true = grind (arith, nat_tests, limits.cap_some, limits.cap_within) in
    let apart : (nat_le 1 every && nat_le every LARGEST_DISTANCE) ≡ true = grind (arith, nat_tests, distance.some, distance.within) in
    rw (
      number_again s.processors (omega (arith, limits.processors_within)),
      number_again s.base (omega (arith, limits.base.within)),
      number_again s.cap (omega (arith, limits.cap_within)),
      number_again every (omega (arith, distance.within)),
      processors,
      base,
      cap,
      apart,
    )
    (λ k. Ok (Settings (record {
      version = version;
      settings = record { processors = s.processors; base = s.base; cap = s.cap; horizon = horizon k };
      every = every;
    })))
