-- What the records of a desk's script say in a plan.
use Rattle.std.proofs.Common.{◌≡◌, ◌≤◌, ◌==◌, ℕ, Bool, true, false, Ok, List, [], ◌∷◌, ◌++◌, None, All, map, codes, sym, arith, refl}
use Rattle.std.specs.Prelude.{if◌then◌else◌}
use Rattle.std.specs.Fmt.{decimal}
use Rattle.std.proofs.lemmas.Bool.Decides.{nat_tests}
use Rattle.std.proofs.lemmas.List.Elements.{All-head, All-tail}
use Rattle.pf_scenario.specs.System.{System, IsInLimits, wide_horizon}
use Rattle.pf_scenario.specs.declared.event.Event.{Event}
use Rattle.pf_scenario.specs.declared.event.Event.TheVariants.{Join, Leave, Delay, Limit}
use Rattle.pf_scenario.specs.declared.event.Numbered.{Numbered}
use Rattle.pf_scenario.specs.declared.change.Change.TheVariants.{Insert}
use Rattle.pf_vocabulary.specs.Names.Names.{name_of, task_of}
use Rattle.pf_vocabulary.specs.declared.names.named.Named.{Named}
use Rattle.pf_script.specs.Fields.{is_word}
use Rattle.pf_script.specs.declared.line.Line.TheVariants.{Edit, Steps}
use Rattle.pf_script.specs.declared.record.ScriptSettings.{ScriptSettings}
use Rattle.pf_script.specs.declared.version.Version.TheVariants.{Second}
use Rattle.pf_script.specs.Plan.Parsing.{cap_at, delay_at, edit_at, event_at, every_at, free_name_at, leave_at, limit_at, name_at, nameless_at, opening_at, record_at, said_at, settings_at}
use Rattle.pf_script.specs.Plan.Progress.{at_heading, progress_after}
use Rattle.pf_script.specs.declared.plan.fault.Reason.TheVariants.{NoCap, NoNumber}
use Rattle.pf_script.specs.declared.plan.said.Said.{Said}
use Rattle.pf_script.specs.declared.plan.said.Said.TheVariants.{Settings, Name, Asks}
use Rattle.pf_script.specs.declared.plan.state.Progress.{Progress}
use Rattle.pf_report.specs.Script.{insert_record, insert_records, name_record, settings_record, step_records}
use Rattle.pf_script_laws.specs.Conversions.Read.{AllSay}
use Rattle.pf_script_laws.proofs.ConversionsLemmas.Fields.{early_told, join_told, not_full, steps_say, task_told}
use Rattle.pf_script_laws.proofs.ConversionsLemmas.Numbers.{number_here, number_inside}
use Rattle.pf_version_laws.proofs.Saying.{AreShort}
use Rattle.pf_version_laws.specs.Titles.{IsGivable}

abbrev pub opening : System → ℕ → ScriptSettings
opening s every = record { version = Second; settings = s; every = every }

pub settings_say : (s : System) (every : ℕ) → IsInLimits s.processors s.base s.cap → (1 ≤ every) × (every ≤ 4096) → s.horizon ≡ wide_horizon
    → said_at at_heading (settings_record s every) ≡ Ok (Settings (opening s every))
unfolding opening_at settings_at cap_at every_at is_word
settings_say s every limits distance wide =
    let fields = settings_record s every in
    rw (
      number_inside NoNumber fields 1 64 s.processors refl (omega (arith, limits.processors_within)) limits.processors_some limits.processors_within,
      number_inside NoNumber fields 2 1073741824 s.base refl (omega (arith, limits.base.within)) limits.base.some limits.base.within,
      not_full s.cap (omega (arith, limits.cap_within)),
      number_inside NoCap fields 3 17592186044416 s.cap refl (omega (arith, limits.cap_within)) limits.cap_some limits.cap_within,
      number_inside NoNumber fields 4 4096 every refl (omega (arith, distance.1)) distance.0 distance.1,
    )
    (λ k. Ok (Settings (record {
      version = Second;
      settings = record { processors = s.processors; base = s.base; cap = s.cap; horizon = sym wide k };
      every = every;
    })))

pub name_says : (p : Progress) (n : Named) → p.opened ≡ true → IsGivable n → name_of p.names n.task ≡ None → task_of p.names n.name ≡ None
    → said_at p (name_record n) ≡ Ok (Name n.task n.name)
unfolding record_at name_at nameless_at free_name_at is_word
name_says p n opened is none free =
    rw (opened, number_inside NoNumber (name_record n) 1 4095 n.task refl (omega (arith, is.few)) is.some is.few, none, is.text, free) refl

abbrev pub insert_said : Event → Said
insert_said event = Asks (Edit (Insert event) false) None

insert_says : (p : Progress) (event : Event) → p.opened ≡ true → AreShort event → said_at p (insert_record event) ≡ Ok (insert_said event)
unfolding record_at edit_at event_at leave_at delay_at limit_at is_word
insert_says p (Join slot task cost period early) opened short =
    let fields = insert_record (Join slot task cost period early) in
    let told = join_told p.names fields slot task cost period early refl (number_here NoNumber fields 1 slot refl short.0) (task_told p.names fields 2 task refl short.1)
    (number_here NoNumber fields 3 cost refl short.2) (number_here NoNumber fields 4 period refl short.3) (early_told fields 5 early refl refl short.4) in
    rw (opened, told) refl
insert_says p (Leave slot task) opened short =
    let fields = insert_record (Leave slot task) in
    rw (opened, number_here NoNumber fields 1 slot refl short.0, task_told p.names fields 2 task refl short.1) refl
insert_says p (Delay slot task by) opened short =
    let fields = insert_record (Delay slot task by) in
    rw (opened, number_here NoNumber fields 1 slot refl short.0, task_told p.names fields 2 task refl short.1, number_here NoNumber fields 3 by refl short.2) refl
insert_says p (Limit slot count) opened short =
    let fields = insert_record (Limit slot count) in
    rw (opened, number_here NoNumber fields 1 slot refl short.0, number_here NoNumber fields 2 count refl short.1) refl

abbrev pub step_saids : ℕ → List Said
step_saids n = if n == 0 then [] else Asks (Steps n) None ∷ []

end_told : (p : Progress) → p.opened ≡ true → AllSay p [] []
unfolding AllSay
end_told p opened = rw opened refl

steps_all : (p : Progress) (n : ℕ) → p.opened ≡ true → n ≤ wide_horizon → AllSay p (step_records n) (step_saids n)
unfolding AllSay
steps_all p n opened few = by (n == 0) refl
  where
    by : (b : Bool) → (n == 0) ≡ b
        → AllSay p (if b then [] else (codes "step" ∷ decimal n ∷ []) ∷ []) (if b then [] else Asks (Steps n) None ∷ [])
    by true none = end_told p opened
    by false some =
        let more : 1 ≤ n = grind (arith, nat_tests, some) in
        (steps_say p n opened more few, end_told (progress_after p (Asks (Steps n) None) 0) opened)

-- Use: the events, and then the steps.
pub events_all : (p : Progress) (xs : List Numbered) (n : ℕ) → p.opened ≡ true → All (λ x. AreShort x.event) xs → n ≤ wide_horizon
    → AllSay p (insert_records xs ++ step_records n) (map (λ x. insert_said x.event) xs ++ step_saids n)
unfolding AllSay
events_all p [] n opened short few = steps_all p n opened few
events_all p (x ∷ xs) n opened short few = (
  insert_says p x.event opened (All-head (λ x. AreShort x.event) x xs short),
  events_all (progress_after p (insert_said x.event) 0) xs n opened (All-tail (λ x. AreShort x.event) x xs short) few,
)
