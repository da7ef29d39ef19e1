-- The script of a desk as a plan, read again.
use Rattle.std.proofs.Common.{◌≡◌, ◌∙◌, ◌==◌, ℕ, Bool, true, false, List, [], ◌∷◌, ◌++◌, Option, None, Some, All, map, codes, append_assoc, ap, ap₂, sym, subst, arith, refl}
use Rattle.std.specs.Prelude.{if◌then◌else◌}
use Rattle.std.specs.Fmt.{decimal}
use Rattle.std.specs.List.{flat_map}
use Rattle.std.proofs.lemmas.Bool.Decides.{nat_tests}
use Rattle.pf_desk.specs.Desk.{Seen}
use Rattle.pf_vocabulary.specs.Names.Titled.{untitled}
use Rattle.pf_vocabulary.specs.declared.names.named.Named.{Named}
use Rattle.pf_vocabulary.specs.declared.names.slot_length.SlotLength.{SlotLength}
use Rattle.pf_vocabulary.specs.declared.names.titles.Titles.{Titles}
use Rattle.pf_report.specs.Script.{insert_record, insert_records, name_record, script_rows, script_text_of, settings_record, slot_records, step_records, title_records}
use Rattle.pf_text.specs.Rows.Rows.{Row, rows}
use Rattle.pf_scenario.specs.System.{System, near_horizon}
use Rattle.pf_scenario.specs.declared.event.Event.{Event}
use Rattle.pf_scenario.specs.declared.event.Event.TheVariants.{Join, Leave, Delay, Limit}
use Rattle.pf_scenario.specs.declared.event.Numbered.{Numbered}
use Rattle.pf_script.specs.Fields.{is_word}
use Rattle.pf_script.specs.declared.line.Line.TheVariants.{Steps}
use Rattle.pf_text.specs.Page.{table_text}
use Rattle.pf_script.specs.Plan.Heading.{heading_fault, is_plan_heading}
use Rattle.pf_script.specs.Plan.Progress.{at_heading}
use Rattle.pf_script.specs.declared.plan.said.Said.{Said}
use Rattle.pf_script.specs.declared.plan.said.Said.TheVariants.{Settings, Slot, Asks}
use Rattle.pf_script.specs.declared.plan.state.Progress.{Progress}
use Rattle.pf_plain_script.specs.Plain.{Plain, first_column, plain, plain_from, plain_of, start, titles_of, with_heading}
use Rattle.pf_plain_script.specs.Written.{event_fields, heading_fields, said_records}
use Rattle.pf_script_laws.specs.Conversions.Read.{AllSay}
use Rattle.pf_script_laws.proofs.ConversionsLemmas.Again.{rows_again}
use Rattle.pf_script_laws.proofs.ConversionsLemmas.Fields.{slot_says}
use Rattle.pf_version_laws.specs.Titles.{AreTold, IsLength}
use Rattle.pf_script_laws.specs.Titles.Titled.{CanBeTitled, TellsTitled, TitledScriptsAreRead}
use Rattle.pf_script_laws.proofs.TitlesLemmas.Short.{short}
use Rattle.pf_version_laws.proofs.Saying.{AreShort}
use Rattle.pf_script_laws.proofs.TitlesLemmas.Rows.{rows_plain, unmarked}
use Rattle.pf_script_laws.proofs.TitlesLemmas.Says.{events_all, insert_said, opening, settings_say, step_saids}
use Rattle.pf_script_laws.proofs.TitlesLemmas.Names.{behind, name_said, names_all, names_behind, none_ahead}
use Rattle.pf_script_laws.proofs.TitlesLemmas.Plain.{HaveNoLabel, events_behind, events_plain, said_plain}

abbrev heading : List (List ℕ)
heading = codes "plan" ∷ codes "1" ∷ []

abbrev slot_saids : Option SlotLength → List Said
slot_saids None = []
slot_saids (Some slot) = Slot slot ∷ []

abbrev event_saids : List Numbered → ℕ → List Said
event_saids xs n = map (λ x. insert_said x.event) xs ++ step_saids n

-- what the script says after its heading
abbrev saids : System → ℕ → Titles → List Numbered → ℕ → List Said
saids s every titles xs n = Settings (opening s every) ∷ (slot_saids titles.slot ++ (map name_said titles.names ++ event_saids xs n))

abbrev with_slot : Progress → Option SlotLength → Progress
with_slot p slot = record p { slot = slot }

abbrev opened : Progress
opened = record at_heading { opened = true }

-- the length of a slot, and what follows it
slot_all : (slot : Option SlotLength) (records : List (List (List ℕ))) (more : List Said) → IsLength slot
    → AllSay (with_slot opened slot) records more → AllSay opened (slot_records slot ++ records) (slot_saids slot ++ more)
unfolding AllSay
slot_all None records more is rest = rest
slot_all (Some slot) records more is rest = (slot_says opened slot.length slot.unit refl refl refl is.some is.few, rest)

slot_behind : (slot : Option SlotLength) (more : List Said) → behind opened (slot_saids slot ++ more) ≡ behind (with_slot opened slot) more
slot_behind None more = refl
slot_behind (Some slot) more = refl

no_label : (names : List Named) (xs : List Numbered) (n : ℕ) → HaveNoLabel (map name_said names ++ event_saids xs n)
no_label [] xs n = events_plain xs n
no_label (name ∷ names) xs n = no_label names xs n

no_labels : (slot : Option SlotLength) (names : List Named) (xs : List Numbered) (n : ℕ)
    → HaveNoLabel (slot_saids slot ++ (map name_said names ++ event_saids xs n))
no_labels None names xs n = no_label names xs n
no_labels (Some slot) names xs n = no_label names xs n

-- the records of version 2
event_same : (event : Event) → event_fields event ≡ insert_record event
event_same (Join slot task cost period early) = refl
event_same (Leave slot task) = refl
event_same (Delay slot task by) = refl
event_same (Limit slot count) = refl

events_written : (xs : List Numbered) (n : ℕ) → flat_map said_records (event_saids xs n) ≡ insert_records xs ++ step_records n
events_written [] n = by (n == 0)
  where
    by : (b : Bool) → flat_map said_records (if b then [] else Asks (Steps n) None ∷ []) ≡ (if b then [] else (codes "step" ∷ decimal n ∷ []) ∷ [])
    by true = refl
    by false = refl
events_written (x ∷ xs) n =
    ap₂ (λ (f : List (List ℕ)) (rs : List (List (List ℕ))). f ∷ rs) (event_same x.event) (events_written xs n)

names_written : (names : List Named) (more : List Said) → flat_map said_records (map name_said names ++ more) ≡ flat_map said_records more
names_written [] more = refl
names_written (name ∷ names) more = names_written names more

titles_written : (slot : Option SlotLength) (names : List Named) (more : List Said)
    → flat_map said_records (slot_saids slot ++ (map name_said names ++ more)) ≡ flat_map said_records more
titles_written None names more = names_written names more
titles_written (Some slot) names more = names_written names more

module _ (every : ℕ) (seen : Seen) (titles : Titles) (can : CanBeTitled every seen) (told : AreTold titles) where
  abbrev s : System
  s = seen.state.plan.settings

  abbrev events : List Numbered
  events = seen.state.plan.events

  abbrev n : ℕ
  n = seen.state.now

  abbrev script : List Said
  script = saids s every titles events n

  -- after the heading
  abbrev records : List (List (List ℕ))
  records = settings_record s every ∷ (title_records titles ++ (insert_records events ++ step_records n))

  events_short : All (λ x. AreShort x.event) events
  events_short = short seen.state.plan can.scenario can.wide

  all_say : AllSay at_heading records script
  unfolding AllSay
  all_say =
      let last = insert_records events ++ step_records n in
      let events_said = events_all (record (with_slot opened titles.slot) { names = [] ++ titles.names }) events n refl events_short can.stepped in
      let names_said = names_all titles.names (with_slot opened titles.slot) last (event_saids events n) refl told.names (none_ahead titles.names) events_said in
      let titles_said = slot_all titles.slot (map name_record titles.names ++ last) (map name_said titles.names ++ event_saids events n) told.slot names_said in (
        settings_say s every can.scenario.settings.limits (can.some, can.within) can.wide,
        subst (λ (rs : List (List (List ℕ))). AllSay opened rs (slot_saids titles.slot ++ (map name_said titles.names ++ event_saids events n)))
            (sym (append_assoc (slot_records titles.slot) (map name_record titles.names) last)) titles_said,
      )

  titles_kept : titles_of (behind at_heading script) ≡ titles
  titles_kept =
      ap titles_of (slot_behind titles.slot (map name_said titles.names ++ event_saids events n)
      ∙ names_behind titles.names (with_slot opened titles.slot) (event_saids events n) told.names (none_ahead titles.names))
      ∙ events_behind events n (record (with_slot opened titles.slot) { names = [] ++ titles.names })
      ∙ (λ k. record { is_plan = sym told.is_plan k; names = titles.names; slot = titles.slot })

  not_near : (s.horizon == near_horizon) ≡ false
  not_near = grind (arith, nat_tests, can.wide)

  written : heading_fields ∷ flat_map said_records script ≡ script_rows every seen untitled
  written =
      rw not_near
      (ap (λ (rs : List (List (List ℕ))). heading_fields ∷ settings_record s every ∷ rs)
      (titles_written titles.slot titles.names (event_saids events n) ∙ events_written events n))

  is_plan : script_rows every seen titles ≡ heading ∷ records
  is_plan = rw told.is_plan refl

  of_rows : (column : ℕ → ℕ) (rs : List Row) (end : ℕ) → map (λ row. row.fields) rs ≡ heading ∷ records
      → (p : Plain) × (plain_of column end rs ≡ Some p) × TellsTitled every seen titles p
  unfolding is_plan_heading heading_fault is_word script_text_of
  of_rows column [] end is = cc
  of_rows column (row ∷ rs) end is =
      let first : row.fields ≡ codes "plan" ∷ codes "1" ∷ [] = cc in
      let rest : map (λ row. row.fields) rs ≡ records = cc in
      let said = said_plain column rs start 2 end script (subst (λ (t : List (List (List ℕ))). AllSay at_heading t script) (sym rest) all_say)
      (no_labels titles.slot titles.names events n) in (
        with_heading column row.line (plain_from column start 2 end rs),
        rw first refl,
        record {
          text = ap table_text (ap (λ (t : List (List (List ℕ))). heading_fields ∷ t) said.records ∙ written);
          told = said.told ∙ titles_kept;
          good = said.good;
        },
      )

  read : (p : Plain) × (plain (script_text_of every seen titles) ≡ Some p) × TellsTitled every seen titles p
  unfolding script_text_of
  read =
      let text = table_text (heading ∷ records) in
      let all = rows_plain s every n titles events can.scenario.settings.limits (can.some, can.within) told.slot told.names events_short (omega (arith, can.stepped)) in
      let fields = rows_again (heading ∷ records) all (unmarked s every (title_records titles ++ (insert_records events ++ step_records n))) in
      let made = of_rows (first_column text) (rows text).rows (rows text).end fields in
      subst (λ (rs : List (List (List ℕ))). (p : Plain) × (plain (table_text rs) ≡ Some p) × TellsTitled every seen titles p) (sym is_plan) made

pub titled_scripts_are_read : TitledScriptsAreRead
titled_scripts_are_read every seen titles can told = read every seen titles can told
