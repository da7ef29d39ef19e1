-- The script of version 2 that belongs to a plan's script asks for what the plan says.
use Rattle.std.proofs.Common.{◌≡◌, ◌∙◌, ◌+◌, ℕ, None, Some, List, [], ◌∷◌, ◌++◌, All, map, replicate, refl, sym, ap, subst, append-nil}
use Rattle.std.specs.Prelude.{⊤}
use Rattle.std.proofs.lemmas.List.Elements.{All-append, All-cons, All-head, All-nil, All-tail}
use Rattle.pf_convert.specs.declared.plan.Plan.{Plan}
use Rattle.pf_convert.specs.declared.slotted.Slotted.{Slotted}
use Rattle.pf_desk.specs.declared.command.Command.TheVariants.{Step}
use Rattle.pf_text.specs.Rows.Rows.{Row, rows}
use Rattle.pf_script_desk.specs.Asked.{commands_in}
use Rattle.pf_script.specs.Told.{told}
use Rattle.pf_script.specs.declared.line.Line.TheVariants.{Steps}
use Rattle.pf_script.specs.declared.version.Version.TheVariants.{Second}
use Rattle.pf_convert.specs.declared.list.listed.Listed.{Listed}
use Rattle.pf_text.specs.Page.{table_text}
use Rattle.pf_script.specs.declared.plan.said.Said.{Said}
use Rattle.pf_script.specs.declared.plan.said.Said.TheVariants.{Settings, Slot, Name, Asks}
use Rattle.pf_script.specs.declared.plan.state.Progress.{Progress}
use Rattle.pf_script.specs.Plan.Heading.{heading_fault}
use Rattle.pf_script.specs.Plan.Progress.{progress_after}
use Rattle.pf_plain_script.specs.Plain.{Course, Plain, course_behind, plain, start}
use Rattle.pf_convert.specs.Conversion.Script.{script_text, slot_of, steps_of}
use Rattle.pf_script_laws.specs.Conversions.Records.{each_numbered, heading_record, script_records}
use Rattle.pf_script_laws.specs.Conversions.Read as read
use Rattle.pf_script_laws.specs.Conversions.Read.{AllSay, IsWritten, plan_said}
use Rattle.pf_script_laws.proofs.ConversionsLemmas.Saying.{plans_said}
use Rattle.pf_script_laws.proofs.ConversionsLemmas.Whole.{heading_good, rows_of_script}
use Rattle.pf_script_laws.specs.PlanFits.Laws.{join_asked, plan_settings}
use Rattle.pf_script_laws.specs.Agreement.Fitted.{AsksPlan}
use Rattle.pf_version_laws.specs.Retold.{ScriptsAreRetold, lines_said, saids_behind, saids_from, saids_next, saids_of, settings_said}

-- it gives no label
abbrev HasNoLabel : Said → Type 0
HasNoLabel (Settings s) = ⊤
HasNoLabel (Slot length) = ⊤
HasNoLabel (Name task name) = ⊤
HasNoLabel (Asks line None) = ⊤
HasNoLabel (Asks line (Some label)) = ⊥

-- and then what came before rests on no number
same_progress : (c : Course) (said : Said) → HasNoLabel said → progress_after c.progress said 0 ≡ (course_behind c said).progress
same_progress c (Settings s) none = refl
same_progress c (Slot length) none = refl
same_progress c (Name task name) none = refl
same_progress c (Asks line None) none = refl
same_progress c (Asks line (Some label)) none = absurd none

saids_are : (c : Course) (rs : List Row) (saids : List Said) → All HasNoLabel saids → AllSay c.progress (map (λ row. row.fields) rs) saids → saids_from c rs ≡ saids
unfolding AllSay
saids_are c [] [] none say = refl
saids_are c [] (s ∷ ss) none say = absurd say
saids_are c (r ∷ rs) [] none say = absurd say
saids_are c (r ∷ rs) (s ∷ ss) none say =
    let one = same_progress c s (All-head HasNoLabel s ss none) in
    let more = saids_are (course_behind c s) rs ss (All-tail HasNoLabel s ss none)
    (subst (λ (p : Progress). AllSay p (map (λ row. row.fields) rs) ss) one say.1) in
    ap (saids_next (λ next. saids_from next rs) c) say.0 ∙ ap (λ (t : List Said). s ∷ t) more

-- a plan gives none
none_named : (k : ℕ) (tasks : List Listed) → All HasNoLabel (each_numbered read.name_said k tasks)
unfolding each_numbered
none_named k [] = All-nil HasNoLabel
none_named k (t ∷ ts) = All-cons HasNoLabel (read.name_said k t) (each_numbered read.name_said (k + 1) ts) tt (none_named (k + 1) ts)

none_joined : (k : ℕ) (slots : List Slotted) → All HasNoLabel (each_numbered read.join_said k slots)
unfolding each_numbered
none_joined k [] = All-nil HasNoLabel
none_joined k (s ∷ ss) = All-cons HasNoLabel (read.join_said k s) (each_numbered read.join_said (k + 1) ss) tt (none_joined (k + 1) ss)

none_labelled : (m q : ℕ) (tasks : List Listed) (plan : Plan) → All HasNoLabel (plan_said m q tasks plan)
none_labelled m q tasks plan =
    let names = each_numbered read.name_said 1 tasks in
    let joins = each_numbered read.join_said 1 plan.tasks.items in
    let steps : Said = Asks (Steps (steps_of plan.base plan.tasks.items)) None in
    let last : All HasNoLabel (steps ∷ []) = All-cons HasNoLabel steps [] tt (All-nil HasNoLabel) in
    All-cons HasNoLabel (read.settings_said m plan.base) (read.slot_said (slot_of q) ∷ (names ++ (joins ++ steps ∷ []))) tt
    (All-cons HasNoLabel (read.slot_said (slot_of q)) (names ++ (joins ++ steps ∷ [])) tt
    (All-append HasNoLabel names (joins ++ steps ∷ []) (none_named 1 tasks) (All-append HasNoLabel joins (steps ∷ []) (none_joined 1 plan.tasks.items) last)))

-- its names have no lines
names_pass : (number k : ℕ) (tasks : List Listed) (saids : List Said) → lines_said number (each_numbered read.name_said k tasks ++ saids) ≡ lines_said number saids
unfolding each_numbered
names_pass number k [] saids = refl
names_pass number k (t ∷ ts) saids = names_pass number (k + 1) ts saids

joins_ask : (number k count : ℕ) (slots : List Slotted)
    → commands_in (lines_said number (each_numbered read.join_said k slots ++ Asks (Steps count) None ∷ [])) ≡ each_numbered join_asked k slots ++ replicate count Step
unfolding each_numbered
joins_ask number k count [] = append-nil (replicate count Step)
joins_ask number k count (s ∷ ss) = ap (λ t. join_asked k s ∷ t) (joins_ask (number + 1) (k + 1) count ss)

-- what the plan's script says is what its script of version 2 tells
saids_of_rows : (rs : List Row) (behind : List (List (List ℕ))) (saids : List Said) → map (λ row. row.fields) rs ≡ heading_record ∷ behind → All HasNoLabel saids
    → AllSay start.progress behind saids → saids_of rs ≡ saids
saids_of_rows [] behind saids is none say = cc
saids_of_rows (r ∷ rs) behind saids is none say =
    let both : r.fields ∷ map (λ row. row.fields) rs ≡ heading_record ∷ behind = is in
    let first : r.fields ≡ heading_record = cc in
    let same : map (λ row. row.fields) rs ≡ behind = cc in
    ap (λ fault. saids_behind fault rs) (ap heading_fault first ∙ heading_good)
    ∙ saids_are start rs saids none (subst (λ (t : List (List (List ℕ))). AllSay start.progress t saids) (sym same) say)

pub asks_plan : ScriptsAreRetold → (m q : ℕ) (tasks : List Listed) (plan : Plan) (p : Plain) → IsWritten m q tasks plan → plain (script_text m q tasks plan) ≡ Some p
    → AsksPlan m plan (told (table_text p.records))
asks_plan law m q tasks plan p written is =
    let text = script_text m q tasks plan in
    let saids : saids_of (rows text).rows ≡ plan_said m q tasks plan =
    saids_of_rows (rows text).rows (script_records m q tasks plan) (plan_said m q tasks plan) (rows_of_script m q tasks plan written)
    (none_labelled m q tasks plan) (plans_said m q tasks plan written) in
    let retold = law text p is in
    record {
      opening = record { version = Second; settings = plan_settings m plan.base; every = 64 };
      opens = retold.opening ∙ ap settings_said saids;
      settings = refl;
      asks = ap commands_in (retold.lines ∙ ap (lines_said 2) saids)
          ∙ ap commands_in (names_pass 3 1 tasks (each_numbered read.join_said 1 plan.tasks.items ++ Asks (Steps (steps_of plan.base plan.tasks.items)) None ∷ []))
          ∙ joins_ask 3 1 (steps_of plan.base plan.tasks.items) plan.tasks.items;
    }
