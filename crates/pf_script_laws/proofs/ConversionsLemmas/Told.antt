-- What holds of the tasks that a list tells: their names differ, each job takes some time, and there are not too many.
use Rattle.std.proofs.Common.{◌≡◌, ◌≤◌, ◌+◌, ◌==◌, ℕ, zero, suc, Bool, true, false, Option, None, Some, Result, Ok, Err, List, [], ◌∷◌, ◌++◌, All, length, inl, inr, arith, refl, ap, subst}
use Rattle.std.specs.Prelude.{if◌then◌else◌}
use Rattle.std.specs.Str.{bytes_eq}
use Rattle.std.proofs.lemmas.Bool.{cases_lt, eqb-false}
use Rattle.std.proofs.lemmas.List.{length_push}
use Rattle.std.proofs.lemmas.List.Elements.{All-cons, All-head, All-nil, All-push, All-tail}
use Rattle.pf_vocabulary.specs.Names.Text.{is_text}
use Rattle.pf_vocabulary.specs.declared.names.unit.Unit.{Unit}
use Rattle.pf_text.specs.Rows.Rows.{Row, rows}
use Rattle.pf_weight.specs.declared.task.TheConstants.{LARGEST_TASK}
use Rattle.pf_convert.specs.declared.list.column.Column.{Column}
use Rattle.pf_convert.specs.declared.list.column.Column.TheVariants.{Deadline, Early, Every, First, Name, Work}
use Rattle.pf_convert.specs.declared.list.fault.FileFault.{FileFault}
use Rattle.pf_convert.specs.declared.list.fault.HeadingFault.{HeadingFault}
use Rattle.pf_convert.specs.declared.list.fault.TaskFault.{TaskFault}
use Rattle.pf_convert.specs.declared.list.fault.TaskFault.TheVariants.{Time}
use Rattle.pf_convert.specs.declared.list.heading.Heading.{Heading}
use Rattle.pf_convert.specs.declared.list.listed.Listed.{Listed}
use Rattle.pf_convert.specs.declared.list.time.TimeFault.TheVariants.{Zero}
use Rattle.pf_convert.specs.declared.timed.Timed.{Timed}
use Rattle.pf_convert.specs.declared.list.unit_rule.UnitRule.{UnitRule}
use Rattle.pf_convert.specs.List.Faults.{no_task_message, too_many_message}
use Rattle.pf_convert.specs.List.Heading.{field_in, heading_in, no_columns}
use Rattle.pf_convert.specs.List.Heads.{Head}
use Rattle.pf_convert.specs.List.Messages.{Told}
use Rattle.pf_convert.specs.List.Quotes.{open_line}
use Rattle.pf_convert.specs.List.List.{ListTold, bytes_fault, head_of, list_of, list_told, nothing_told, of_file, tasks_told, told_of, told_under, with_bytes_fault, with_fault, with_read, with_row}
use Rattle.pf_convert.specs.List.Reading.{above_zero, at_column, count_fault, deadline_in, free_name, line_of, list_time, name_for, name_or_fault, needed_time, optional_time, rule_for, task_in, task_or_fault, times_in}
use Rattle.pf_convert.specs.List.Times.{◌>>=◌, carried_unit}
use Rattle.pf_script_laws.specs.Conversions.Read.{AreNames}

-- the steps of what came to a value
pub then_ok : {A B E : Type 0} (r : Result A E) (f : A → Result B E) (y : B) → (r >>= f) ≡ Ok y → (x : A) × (r ≡ Ok x) × (f x ≡ Ok y)
then_ok (Ok x) f y e = (x, refl, e)
then_ok (Err fault) f y e = cc

pub unless_ok : {A E : Type 0} (b : Bool) (r : Result A E) (fault : E) (y : A) → (if b then Err fault else r) ≡ Ok y → (b ≡ false) × (r ≡ Ok y)
unless_ok true r fault y e = cc
unless_ok false r fault y e = (refl, e)

-- a task that can stand after these
pub record IsNext (tasks : List Listed) (t : Listed) : Type 0 where
  pub text : is_text t.name ≡ true
  pub apart : All (λ other. bytes_eq other.name t.name ≡ false) tasks
  pub works : 1 ≤ t.times.work

none_alike : (tasks : List Listed) (name : List ℕ) → line_of tasks name ≡ None → All (λ other. bytes_eq other.name name ≡ false) tasks
unfolding line_of
none_alike [] name none = All-nil (λ other. bytes_eq other.name name ≡ false)
none_alike (t ∷ ts) name none = by (bytes_eq t.name name) refl none (none_alike ts name)
  where
    by : (b : Bool) → bytes_eq t.name name ≡ b → (if b then Some t.line else line_of ts name) ≡ None
        → (line_of ts name ≡ None → All (λ other. bytes_eq other.name name ≡ false) ts) → All (λ other. bytes_eq other.name name ≡ false) (t ∷ ts)
    by true same e more = cc
    by false other e more = All-cons (λ other. bytes_eq other.name name ≡ false) t ts other (more e)

named : (tasks : List Listed) (field name : List ℕ) → name_for tasks field ≡ Ok name → (is_text name ≡ true) × All (λ other. bytes_eq other.name name ≡ false) tasks
named tasks field name e = by (is_text field) refl e
  where
    free : (o : Option ℕ) → line_of tasks field ≡ o → is_text field ≡ true → free_name field o ≡ Ok name
        → (is_text name ≡ true) × All (λ other. bytes_eq other.name name ≡ false) tasks
    free None none text e =
        let same : field ≡ name = cc in
        subst (λ (n : List ℕ). (is_text n ≡ true) × All (λ other. bytes_eq other.name n ≡ false) tasks) same (text, none_alike tasks field none)
    free (Some line) found text e = cc

    by : (b : Bool) → is_text field ≡ b → name_or_fault tasks (if b then Some field else None) ≡ Ok name
        → (is_text name ≡ true) × All (λ other. bytes_eq other.name name ≡ false) tasks
    by true text e = free (line_of tasks field) refl text e
    by false none e = cc

some_time : (column : Column) (x work : ℕ) → above_zero column x ≡ Ok work → 1 ≤ work
some_time column x work e =
    let told = unless_ok (x == 0) (Ok x) (Time column Zero) work e in
    let same : x ≡ work = let all = told.1 in cc in
    let some : x ≡ 0 → ⊥ = eqb-false x 0 told.0 in
    by x same some
  where
    by : (y : ℕ) → y ≡ work → (y ≡ 0 → ⊥) → 1 ≤ work
    by zero is never = absurd (never refl)
    by (suc y) is never = omega (arith, is)

-- what times and tasks are made of
timed : (w e : ℕ) (deadline : Result (Option ℕ) TaskFault) (first early : Result ℕ TaskFault) (times : Timed)
    → (deadline >>= λ d. first >>= λ f. early >>= λ a. Ok (record { work = w; every = e; deadline = d; first = f; early = a })) ≡ Ok times
    → ◌≡◌ {A = Result ℕ TaskFault} (Ok w) (Ok times.work)
timed w e (Ok d) (Ok f) (Ok a) times is =
    let same : record { work = w; every = e; deadline = d; first = f; early = a } ≡ times = cc in
    ap {B = Result ℕ TaskFault} (λ (t : Timed). Ok t.work) same
timed w e (Ok d) (Ok f) (Err fault) times is = cc
timed w e (Ok d) (Err fault) early times is = cc
timed w e (Err fault) first early times is = cc

times_parts : (work every : Result ℕ TaskFault) (deadline : ℕ → Result (Option ℕ) TaskFault) (first early : Result ℕ TaskFault) (times : Timed)
    → (work >>= λ w. every >>= λ e. deadline e >>= λ d. first >>= λ f. early >>= λ a. Ok (record { work = w; every = e; deadline = d; first = f; early = a }))
    ≡ Ok times → work ≡ Ok times.work
times_parts (Ok w) (Ok e) deadline first early times is = timed w e (deadline e) first early times is
times_parts (Ok w) (Err fault) deadline first early times is = cc
times_parts (Err fault) every deadline first early times is = cc

worked : (rule : UnitRule) (h : Heading) (fields : List (List ℕ)) (times : Timed) → times_in rule h fields ≡ Ok times → 1 ≤ times.work
unfolding times_in needed_time
worked rule h fields times e =
    let work = times_parts (needed_time rule Work (field_in Work h fields)) (needed_time rule Every (field_in Every h fields))
    (λ every. deadline_in rule every (field_in Deadline h fields)) (optional_time rule First (field_in First h fields))
    (optional_time rule Early (field_in Early h fields)) times e in
    let read = then_ok (at_column Work (list_time rule (field_in Work h fields))) (above_zero Work) times.work work in
    some_time Work read.0 times.work read.2

task_parts : (name : Result (List ℕ) TaskFault) (times : Result Timed TaskFault) (line : ℕ) (unit : Option Unit) (t : Listed)
    → (name >>= λ n. times >>= λ v. Ok (record { line = line; name = n; times = v; unit = unit })) ≡ Ok t → (name ≡ Ok t.name) × (times ≡ Ok t.times)
task_parts (Ok n) (Ok v) line unit t is =
    let same : record { line = line; name = n; times = v; unit = unit } ≡ t = cc in
    (ap {B = Result (List ℕ) TaskFault} (λ (u : Listed). Ok u.name) same, ap {B = Result Timed TaskFault} (λ (u : Listed). Ok u.times) same)
task_parts (Ok n) (Err fault) line unit t is = cc
task_parts (Err fault) times line unit t is = cc

is_next : (rule : UnitRule) (h : Heading) (tasks : List Listed) (line : ℕ) (fields : List (List ℕ)) (t : Listed) → task_in rule h tasks line fields ≡ Ok t → IsNext tasks t
unfolding task_in
is_next rule h tasks line fields t e = by (count_fault h fields) e
  where
    by : (o : Option TaskFault) → task_or_fault rule h tasks line fields o ≡ Ok t → IsNext tasks t
    by None whole =
        let parts = task_parts (name_for tasks (field_in Name h fields)) (times_in rule h fields) line (carried_unit (field_in Every h fields)) t whole in
        let read = named tasks (field_in Name h fields) t.name parts.0 in
        record { text = read.0; apart = read.1; works = worked rule h fields t.times parts.1 }
    by (Some fault) whole = cc

-- these tasks can be told one after the other
pub record AreTold (tasks : List Listed) : Type 0 where
  pub names : AreNames tasks
  pub works : All (λ t. 1 ≤ t.times.work) tasks

names_push : (tasks : List Listed) (t : Listed) → AreNames tasks → is_text t.name ≡ true → All (λ other. bytes_eq other.name t.name ≡ false) tasks → AreNames (tasks ++ t ∷ [])
unfolding AreNames
names_push [] t names text apart = (text, All-nil (λ other. bytes_eq t.name other.name ≡ false), tt)
names_push (u ∷ us) t names text apart = (
  names.0,
  All-push (λ other. bytes_eq u.name other.name ≡ false) us t names.1 (All-head (λ other. bytes_eq other.name t.name ≡ false) u us apart),
  names_push us t names.2 text (All-tail (λ other. bytes_eq other.name t.name ≡ false) u us apart),
)

told_push : (tasks : List Listed) (t : Listed) → AreTold tasks → IsNext tasks t → AreTold (tasks ++ t ∷ [])
told_push tasks t told next = record {
  names = names_push tasks t told.names next.text next.apart;
  works = All-push (λ u. 1 ≤ u.times.work) tasks t told.works next.works;
}

-- and they are no more than the rows
pub record IsFewTold (count : ℕ) (told : ListTold) : Type 0 where
  pub tasks : AreTold told.tasks
  pub few : length told.tasks ≤ count

row_told : (head : Head) (count : ℕ) (told : ListTold) (row : Row) → IsFewTold count told → IsFewTold (count + 1) (with_row head told row)
unfolding with_row
row_told head count told row is = by (task_in head.rule head.heading told.tasks row.line row.fields) refl
  where
    by : (r : Result Listed TaskFault) → task_in head.rule head.heading told.tasks row.line row.fields ≡ r → IsFewTold (count + 1) (with_read head told row r)
    by (Ok t) e = record {
      tasks = told_push told.tasks t is.tasks (is_next head.rule head.heading told.tasks row.line row.fields t e);
      few = omega (arith, length_push told.tasks t, is.few);
    }
    by (Err fault) e = record { tasks = is.tasks; few = omega (arith, is.few) }

rows_told : (head : Head) (count : ℕ) (told : ListTold) (end : ℕ) (rows : List Row) → count ≤ LARGEST_TASK → IsFewTold count told
    → IsFewTold LARGEST_TASK (tasks_told head count told end rows)
unfolding tasks_told
rows_told head count told end [] low is = by (count == 0)
  where
    by : (b : Bool) → IsFewTold LARGEST_TASK (if b then with_fault told (no_task_message head end) else told)
    by true = record { tasks = is.tasks; few = omega (arith, is.few, low) }
    by false = record { tasks = is.tasks; few = omega (arith, is.few, low) }
rows_told head count told end (row ∷ rows) low is =
    by (count == LARGEST_TASK) refl (λ below. rows_told head (count + 1) (with_row head told row) end rows below (row_told head count told row is))
  where
    by : (b : Bool) → (count == LARGEST_TASK) ≡ b
        → (count + 1 ≤ LARGEST_TASK → IsFewTold LARGEST_TASK (tasks_told head (count + 1) (with_row head told row) end rows))
        → IsFewTold LARGEST_TASK (if b then with_fault told (too_many_message row.line) else tasks_told head (count + 1) (with_row head told row) end rows)
    by true full more = record { tasks = is.tasks; few = omega (arith, is.few, low) }
    by false other more =
        let never : count ≡ LARGEST_TASK → ⊥ = eqb-false count LARGEST_TASK other in
        more (elim (cases_lt count LARGEST_TASK) [
          | inl lt ↦ omega (arith, lt)
          | inr ge ↦ absurd (never (omega (arith, ge, low)))
        ])

none_told : (count : ℕ) (h : Heading) (faults : List Told) → IsFewTold count (record { tasks = []; faults = faults; heading = h })
unfolding AreNames
none_told count h faults = record { tasks = record { names = tt; works = All-nil (λ t. 1 ≤ t.times.work) }; few = omega arith }

under_told : (file : List ℕ) (rule : UnitRule) (quoted : Option ℕ) (row : Row) (end : ℕ) (more : List Row) (r : Result Heading HeadingFault)
    → IsFewTold LARGEST_TASK (told_under file rule quoted row end more r)
under_told file rule quoted row end more (Ok h) =
    rows_told (head_of rule quoted h row.fields) 0 (record nothing_told { heading = h }) end more (omega arith) (none_told 0 h [])
under_told file rule quoted row end more (Err fault) = none_told LARGEST_TASK no_columns _

of_rows_told : (file : List ℕ) (rule : UnitRule) (quoted : Option ℕ) (end : ℕ) (rows : List Row) → IsFewTold LARGEST_TASK (told_of file rule quoted end rows)
of_rows_told file rule quoted end [] = none_told LARGEST_TASK no_columns _
of_rows_told file rule quoted end (row ∷ more) = under_told file rule quoted row end more (heading_in row.fields)

file_told : (file : List ℕ) (told : ListTold) (o : Option FileFault) → IsFewTold LARGEST_TASK told → IsFewTold LARGEST_TASK (with_bytes_fault file told o)
file_told file told None is = is
file_told file told (Some fault) is = none_told LARGEST_TASK no_columns _

of_file_told : (file text : List ℕ) (told : ListTold) → IsFewTold LARGEST_TASK told → IsFewTold LARGEST_TASK (of_file file text told)
of_file_told file text told is = by (length told.faults == 0)
  where
    by : (b : Bool) → IsFewTold LARGEST_TASK (if b then told else with_bytes_fault file told (bytes_fault text))
    by true = is
    by false = file_told file told (bytes_fault text) is

pub list_is_told : (file : List ℕ) (given : Option Unit) (text : List ℕ) → IsFewTold LARGEST_TASK (list_told file given text)
unfolding list_told
list_is_told file given text =
    of_file_told file text (list_of file given text)
    (of_rows_told file (rule_for given (rows text).rows) (open_line text) (rows text).end (rows text).rows)
