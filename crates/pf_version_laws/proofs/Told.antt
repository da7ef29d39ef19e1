-- The titles that a plan tells.
use Rattle.std.proofs.Common.{◌≡◌, ◌∙◌, ◌+◌, ◌<◌, ◌==◌, ℕ, Bool, true, false, List, [], ◌∷◌, Option, None, Some, Ok, Err, Result, All, subst, arith, refl}
use Rattle.std.specs.Prelude.{if◌then◌else◌, nat_lt}
use Rattle.std.specs.Str.{bytes_eq}
use Rattle.std.proofs.lemmas.Bool.Decides.{nat_tests}
use Rattle.std.proofs.lemmas.Cmp.{nat_list_eq_equiv}
use Rattle.std.proofs.lemmas.List.Elements.{All-cons, All-head, All-nil, All-tail}
use Rattle.pf_vocabulary.specs.Names.Names.{name_of, task_of, with_name}
use Rattle.pf_vocabulary.specs.declared.names.named.Named.{Named}
use Rattle.pf_text.specs.Rows.Rows.{Row, rows}
use Rattle.pf_script.specs.Plan.Heading.{heading_fault, is_plan_heading}
use Rattle.pf_script.specs.Plan.Parsing.{end_fault, said_at}
use Rattle.pf_script.specs.declared.plan.fault.RecordFault.{RecordFault}
use Rattle.pf_script.specs.declared.plan.said.Said.{Said}
use Rattle.pf_script.specs.declared.plan.said.Said.TheVariants.{Settings, Slot, Name, Asks}
use Rattle.pf_script.specs.declared.plan.state.Progress.{Progress}
use Rattle.pf_plain_script.specs.declared.origin.Origin.{Origin}
use Rattle.pf_plain_script.specs.Plain.{Course, Plain, course_behind, ended, first_column, origin_at, plain_behind, plain_from, plain_next, plain_of, start, with_heading}
use Rattle.pf_version_laws.specs.Titles.{AreGivable, AreTold, IsGivable, IsLength, TitlesAreTold}
use Rattle.pf_version_laws.proofs.Saying.{CanBeWritten, said_written}
use Rattle.pf_version_laws.proofs.Whole.{IsGood, good_behind, good_start}

-- a name that none of these tasks has
apart : (names : List Named) (name : List ℕ) → task_of names name ≡ None → All (λ n. bytes_eq name n.name ≡ false) names
apart [] name none = All-nil (λ (n : Named). bytes_eq name n.name ≡ false)
apart (n ∷ names) name none = by (bytes_eq n.name name) refl none (λ e. apart names name e)
  where
    by : (b : Bool) → bytes_eq n.name name ≡ b → (if b then Some n.task else task_of names name) ≡ None
        → (task_of names name ≡ None → All (λ m. bytes_eq name m.name ≡ false) names) → All (λ m. bytes_eq name m.name ≡ false) (n ∷ names)
    by true same e more = let bad : Some n.task ≡ None = e in cc
    by false differs e more =
        All-cons (λ (m : Named). bytes_eq name m.name ≡ false) n names (nat_list_eq_equiv.symm name n.name ∙ differs) (more e)

-- a task that is none of these
others : (names : List Named) (task : ℕ) → name_of names task ≡ None → All (λ n. (n.task == task) ≡ false) names
others [] task none = All-nil (λ (n : Named). (n.task == task) ≡ false)
others (n ∷ names) task none = by (n.task == task) refl none (λ e. others names task e)
  where
    by : (b : Bool) → (n.task == task) ≡ b → (if b then Some n.name else name_of names task) ≡ None
        → (name_of names task ≡ None → All (λ m. (m.task == task) ≡ false) names) → All (λ m. (m.task == task) ≡ false) (n ∷ names)
    by true same e more = let bad : Some n.name ≡ None = e in cc
    by false differs e more = All-cons (λ (m : Named). (m.task == task) ≡ false) n names differs (more e)

with_all : (P : Named → Type 0) (names : List Named) (task : ℕ) (name : List ℕ) → All P names → P (record { task = task; name = name })
    → All P (with_name names task name)
with_all P [] task name all one = All-cons P (record { task = task; name = name }) [] one (All-nil P)
with_all P (n ∷ names) task name all one = by (nat_lt task n.task) (with_all P names task name (All-tail P n names all) one)
  where
    by : (b : Bool) → All P (with_name names task name)
        → All P (if b then record { task = task; name = name } ∷ n ∷ names else n ∷ with_name names task name)
    by true more = All-cons P (record { task = task; name = name }) (n ∷ names) one all
    by false more = All-cons P n (with_name names task name) (All-head P n names all) more

-- one name more
one_given : (names : List Named) (task : ℕ) (name : List ℕ) → AreGivable names → IsGivable (record { task = task; name = name })
    → All (λ n. (n.task == task) ≡ false) names → All (λ n. bytes_eq name n.name ≡ false) names → AreGivable (with_name names task name)
unfolding AreGivable
one_given [] task name are is other free =
    (is, All-nil (λ (m : Named). task < m.task), All-nil (λ (m : Named). bytes_eq name m.name ≡ false), tt)
one_given (n ∷ names) task name are is other free =
    by (nat_lt task n.task) refl
    (one_given names task name are.3 is (All-tail (λ (m : Named). (m.task == task) ≡ false) n names other)
    (All-tail (λ (m : Named). bytes_eq name m.name ≡ false) n names free))
  where
    by : (b : Bool) → nat_lt task n.task ≡ b → AreGivable (with_name names task name)
        → AreGivable (if b then record { task = task; name = name } ∷ n ∷ names else n ∷ with_name names task name)
    by true less more =
        let low : task < n.task = grind (arith, nat_tests, less) in
        (is, All-cons (λ (m : Named). task < m.task) n names low (λ k d lt. omega (arith, low, are.1 k d lt)), free, are)
    by false not_less more =
        let differs : (n.task == task) ≡ false = All-head (λ (m : Named). (m.task == task) ≡ false) n names other in
        let low : n.task < task = grind (arith, nat_tests, not_less, differs) in
        let named : bytes_eq name n.name ≡ false = All-head (λ (m : Named). bytes_eq name m.name ≡ false) n names free in (
          are.0,
          with_all (λ (m : Named). n.task < m.task) names task name are.1 low,
          with_all (λ (m : Named). bytes_eq n.name m.name ≡ false) names task name are.2 (nat_list_eq_equiv.symm n.name name ∙ named),
          more,
        )

record IsTitled (p : Progress) : Type 0 where
  pub names : AreGivable p.names
  pub slot : IsLength p.slot

titled_behind : (said : Said) (c : Course) → IsTitled c.progress → CanBeWritten c.progress.opened c.progress.names said → IsTitled (course_behind c said).progress
titled_behind (Settings s) c t can = record { names = t.names; slot = t.slot }
titled_behind (Slot length) c t can = record { names = t.names; slot = can.1 }
titled_behind (Name task name) c t can = record {
  names = one_given c.progress.names task name t.names can.1.is (others c.progress.names task can.1.none) (apart c.progress.names name can.1.free);
  slot = t.slot;
}
titled_behind (Asks line label) c t can = record { names = t.names; slot = t.slot }

ended_told : (p : Progress) (origin : Origin) (fault : Option RecordFault) → IsTitled p → AreTold (ended p origin fault).titles
ended_told p origin None t = record { is_plan = refl; names = t.names; slot = t.slot }
ended_told p origin (Some fault) t = record { is_plan = refl; names = t.names; slot = t.slot }

told_from : (column : ℕ → ℕ) (rows : List Row) (c : Course) (n end : ℕ) → IsGood c → IsTitled c.progress → AreTold (plain_from column c n end rows).titles
told_from column [] c n end good t = ended_told c.progress (origin_at column n end) (end_fault c.progress) t
told_from column (row ∷ rows) c n end good t =
    by (said_at c.progress row.fields) (λ said is. said_written c.progress row.fields said good.progress is)
    (λ next is titled. told_from column rows next (n + 1) end is titled)
  where
    by : (r : Result Said RecordFault) → ((said : Said) → r ≡ Ok said → CanBeWritten c.progress.opened c.progress.names said)
        → ((next : Course) → IsGood next → IsTitled next.progress → AreTold (plain_from column next (n + 1) end rows).titles)
        → AreTold (plain_next (λ next. plain_from column next (n + 1) end rows) c (origin_at column n row.line) r).titles
    by (Err fault) can more = ended_told c.progress (origin_at column n row.line) (Some fault) t
    by (Ok said) can more = more (course_behind c said) (good_behind said c good (can said refl)) (titled_behind said c t (can said refl))

untold : IsTitled start.progress
unfolding AreGivable
untold = record { names = tt; slot = tt }

told_behind : (column : ℕ → ℕ) (fault : Option RecordFault) (line end : ℕ) (rows : List Row) → AreTold (plain_behind column fault line end rows).titles
told_behind column None line end rows = told_from column rows start 2 end good_start untold
told_behind column (Some fault) line end rows = ended_told start.progress (origin_at column 1 line) (Some fault) untold

of_rows : (column : ℕ → ℕ) (rs : List Row) (end : ℕ) (p : Plain) → plain_of column end rs ≡ Some p → AreTold p.titles
of_rows column [] end p e = let bad : None ≡ Some p = e in cc
of_rows column (row ∷ rows) end p e =
    let fault = heading_fault row.fields in
    by (is_plan_heading row.fields) (plain_behind column fault row.line end rows) (told_behind column fault row.line end rows) e
  where
    by : (b : Bool) (made : Plain) → AreTold made.titles → (if b then Some (with_heading column row.line made) else None) ≡ Some p → AreTold p.titles
    by true made are e =
        let same : with_heading column row.line made ≡ p = cc in
        subst (λ (q : Plain). AreTold q.titles) same are
    by false made are e = let bad : None ≡ Some p = e in cc

pub titles_are_told : TitlesAreTold
titles_are_told bytes p e = of_rows (first_column bytes) (rows bytes).rows (rows bytes).end p e
