-- The names of a plan's script, one after the other.
use Rattle.std.proofs.Common.{◌≡◌, ◌<◌, ◌≤◌, ◌+◌, ◌==◌, ℕ, Bool, true, false, None, Some, Ok, List, [], ◌∷◌, ◌++◌, All, length, ap, arith, refl, subst, sym}
use Rattle.std.specs.Prelude.{nat_lt}
use Rattle.std.specs.Str.{bytes_eq}
use Rattle.std.proofs.lemmas.Bool.Decides.{nat_tests}
use Rattle.std.proofs.lemmas.List.Elements.{All-append, All-cons, All-head, All-tail}
use Rattle.pf_vocabulary.specs.Names.Names.{name_of, task_of, with_name}
use Rattle.pf_vocabulary.specs.Names.Text.{is_text}
use Rattle.pf_vocabulary.specs.declared.names.named.Named.{Named}
use Rattle.pf_script.specs.Fields.{is_word}
use Rattle.pf_convert.specs.declared.list.listed.Listed.{Listed}
use Rattle.pf_script.specs.declared.plan.fault.Reason.TheVariants.{NoNumber}
use Rattle.pf_script.specs.declared.plan.said.Said.{Said}
use Rattle.pf_script.specs.declared.plan.said.Said.TheVariants.{Name}
use Rattle.pf_script.specs.declared.plan.state.Progress.{Progress}
use Rattle.pf_script.specs.Plan.Parsing.{free_name_at, name_at, nameless_at, record_at, said_at}
use Rattle.pf_script.specs.Plan.Progress.{progress_after}
use Rattle.pf_script_laws.specs.Conversions.Records.{each_numbered, name_record}
use Rattle.pf_script_laws.specs.Conversions.Read.{AllSay, AreNames, name_said}
use Rattle.pf_script_laws.proofs.ConversionsLemmas.Numbers.{number_inside}

-- the names so far are of tasks below a number, and none of them is that of one of these
pub record AreGiven (number : ℕ) (tasks : List Listed) (names : List Named) : Type 0 where
  pub below : All (λ n. n.task < number) names
  pub free : All (λ t. task_of names t.name ≡ None) tasks

name_says : (p : Progress) (number : ℕ) (task : Listed) → p.opened ≡ true → 1 ≤ number → number ≤ 4095 → is_text task.name ≡ true
    → name_of p.names number ≡ None → task_of p.names task.name ≡ None → said_at p (name_record number task) ≡ Ok (name_said number task)
unfolding record_at name_at nameless_at free_name_at is_word
name_says p number task opened some most text none free =
    rw (opened, number_inside NoNumber (name_record number task) 1 4095 number refl (omega (arith, most)) some most, none, text, free) refl

-- a task above those that have names has none
pub none_below : (names : List Named) (number : ℕ) → All (λ n. n.task < number) names → name_of names number ≡ None
none_below [] number below = refl
none_below (n ∷ names) number below =
    let less : n.task < number = All-head (λ m. m.task < number) n names below in
    let other : (n.task == number) ≡ false = grind (arith, nat_tests, less) in
    rw other (none_below names number (All-tail (λ m. m.task < number) n names below))

-- and its name comes after theirs
pub named_last : (names : List Named) (number : ℕ) (name : List ℕ) → All (λ n. n.task < number) names
    → with_name names number name ≡ names ++ record { task = number; name = name } ∷ []
named_last [] number name below = refl
named_last (n ∷ names) number name below =
    let less : n.task < number = All-head (λ m. m.task < number) n names below in
    let before : nat_lt number n.task ≡ false = grind (arith, nat_tests, less) in
    rw before (ap (λ (t : List Named). n ∷ t) (named_last names number name (All-tail (λ m. m.task < number) n names below)))

pub still_free : (names : List Named) (m : Named) (name : List ℕ) → task_of names name ≡ None → bytes_eq m.name name ≡ false
    → task_of (names ++ m ∷ []) name ≡ None
still_free [] m name none other = rw other refl
still_free (n ∷ names) m name none other = by (bytes_eq n.name name) refl (λ k. still_free names m name k other)
  where
    by : (b : Bool) → bytes_eq n.name name ≡ b → (task_of names name ≡ None → task_of (names ++ m ∷ []) name ≡ None)
        → task_of ((n ∷ names) ++ m ∷ []) name ≡ None
    by true same more = let bad : Some n.task ≡ None = rw same at none in cc
    by false differs more = rw differs (more (rw differs at none))

all_free : (tasks : List Listed) (names : List Named) (m : Named) → All (λ t. task_of names t.name ≡ None) tasks
    → All (λ t. bytes_eq m.name t.name ≡ false) tasks → All (λ t. task_of (names ++ m ∷ []) t.name ≡ None) tasks
all_free tasks names m free apart k d lt = still_free names m _ (free k d lt) (apart k d lt)

below_next : (names : List Named) (number : ℕ) (name : List ℕ) → All (λ n. n.task < number) names
    → All (λ n. n.task < number + 1) (names ++ record { task = number; name = name } ∷ [])
below_next names number name below =
    All-append (λ n. n.task < number + 1) names (record { task = number; name = name } ∷ [])
    (λ k d lt. omega (arith, below k d lt))
    (All-cons (λ n. n.task < number + 1) (record { task = number; name = name }) [] (omega arith) (λ k d lt. absurd (omega (arith, lt))))

-- after the name of one task the others can be given
given_next : (number : ℕ) (task : Listed) (tasks : List Listed) (names : List Named) → All (λ other. bytes_eq task.name other.name ≡ false) tasks
    → AreGiven number (task ∷ tasks) names → AreGiven (number + 1) tasks (with_name names number task.name)
given_next number task tasks names apart given =
    subst (λ (ns : List Named). AreGiven (number + 1) tasks ns) (sym (named_last names number task.name given.below)) (record {
      below = below_next names number task.name given.below;
      free = all_free tasks names (record { task = number; name = task.name }) (All-tail (λ t. task_of names t.name ≡ None) task tasks given.free) apart;
    })

-- the names of tasks, and what follows them
pub names_say : (p : Progress) (number : ℕ) (tasks : List Listed) (records : List (List (List ℕ))) (saids : List Said) → p.opened ≡ true → 1 ≤ number
    → number + length tasks ≤ 4096 → AreNames tasks → AreGiven number tasks p.names → ((q : Progress) → q.opened ≡ true → AllSay q records saids)
    → AllSay p (each_numbered name_record number tasks ++ records) (each_numbered name_said number tasks ++ saids)
unfolding AllSay each_numbered AreNames
names_say p number [] records saids opened some few names given more = more p opened
names_say p number (task ∷ tasks) records saids opened some few names given more = (
  name_says p number task opened some (omega (arith, few)) names.0 (none_below p.names number given.below)
      (All-head (λ t. task_of p.names t.name ≡ None) task tasks given.free),
  names_say (progress_after p (Name number task.name) 0) (number + 1) tasks records saids opened (omega arith) (omega (arith, few)) names.2
      (given_next number task tasks p.names names.1 given) more,
)

-- no name is given at first
pub none_given : (tasks : List Listed) → AreGiven 1 tasks []
none_given tasks = record { below = λ k d lt. absurd (omega (arith, lt)); free = λ k d lt. refl }
