-- The names of tasks, in the order of the tasks.
use Rattle.std.specs.Prelude.{⊤, ℕ, ◌≡◌, ◌==◌, nat_lt, if◌then◌else◌, List, [], ◌∷◌, Option, None, Some, Result, Ok, Err}
use Rattle.std.specs.List.{insert}
use Rattle.std.specs.Str.{bytes_eq}
use Rattle.pf_vocabulary.specs.declared.names.fault.NameFault.{NameFault}
use Rattle.pf_vocabulary.specs.declared.names.fault.NameFault.TheVariants.{HasName, IsOf, NoMemory}
use Rattle.pf_vocabulary.specs.declared.names.named.Named.{Named}

-- the name of a task
abbrev pub name_of : List Named → ℕ → Option (List ℕ)
name_of [] task = None
name_of (named ∷ names) task = if named.task == task then Some named.name else name_of names task

-- the task with a name
abbrev pub task_of : List Named → List ℕ → Option ℕ
task_of [] name = None
task_of (named ∷ names) name = if bytes_eq named.name name then Some named.task else task_of names name

-- these names and one more, in the place of its task
abbrev pub with_name : List Named → ℕ → List ℕ → List Named
with_name [] task name = record { task = task; name = name } ∷ []
with_name (named ∷ names) task name =
    if nat_lt task named.task then record { task = task; name = name } ∷ named ∷ names else named ∷ with_name names task name

-- at this place
abbrev pub Goes : List Named → ℕ → ℕ → Type 0
Goes names task place = (name : List ℕ) → insert names place (record { task = task; name = name }) ≡ with_name names task name

-- why a task is not given a name: it has one, or the name has a task
abbrev pub taken_by : Option ℕ → Option NameFault
taken_by None = None
taken_by (Some task) = Some (IsOf task)

abbrev pub fault_unless : Option (List ℕ) → Option NameFault → Option NameFault
fault_unless None fault = fault
fault_unless (Some name) fault = Some HasName

abbrev pub name_fault : List Named → ℕ → List ℕ → Option NameFault
name_fault names task name = fault_unless (name_of names task) (taken_by (task_of names name))

-- A name was given to a task, or there is this fault and the names are as before.
abbrev pub Gives : Result ⊤ NameFault → ℕ → List ℕ → List Named → List Named → Type 0
Gives (Ok done) task name old new = (name_fault old task name ≡ None) × (new ≡ with_name old task name)
Gives (Err NoMemory) task name old new = new ≡ old
Gives (Err fault) task name old new = (name_fault old task name ≡ Some fault) × (new ≡ old)
