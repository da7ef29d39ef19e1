-- The tasks that a list has, where tasks have names.
use Rattle.std.specs.Prelude.{ℕ, if◌then◌else◌, is_none, option_map, Option, None, Some, List, [], ◌∷◌}
use Rattle.std.specs.List.{filter_map}
use Rattle.pf_vocabulary.specs.Names.Names.{task_of}
use Rattle.pf_vocabulary.specs.declared.names.named.Named.{Named}
use Rattle.pf_vocabulary.specs.declared.tasks.task_range.TaskRange.{TaskRange}
use Rattle.pf_vocabulary.specs.declared.task_words.task_word.TaskWord.{TaskWord}
use Rattle.pf_vocabulary.specs.declared.task_words.task_word.TaskWord.TheVariants as word

abbrev pub one_task : ℕ → TaskRange
one_task task = record { first = task; last = task }

-- the tasks of an item; none where its name is that of no task
abbrev pub range_of : List Named → TaskWord → Option TaskRange
range_of names (word.Numbers range) = Some range
range_of names (word.Named name) = option_map one_task (task_of names name)

-- those of a list
abbrev pub ranges_of : List Named → List TaskWord → List TaskRange
ranges_of names words = filter_map (range_of names) words

-- the first name in a list that is that of no task, before those of the others
abbrev pub unnamed_or : List Named → TaskWord → Option (List ℕ) → Option (List ℕ)
unnamed_or names (word.Numbers range) others = others
unnamed_or names (word.Named name) others = if is_none (task_of names name) then Some name else others

abbrev pub unnamed_in : List Named → List TaskWord → Option (List ℕ)
unnamed_in names [] = None
unnamed_in names (word ∷ words) = unnamed_or names word (unnamed_in names words)
