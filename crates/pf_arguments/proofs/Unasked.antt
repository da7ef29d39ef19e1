-- Words that ask for no run.
use Rattle.std.proofs.Common.{◌≡◌, arith, Bool, true, false, refl, List, [], ◌∷◌, Option, Some, None, Result, Ok, Err}
use Rattle.std.specs.Prelude.{if◌then◌else◌}
use Rattle.std.proofs.lemmas.Bool.{ne_eqb}
use Rattle.clap.specs.Walk.{is_empty}
use Rattle.clap.specs.Words.{IsAmong, Kinds, Row, Text, subcommand_of}
use Rattle.clap.specs.declared.error.kind.ErrorKind.{ErrorKind}
use Rattle.pf_arguments.specs.CommandLine.{is_desk, kinds_of, program}
use Rattle.pf_arguments.specs.declared.mistake.Mistake.{Mistake}
use Rattle.pf_arguments.specs.Asked.{AreMistaken, desk_asked, desk_found, file_found, mistake_found, pair_asked, pair_found, pair_of, task_asked, task_found, task_of}
use Rattle.pf_arguments.specs.Desks.{DeskNames, desk_given}
use Rattle.pf_arguments.specs.Diffs.{PairNames, are_two}
use Rattle.pf_arguments.specs.declared.task.Task.{Task}
use Rattle.std.specs.Result.{result_err, result_ok}

-- where a kind may come, there is some
none_among : {A : Type 0} (kinds : Kinds) (kind : ErrorKind) (asked : Option A) → IsAmong kind kinds → (if is_empty kinds then asked else None) ≡ None
none_among [] kind asked here = absurd here
none_among (first ∷ rest) kind asked here =
    let some : is_empty (first ∷ rest) ≡ false = ne_eqb _ _ (λ e. omega (arith, e)) in
    rw some refl

-- words that the grammar may not take ask for nothing with one script, ..
pub untaken_asks_none : (words : List Text) (kind : ErrorKind) → IsAmong kind (kinds_of words) → task_asked words ≡ None
unfolding task_asked
untaken_asks_none words kind here = none_among (kinds_of words) kind (task_found (subcommand_of program words)) here

-- .. nor with two
pub untaken_asks_no_pair : (words : List Text) (kind : ErrorKind) → IsAmong kind (kinds_of words) → pair_asked words ≡ None
unfolding pair_asked
untaken_asks_no_pair words kind here = none_among (kinds_of words) kind (pair_found (subcommand_of program words)) here

-- .. nor for a session
pub untaken_asks_no_desk : (words : List Text) (kind : ErrorKind) → IsAmong kind (kinds_of words) → desk_asked words ≡ None
unfolding desk_asked
untaken_asks_no_desk words kind here = none_among (kinds_of words) kind (desk_found (subcommand_of program words)) here

-- what is mistaken is no task, ..
no_task : (found : Option (Text × List Row)) (mistake : Mistake) → mistake_found found ≡ Some mistake → task_found found ≡ None
no_task found mistake is = by (are_two found) (is_desk found) (pair_of found) (task_of found) is
  where
    by : (two sits : Bool) (pair : Result PairNames Mistake) (task : Result Task Mistake)
        → (if two then result_err pair else if sits then None else result_err task) ≡ Some mistake
        → (if two then None else if sits then None else result_ok task) ≡ None
    by true sits pair task e = refl
    by false true pair task e = refl
    by false false pair (Ok t) e = cc
    by false false pair (Err m) e = refl

-- .. and no two scripts
no_pair : (found : Option (Text × List Row)) (mistake : Mistake) → mistake_found found ≡ Some mistake → pair_found found ≡ None
no_pair found mistake is = by (are_two found) (pair_of found) (if is_desk found then None else result_err (task_of found)) is
  where
    by : (two : Bool) (pair : Result PairNames Mistake) (other : Option Mistake) → (if two then result_err pair else other) ≡ Some mistake
        → (if two then result_ok pair else None) ≡ None
    by false pair other e = refl
    by true (Ok p) other e = cc
    by true (Err m) other e = refl

-- .. and no session
no_desk : (found : Option (Text × List Row)) (mistake : Mistake) → mistake_found found ≡ Some mistake → desk_found found ≡ None
no_desk found mistake is = by (are_two found) (is_desk found) (result_err (pair_of found)) (result_err (task_of found)) (desk_given (file_found found) found) is
  where
    by : (two sits : Bool) (pair task : Option Mistake) (desk : DeskNames) → (if two then pair else if sits then None else task) ≡ Some mistake
        → (if two then None else if sits then Some desk else None) ≡ None
    by true sits pair task desk e = refl
    by false true pair task desk e = cc
    by false false pair task desk e = refl

-- words that are mistaken ask for nothing with one script, ..
pub mistaken_asks_none : (words : List Text) (mistake : Mistake) → AreMistaken words mistake → task_asked words ≡ None
unfolding task_asked
mistaken_asks_none words mistake are = rw are.0 (no_task (subcommand_of program words) mistake are.1)

-- .. nor with two
pub mistaken_asks_no_pair : (words : List Text) (mistake : Mistake) → AreMistaken words mistake → pair_asked words ≡ None
unfolding pair_asked
mistaken_asks_no_pair words mistake are = rw are.0 (no_pair (subcommand_of program words) mistake are.1)

-- .. nor for a session
pub mistaken_asks_no_desk : (words : List Text) (mistake : Mistake) → AreMistaken words mistake → desk_asked words ≡ None
unfolding desk_asked
mistaken_asks_no_desk words mistake are = rw are.0 (no_desk (subcommand_of program words) mistake are.1)
