-- Two scripts that words name.
use Rattle.std.proofs.Common.{◌≡◌, ◌∙◌, ℕ, ap, refl, Bool, true, not, Option, Some, None, Result, Ok, Err}
use Rattle.std.specs.Prelude.{String, is_some}
use Rattle.std.specs.declared.alloc.Global.{Global}
use Rattle.clap.specs.Words.{Text}
use Rattle.pf_vocabulary.specs.declared.options.diff_options.DiffOptions.{DiffOptions}
use Rattle.pf_arguments.specs.declared.mistake.Mistake.{Mistake}
use Rattle.pf_arguments.specs.declared.mistake.Mistake.TheVariants.{InputTwice, SinceOfTwo}
use Rattle.pf_arguments.specs.Asked.{name_of}
use Rattle.pf_arguments.specs.Diffs.{PairNames, pair_given, pair_named}

-- Use: a record of theirs is told apart.
pub since_of_two : (since : Result (Option ℕ) Mistake) (pair : Result PairNames Mistake) (number : ℕ) → since ≡ Ok (Some number)
    → pair_given since pair ≡ Err SinceOfTwo
since_of_two since pair number is = rw is refl

-- Use: both are standard input.
pub two_inputs : (options : DiffOptions) (first second : Option (String Global)) (one other : Option Text) (a b : Bool) → name_of first ≡ one
    → name_of second ≡ other → is_some first ≡ not a → a ≡ true → is_some second ≡ not b → b ≡ true → pair_named options one other ≡ Err InputTwice
two_inputs options None None one other a b named others first a_is second b_is = rw (← named, ← others) refl
two_inputs options (Some f) second one other a b named others first a_is rest b_is = let e : true ≡ not true = first ∙ ap not a_is in cc
two_inputs options None (Some s) one other a b named others first a_is rest b_is = let e : true ≡ not true = rest ∙ ap not b_is in cc
