-- What clap's answer says of the words.
use Rattle.std.proofs.Common.{◌≡◌, ◌⊎◌, ◌∙◌, refl, sym, ap, subst, inl, inr, Bool, true, false, option_map, List, [], ◌∷◌, Option, Some, None, Result, Ok, Err, arith, codes, length}
use Rattle.std.specs.Prelude.{◌↔◌, IfOk, if◌then◌else◌, string_bytes}
use Rattle.std.specs.declared.alloc.AllocError.{AllocError}
use Rattle.clap.specs.Walk.{is_empty}
use Rattle.std.specs.Bool.{Decides}
use Rattle.std.specs.Str.{bytes_eq}
use Rattle.std.proofs.lemmas.Bool.{ne_eqb}
use Rattle.std.proofs.lemmas.Slice.Eq.{bytes_eq-Decides}
use Rattle.clap.proofs.OnLiterals.{clap_on_literals}
use Rattle.clap.specs.Words.{IsAmong, Kinds, Row, Text, fault_of, first_of, is_simple, is_simple_and_free, subcommand_of}
use Rattle.clap.specs.declared.error.kind.ErrorKind.{ErrorKind}
use Rattle.clap.specs.declared.error.kind.ErrorKind.TheVariants.{DisplayHelp, DisplayVersion, OutOfMemory}
use Rattle.pf_arguments.specs.declared.request.Request.{Request}
use Rattle.pf_arguments.specs.declared.request.Request.TheVariants.{Do, Compare, Sit, Show}
use Rattle.pf_arguments.specs.declared.request.WordsFault.{WordsFault}
use Rattle.pf_arguments.specs.declared.request.WordsFault.TheVariants.{Refused, Mistaken, NoMemory}
use Rattle.pf_arguments.specs.CommandLine.{any_behind, is_named, kinds_of, program, text_behind}
use Rattle.pf_arguments.specs.Help.{topic_asked, topic_named}
use Rattle.pf_arguments.specs.Outputs.{output_asked, output_found, output_named}
use Rattle.pf_arguments.specs.declared.output_words.OutputWords.{OutputWords}
use Rattle.pf_arguments.specs.Asked.{AsksHelp, IsAsked, IsHelpText, IsMistakeText, IsRequest, IsShown, IsShownTo, IsTextOf, ShowsError, desk_asked, desk_found, file_asked, file_found, mistake_found, pair_asked, pair_found, task_asked, task_found, telling_asked, telling_of}

-- one function after another over what may be there
pub option_map-option_map : {X Y Z : Type 0} (f : Y → Z) (g : X → Y) (o : Option X) → option_map f (option_map g o) ≡ option_map (λ x. f (g x)) o
option_map-option_map f g None = refl
option_map-option_map f g (Some x) = refl

-- where the subcommand has this name, the text is that of its rows
pub behind_named : (name option : Text) (found : Option (Text × List Row)) (rows : List Row) → option_map (λ p. p.0) found ≡ Some name
    → option_map (λ p. p.1) found ≡ Some rows → first_of option rows ≡ text_behind name option found
behind_named name option None rows named here = cc
behind_named name option (Some p) rows named here =
    let is_name : p.0 ≡ name = cc in
    let same : bytes_eq p.0 name ≡ true = (bytes_eq-Decides p.0 name).1 is_name in
    let is_rows : p.1 ≡ rows = cc in
    rw (same, is_rows) refl

-- whichever that is, the text is that of its rows
pub behind_any : (option : Text) (found : Option (Text × List Row)) (rows : List Row) → option_map (λ p. p.1) found ≡ Some rows
    → first_of option rows ≡ any_behind option found
behind_any option None rows here = cc
behind_any option (Some p) rows here =
    let is_rows : p.1 ≡ rows = cc in
    rw is_rows refl

-- clap's definitions speak of this command line
pub program_is_simple : (is_simple program ≡ true) × (is_simple_and_free program ≡ true)
program_is_simple = (refl, refl)

-- the kinds of error by their definition
pub kinds_are : (words : List Text) → fault_of program words ≡ kinds_of words
unfolding kinds_of
kinds_are words = refl

-- what is asked for, by what clap found of a subcommand
taken_task : (words : List Text) (found : Option (Text × List Row)) → kinds_of words ≡ [] → found ≡ subcommand_of program words
    → task_asked words ≡ task_found found
unfolding task_asked
taken_task words found taken is = rw (taken, is) refl

-- the two scripts, by the same
taken_pair : (words : List Text) (found : Option (Text × List Row)) → kinds_of words ≡ [] → found ≡ subcommand_of program words
    → pair_asked words ≡ pair_found found
unfolding pair_asked
taken_pair words found taken is = rw (taken, is) refl

-- the session, by the same
taken_desk : (words : List Text) (found : Option (Text × List Row)) → kinds_of words ≡ [] → found ≡ subcommand_of program words
    → desk_asked words ≡ desk_found found
unfolding desk_asked
taken_desk words found taken is = rw (taken, is) refl

-- the file that is named, by the same
taken_file : (words : List Text) (found : Option (Text × List Row)) → kinds_of words ≡ [] → found ≡ subcommand_of program words
    → file_found found ≡ file_asked words
unfolding file_asked
taken_file words found taken is = rw (taken, is) refl

-- what is to be told, by the same
taken_telling : (words : List Text) (found : Option (Text × List Row)) → kinds_of words ≡ [] → found ≡ subcommand_of program words
    → telling_of found ≡ telling_asked words
unfolding telling_asked
taken_telling words found taken is = rw (taken, is) refl

-- words that the grammar takes
pub taken_words : (words : List Text) (found : Option (Text × List Row)) (answer : Result Request WordsFault) → kinds_of words ≡ []
    → found ≡ subcommand_of program words → IsRequest found answer → IsAsked words answer
taken_words words found (Ok (Do task file telling)) taken is asks =
    (taken_task words found taken is ∙ asks.0, asks.1 ∙ taken_file words found taken is, asks.2 ∙ taken_telling words found taken is)
taken_words words found (Ok (Compare pair telling)) taken is asks =
    (taken_task words found taken is ∙ asks.0, taken_pair words found taken is ∙ asks.1, asks.2 ∙ taken_telling words found taken is)
taken_words words found (Ok (Sit desk)) taken is asks =
    (taken_task words found taken is ∙ asks.0, taken_pair words found taken is ∙ asks.1, taken_desk words found taken is ∙ asks.2)
taken_words words found (Ok (Show text)) taken is asks = absurd asks
taken_words words found (Err (Refused text)) taken is asks = absurd asks
taken_words words found (Err (Mistaken text)) taken is asks =
    (asks.0, (taken, ap mistake_found (sym is) ∙ asks.1), subst (λ (f : Option (Text × List Row)). IsMistakeText f asks.0 text.items) is asks.2)
taken_words words found (Err NoMemory) taken is asks = tt

-- whether the subcommand has this name
pub has_name : (name : Text) (found : Option (Text × List Row)) (here : Bool) → ((here ≡ true) ↔ (option_map (λ p. p.0) found ≡ Some name))
    → here ≡ is_named name found
has_name name None here named = by here named
  where
    by : (b : Bool) → ((b ≡ true) ↔ (option_map (λ (p : Text × List Row). p.0) None ≡ Some name)) → b ≡ false
    by true named = let never : None ≡ Some name = named.0 refl in cc
    by false named = refl
has_name name (Some p) here named = by here (is_named name (Some p)) named (bytes_eq-Decides p.0 name)
  where
    by : (b c : Bool) → ((b ≡ true) ↔ (Some p.0 ≡ Some name)) → Decides c (p.0 ≡ name) → b ≡ c
    by true true named tells = refl
    by false false named tells = refl
    by true false named tells = let same : p.0 ≡ name = let e = named.0 refl in cc in sym (tells.1 same)
    by false true named tells = named.1 (ap (λ (t : Text). Some t) (tells.0 refl))

-- running out of memory shows nothing
not_shown : (kind : ErrorKind) → kind ≡ OutOfMemory → ¬ IsShown kind
not_shown kind memory (inl help) = cc
not_shown kind memory (inr version) = cc

-- who is shown a text asked for help or the version
kind_shown : (kind : ErrorKind) (words : List Text) (text : Text) → IsTextOf (kind ≡ DisplayHelp) (kind ≡ DisplayVersion) None words text → IsShown kind
kind_shown kind words text (inl help) = inl help.0
kind_shown kind words text (inr version) = inr version.0

-- the kinds of error that `help` has are those of its first word
pub help_asked : (words : List Text) → AsksHelp (codes "help" ∷ words)
unfolding clap_on_literals kinds_of
help_asked words = inl refl

-- words that ask for a topic begin with `help`
topic_after : (first : Text) (words : List Text) (topic : Option Text) (text : Text)
    → (if bytes_eq first (codes "help") then topic else None) ≡ Some text → first ≡ codes "help"
topic_after first words topic text is = by (bytes_eq first (codes "help")) (bytes_eq-Decides first (codes "help")) is
  where
    by : (b : Bool) → Decides b (first ≡ codes "help") → (if b then topic else None) ≡ Some text → first ≡ codes "help"
    by true tells e = tells.0 refl
    by false tells e = cc

-- Use: words that ask for a topic ask for help, which is its text.
pub topic_shown : (words : List Text) (topic text : Text) → topic_asked words ≡ Some topic → text ≡ topic → IsShownTo words text
unfolding topic_asked
topic_shown [] topic text asks is = cc
topic_shown (first ∷ []) topic text asks is = cc
topic_shown (first ∷ second ∷ []) topic text asks is =
    let help = topic_after first (second ∷ []) (topic_named second) topic asks in
    let asks_help : AsksHelp (first ∷ second ∷ []) = subst (λ (f : Text). AsksHelp (f ∷ second ∷ [])) (sym help) (help_asked (second ∷ [])) in
    inl (asks_help, subst (λ (o : Option Text). IsHelpText o (first ∷ second ∷ []) text) (sym asks) is)
topic_shown (first ∷ second ∷ third ∷ words) topic text asks is = cc

-- words that it does not take, by the kind of its error
pub untaken_words : (words : List Text) (kind : ErrorKind) (answer : Result Request WordsFault)
    → (kind ≡ OutOfMemory) ⊎ IsAmong kind (kinds_of words) → topic_asked words ≡ None → ShowsError words kind answer → IsAsked words answer
untaken_words words kind (Ok (Do task file telling)) among no_topic shows = absurd shows
untaken_words words kind (Ok (Compare pair telling)) among no_topic shows = absurd shows
untaken_words words kind (Ok (Sit desk)) among no_topic shows = absurd shows
untaken_words words kind (Ok (Show text)) among no_topic shows = elim among [
  | inl memory ↦ absurd (not_shown kind memory (kind_shown kind words (string_bytes text) shows))
  | inr here ↦ elim shows [
    | inl help ↦ inl (
      subst (λ (k : ErrorKind). IsAmong k (kinds_of words)) help.0 here,
      subst (λ (o : Option Text). IsHelpText o words (string_bytes text)) (sym no_topic) help.1,
    )
    | inr version ↦ inr (subst (λ (k : ErrorKind). IsAmong k (kinds_of words)) version.0 here, version.1)
  ]
]
untaken_words words kind (Err (Refused text)) among no_topic shows = elim among [
  | inl memory ↦ absurd (shows.0 memory)
  | inr here ↦ ((kind, shows.1, here, no_topic), shows.2)
]
untaken_words words kind (Err (Mistaken line)) among no_topic shows = absurd shows
untaken_words words kind (Err NoMemory) among no_topic shows = tt

-- Use: the file for the answer, of words that the grammar takes, ..
pub output_taken : (words : List Text) (found : Option (Text × List Row)) (made : Result (Option OutputWords) AllocError) → kinds_of words ≡ []
    → found ≡ subcommand_of program words → IfOk made (λ o. output_named o ≡ output_found found) → IfOk made (λ o. output_named o ≡ output_asked words)
unfolding output_asked
output_taken words found (Ok output) taken is named = rw (taken, sym is) named
output_taken words found (Err fault) taken is named = tt

some_kinds : (kind : ErrorKind) (kinds : Kinds) → IsAmong kind kinds → is_empty kinds ≡ false
some_kinds kind [] among = absurd among
some_kinds kind (k ∷ kinds) among = ne_eqb (length (k ∷ kinds)) 0 (λ e. absurd (omega (arith, e)))

-- .. and of others.
pub output_untaken : (words : List Text) (kind : ErrorKind) → (kind ≡ OutOfMemory) ⊎ IsAmong kind (kinds_of words) → (kind ≡ OutOfMemory → ⊥) → None ≡ output_asked words
unfolding output_asked
output_untaken words kind (inl memory) other = absurd (other memory)
output_untaken words kind (inr among) other = rw (some_kinds kind (kinds_of words) among) refl
