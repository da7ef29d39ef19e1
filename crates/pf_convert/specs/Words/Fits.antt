-- What the words of a fit ask for.
use Rattle.std.specs.Prelude.{ℕ, if◌then◌else◌, is_some, Option, None, Some, Result, Ok, Err, List, codes}
use Rattle.pf_vocabulary.specs.declared.options.fit_format.FitFormat.{FitFormat}
use Rattle.pf_convert.specs.List.Times.{◌>>=◌}
use Rattle.pf_convert.specs.declared.words.fit_asked.FitAsked.{FitAsked}
use Rattle.pf_convert.specs.declared.words.list_word.ListWord.{ListWord}
use Rattle.pf_convert.specs.declared.words.list_word.ListWord.TheVariants.{Quantum, Processors, Switch, Unit, Arrivals}
use Rattle.pf_convert.specs.declared.words.mistake.ConvertMistake.{ConvertMistake}
use Rattle.pf_convert.specs.declared.words.mistake.ConvertMistake.TheVariants.{FitFormat as BadFormat}
use Rattle.pf_convert.specs.Words.Reading.{ConvertTexts, conversion_of}

-- the first word that is given and is for a list alone
abbrev pub first_word : ConvertTexts → Option ListWord
first_word t =
    if is_some t.quantum then Some Quantum
    else if is_some t.processors then Some Processors
    else if is_some t.switch then Some Switch
    else if is_some t.unit then Some Unit
    else if is_some t.arrivals then Some Arrivals
    else None

abbrev pub word_line : ListWord → List ℕ
word_line Quantum = codes "--quantum is for a list of tasks\n"
word_line Processors = codes "--processors is for a list of tasks\n"
word_line Switch = codes "--switch is for a list of tasks\n"
word_line Unit = codes "--unit is for a list of tasks\n"
word_line Arrivals = codes "--arrivals is for a list of tasks\n"

-- what these texts ask for, where `--format` names this format, or the first of them that is mistaken
unfoldable pub fit_of : Option FitFormat → ConvertTexts → Result FitAsked ConvertMistake
fit_of None t = Err BadFormat
fit_of (Some format) t = do
  conversion ← conversion_of (record t { format = None })
  Ok (record { format = format; conversion = conversion; list_word = first_word t })
