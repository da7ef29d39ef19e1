-- What `fit` answers to the script that a conversion writes.
use Rattle.std.specs.Prelude.{◌≡◌, ◌⊎◌, ℕ, Bool, Some, List}
use Rattle.pf_convert.specs.declared.words.conversion.Conversion.{Conversion}
use Rattle.pf_convert.specs.declared.words.conversion.ConvertFormat.TheVariants.{Script}
use Rattle.pf_convert.specs.Words.Reading.{IsConversion}
use Rattle.pf_convert.specs.Conversion.Conversions.{MakesConversion}
use Rattle.pf_script_laws.specs.Conversions.Written.{AreSome, WritesNothing}
use Rattle.pf_vocabulary.specs.declared.fault.answer.Answer.{Answer}
use Rattle.pf_fit_command.specs.Fit.{FitMade}
use Rattle.pf_vocabulary.specs.declared.options.fit_format.FitFormat.{FitFormat}
use Rattle.pf_vocabulary.specs.declared.names.titles.Titles.{Titles}
use Rattle.pf_plain_script.specs.Plain.{Plain, plain}
use Rattle.pf_text.specs.Page.{table_text}

-- the text is a plan, and `fit` of the script of version 2 that belongs to it ends as `a` does
pub record IsFitAlike (a : Answer) : Type 0 where
  pub script : Plain
  pub is : plain a.text.items ≡ Some script
  pub alike : (format : FitFormat) (file : List ℕ) (hints : Bool) (titles : Titles) (answer : Answer)
      → FitMade format file hints (Some script.origins) titles (table_text script.records) answer → answer.ending.status ≡ a.ending.status

-- Of the script that is made of a list `fit` says what the conversion says, whatever the list.
abbrev pub ConvertAndFitAgree : Type 0
ConvertAndFitAgree =
    (name : List ℕ) (c : Conversion) (list : List ℕ) (a : Answer) → IsConversion c → AreSome c.processors → c.format ≡ Script → MakesConversion name c list a
    → WritesNothing a ⊎ IsFitAlike a
