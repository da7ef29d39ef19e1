-- The data of a page stands in an element `script`, where a `<` alone can end the element or begin a comment.
use Rattle.std.specs.Prelude.{ℕ, Bool, true, not, ◌==◌, ◌≡◌, None, Some, List, [], All}
use Rattle.std.specs.List.{list_all}
use Rattle.pf_desk.specs.Desk.{Seen}
use Rattle.pf_vocabulary.specs.Names.Text.{is_text}
use Rattle.pf_vocabulary.specs.Names.Titled.{untitled}
use Rattle.pf_vocabulary.specs.declared.names.named.Named.{Named}
use Rattle.pf_vocabulary.specs.declared.names.titles.Titles.{Titles}
use Rattle.pf_full.specs.Full.{full_text}
use Rattle.pf_full.specs.declared.refusal.Refusal.{Refusal}
use Rattle.pf_text.specs.Page.{table_text}
use Rattle.pf_page.specs.Page.{page_text}
use Rattle.pf_vocabulary.specs.declared.options.format.Format.TheVariants.{Html}
use Rattle.pf_plain_script.specs.Plain.{Plain, plain}
use Rattle.pf_commands.specs.Meaning.{End, Done, BadRecord, TooLong, Outside, Meaning, script_meaning}

-- no byte is `<`
abbrev pub is_inert : List ℕ → Bool
is_inert text = list_all (λ byte. not (byte == 60)) text

-- names that a script may give
abbrev pub AreTexts : List Named → Type 0
AreTexts names = All (λ named. is_text named.name ≡ true) names

-- of tasks with such names all that a run tells is inert
abbrev pub DataIsInert : Type 0
DataIsInert =
    (every : ℕ) (titles : Titles) (refusals : List Refusal) (seen : Seen) → AreTexts titles.names
    → is_inert (full_text every titles refusals seen) ≡ true

-- a page around inert data
pub record IsInertPage (page : List ℕ) : Type 0 where
  pub run_data : List ℕ
  pub text : page ≡ page_text run_data
  pub inert : is_inert run_data ≡ true

-- such a page where a script ends well, else nothing
abbrev pub IsPageAtEnd : End → List ℕ → Type 0
IsPageAtEnd Done text = IsInertPage text
IsPageAtEnd (BadRecord number) text = text ≡ []
IsPageAtEnd TooLong text = text ≡ []
IsPageAtEnd (Outside fault) text = text ≡ []

abbrev pub MeansPage : Meaning → Type 0
MeansPage m = IsPageAtEnd m.end m.text

-- scripts of versions 1 and 2 of any bytes, and those of a plan, by the script of version 2 that belongs to them
pub record PagesAreInert : Type 0 where
  pub untitled : (script : List ℕ) → MeansPage (script_meaning Html untitled None script)
  pub titled : (script : List ℕ) (p : Plain) → plain script ≡ Some p
      → MeansPage (script_meaning Html p.titles (Some p.origins) (table_text p.records))
