-- What a list is answered with that words ask to be made into something.
use Rattle.std.specs.Prelude.{ℕ, ◌≡◌, List, [], ◌∷◌}
use Rattle.pf_convert.specs.declared.words.conversion.Conversion.{Conversion}
use Rattle.pf_convert.specs.declared.words.conversion.ConvertFormat.{ConvertFormat}
use Rattle.pf_convert.specs.declared.words.conversion.ConvertFormat.TheVariants.{Script, Table, Json}
use Rattle.pf_convert.specs.declared.conversion.list_file.ListFile.{ListFile}
use Rattle.pf_convert.specs.declared.conversion.planned.Planned.{Planned}
use Rattle.pf_convert.specs.declared.list.heading.Heading.{Heading}
use Rattle.pf_convert.specs.declared.list.listed.Listed.{Listed}
use Rattle.pf_convert.specs.declared.terms.Terms.{Terms}
use Rattle.pf_vocabulary.specs.declared.fault.answer.Answer.{Answer}
use Rattle.pf_vocabulary.specs.declared.names.unit.Unit.{Unit}
use Rattle.pf_convert.specs.Conversion.Answers.{IsJsonAnswer, IsScriptAnswer, IsTableAnswer, IsTold}
use Rattle.pf_convert.specs.Conversion.Series.{ArePlannedFor}
use Rattle.pf_convert.specs.List.List.{ListTold, list_told}
use Rattle.pf_convert.specs.List.Messages.{Told, messages_text}
use Rattle.pf_convert.specs.List.Units.{shown_unit}

-- what plans are made under
abbrev pub terms_of : Conversion → Terms
terms_of c = record { arrivals = c.arrivals; switch = c.switch; processors = c.processors }

-- the file of a list with this name and these bytes
pub record IsListFile (file list : List ℕ) (h : Heading) (shown : Unit) (f : ListFile) : Type 0 where
  pub name : f.name.now ≡ file
  pub text : f.text.now ≡ list
  pub heading : f.heading ≡ h
  pub unit : f.unit ≡ shown

abbrev pub IsAnswerIn : ConvertFormat → ListFile → Conversion → List Listed → List Planned → Answer → Type 0
IsAnswerIn Script f c tasks all a = IsScriptAnswer f (terms_of c) c.quanta tasks all a
IsAnswerIn Table f c tasks all a = IsTableAnswer f (terms_of c) tasks all a
IsAnswerIn Json f c tasks all a = IsJsonAnswer f (terms_of c) tasks all a

-- what the quanta give, in the format that is asked for
pub record IsAnswerOf (name list : List ℕ) (c : Conversion) (told : ListTold) (a : Answer) : Type 0 where
  pub file : ListFile
  pub is_file : IsListFile name list told.heading (shown_unit c.unit told.tasks) file
  pub all : List Planned
  pub planned : ArePlannedFor (terms_of c) c.quanta told.tasks all
  pub answers : IsAnswerIn c.format file c told.tasks all a

-- the answer of what a list tells: the messages of its faults, or what the quanta give its tasks
abbrev pub AnswersList : List ℕ → List ℕ → Conversion → ListTold → List Told → Answer → Type 0
AnswersList name list c told [] a = IsAnswerOf name list c told a
AnswersList name list c told (fault ∷ faults) a = IsTold (messages_text name list (fault ∷ faults)) a

-- a list of these bytes, in a file of this name, is made into what is asked for
abbrev pub MakesConversion : List ℕ → Conversion → List ℕ → Answer → Type 0
MakesConversion name c list a = AnswersList name list c (list_told name c.unit list) (list_told name c.unit list).faults a
