-- A script of version 2 that is being written.
use Rattle.std.specs.Prelude.{ℕ, ◌≡◌, map, [], ◌∷◌, ◌++◌}
use Rattle.pf_text.specs.Page.{table_text}
use Rattle.pf_script.specs.declared.plan.said.Said.{Said}
use Rattle.pf_script.specs.Plan.Progress.{progress_after}
use Rattle.pf_plain_script.specs.declared.origin.Origin.{Origin}
use Rattle.pf_plain_script.specs.declared.plain.PlainScript.{PlainScript}
use Rattle.pf_plain_script.specs.declared.writer.PlainWriter.{PlainWriter}
use Rattle.pf_plain_script.specs.Plain.{Course, Plain, course_behind, start}
use Rattle.pf_plain_script.specs.Written.{heading_fields, said_records}

abbrev pub course_of : PlainWriter → Course
course_of w = record { progress = w.progress; desk = w.desk }

-- it has the heading alone, which stands there
pub record IsFresh (origin : Origin) (w : PlainWriter) : Type 0 where
  pub course : course_of w ≡ start
  pub fields : w.table.fields ≡ []
  pub text : w.table.text ≡ table_text (heading_fields ∷ [])
  pub origins : w.origins.items ≡ origin ∷ []

-- the records of what was said were added, and it was noted
pub record HasTaken (origin : Origin) (said : Said) (old new : PlainWriter) : Type 0 where
  pub course : course_of new ≡ course_behind (course_of old) said
  pub fields : new.table.fields ≡ []
  pub text : new.table.text ≡ old.table.text ++ table_text (said_records said)
  pub origins : new.origins.items ≡ old.origins.items ++ map (λ fields. origin) (said_records said)

-- the records of what was said were added, whose event was given this number where it has a label
pub record HasWritten (origin : Origin) (said : Said) (number : ℕ) (old new : PlainWriter) : Type 0 where
  pub progress : new.progress ≡ old.progress
  pub course : record { progress = progress_after old.progress said number; desk = new.desk } ≡ course_behind (course_of old) said
  pub fields : new.table.fields ≡ []
  pub text : new.table.text ≡ old.table.text ++ table_text (said_records said)
  pub origins : new.origins.items ≡ old.origins.items ++ map (λ fields. origin) (said_records said)

-- what it has, and then this, is the whole
pub record IsAhead (w : PlainWriter) (p whole : Plain) : Type 0 where
  pub fields : w.table.fields ≡ []
  pub text : w.table.text ++ table_text p.records ≡ table_text whole.records
  pub origins : w.origins.items ++ p.origins ≡ whole.origins
  pub titles : p.titles ≡ whole.titles
  pub bad : p.bad ≡ whole.bad
  pub last : p.last ≡ whole.last

-- what it has, and then this, was written
pub record Ends (w : PlainWriter) (p : Plain) (s : PlainScript) : Type 0 where
  pub text : s.text.items ≡ w.table.text ++ table_text p.records
  pub origins : s.origins.items ≡ w.origins.items ++ p.origins
  pub titles : s.titles ≡ p.titles
  pub bad : s.bad ≡ p.bad
  pub last : s.last ≡ p.last
