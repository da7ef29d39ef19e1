-- What a file is, found in place of its messages.
use Rattle.std.proofs.Common.{◌≡◌, ◌<◌, ◌-◌, ◌^◌, ◌==◌, ℕ, Bool, true, false, List, [], ◌∷◌, append-nil, length, refl, sym, ap, ◌∙◌, arith}
use Rattle.std.specs.Prelude.{nat_le, nat_lt}
use Rattle.pf_script.specs.declared.check.found.Found.{Found}
use Rattle.pf_script.specs.declared.check.file_kind.FileKind.{FileKind}
use Rattle.pf_script.specs.Check.Faults.{faults_count, faults_text, message_text}
use Rattle.pf_script.specs.Check.Found.{Finds}
use Rattle.pf_script.specs.Check.Lines.{Lines, after_message, count_of, no_lines, text_of}
use Rattle.pf_script.specs.Check.Files.{has_record, kind_message}
use Rattle.pf_script.specs.PlanCheck.Checked.{first_fields, is_plan}
use Rattle.pf_script.specs.Fields.{is_word}
use Rattle.pf_script.specs.Plan.Heading.{is_plan_heading}
use Rattle.pf_text.specs.Rows.Rows.{Row, rows}

-- the one message, whatever the records are
text_is : (file : List ℕ) (hints : Bool) (kind : FileKind) (records : ℕ) (b : Bool) → nat_le 1 records ≡ b
    → text_of (after_message no_lines (kind_message file hints kind)) ≡ faults_text records (kind_message file hints kind ∷ [])
unfolding kind_message
text_is file hints kind records true e = rw e (sym (append-nil (message_text (kind_message file hints kind))))
text_is file hints kind records false e = rw e (sym (append-nil (message_text (kind_message file hints kind))))

count_is : (file : List ℕ) (hints : Bool) (kind : FileKind) (records : ℕ) (b : Bool) → nat_le 1 records ≡ b
    → count_of (after_message no_lines (kind_message file hints kind)) ≡ faults_count records (kind_message file hints kind ∷ [])
unfolding kind_message
count_is file hints kind records true e = rw e refl
count_is file hints kind records false e = rw e refl

clean_is : (file : List ℕ) (hints : Bool) (kind : FileKind) → (count_of (after_message no_lines (kind_message file hints kind)) == 0) ≡ false
unfolding kind_message
clean_is file hints kind = refl

one_is : (file : List ℕ) (hints : Bool) (kind : FileKind) → (after_message no_lines (kind_message file hints kind)).others ≡ 1
unfolding kind_message
one_is file hints kind = refl

-- Use: what was found is that message.
pub kind_found : (file : List ℕ) (hints : Bool) (kind : FileKind) (records : ℕ) (found : Found)
    → found.lines ≡ after_message no_lines (kind_message file hints kind) → found.records ≡ records → records < 2 ^ 64 - 2
    → Finds records (kind_message file hints kind ∷ []) found
kind_found file hints kind records found is count few = record {
  text = ap text_of is ∙ text_is file hints kind records (nat_le 1 records) refl;
  count = ap count_of is ∙ count_is file hints kind records (nat_le 1 records) refl;
  clean = ap (λ (l : Lines). count_of l == 0) is ∙ clean_is file hints kind;
  counted = count;
  few = (omega (arith, ap (λ (l : Lines). l.others) is, one_is file hints kind), omega (arith, count, few));
}

some_rows : (rs : List Row) → is_plan_heading (first_fields rs) ≡ true → nat_lt 0 (length rs) ≡ true
unfolding is_plan_heading is_word
some_rows [] plan = let none : false ≡ true = plan in cc
some_rows (row ∷ rs) plan = grind arith

-- Use: a plan has a record, its heading.
pub plan_has_record : (script : List ℕ) → is_plan (rows script) ≡ true → has_record script ≡ true
plan_has_record script plan = rw plan (some_rows (rows script).rows plan)
