-- The rows of a text that is a table, without comments and blanks.
use Rattle.std.proofs.Common.{◌≡◌, ◌∙◌, ◌<◌, ◌+◌, ◌==◌, ℕ, zero, suc, false, List, [], ◌∷◌, ◌++◌, None, Some, All, map, length, length-append, refl, sym, ap, ap₂, subst, arith}
use Rattle.std.proofs.lemmas.List.Elements.{All-head, All-tail}
use Rattle.csv.specs.Machine.{next_record}
use Rattle.csv.specs.Reading.{records, records_from, default_config, strip_bom}
use Rattle.csv.specs.Records.{trimmed}
use Rattle.csv.specs.Writing.{default_writer, read_back, row_text}
use Rattle.csv.specs.declared.parser.State.TheVariants as st
use Rattle.csv.proofs.RoundTrip.{read-write}
use Rattle.pf_text.specs.Rows.Places.{lines_behind, record_lines, row_config}
use Rattle.pf_text.specs.Rows.Rows.{Row, is_blank, rows, rows_of, text_records}
use Rattle.pf_text.specs.Page.{table_text}
use Rattle.pf_script.specs.PlanCheck.Checked.{faults_from, faults_of}
use Rattle.pf_script.specs.declared.plan.said.Said.{Said}
use Rattle.pf_script.specs.declared.plan.state.Progress.{Progress}
use Rattle.pf_script.specs.Plan.Heading.{heading_fault}
use Rattle.pf_script.specs.Plan.Progress.{at_heading, progress_after}
use Rattle.pf_script_laws.specs.Conversions.Read.{AllSay}
use Rattle.pf_script_laws.proofs.ConversionsLemmas.Alike.{record_alike}

-- a record that begins with no mark, and has no blanks around its fields
pub record IsPlainRow (fields : List (List ℕ)) : Type 0 where
  pub first : ℕ
  pub rest : List ℕ
  pub text : row_text default_writer fields ≡ first ∷ rest
  pub no_cr : (first == 13) ≡ false
  pub no_lf : (first == 10) ≡ false
  pub no_mark : (35 == first) ≡ false
  pub kept : read_back fields ≡ fields
  pub trim : map trimmed fields ≡ fields
  pub shown : is_blank fields ≡ false

row_again : (fields : List (List ℕ)) (tail : List ℕ) → IsPlainRow fields
    → next_record row_config st.StartRecord [] [] (row_text default_writer fields ++ tail) ≡ Some (fields, st.StartRecord, tail)
row_again fields tail p =
    let e : row_text default_writer fields ++ tail ≡ p.first ∷ (p.rest ++ tail) = ap (λ (t : List ℕ). t ++ tail) p.text in
    let alike = record_alike p.first (p.rest ++ tail) p.no_cr p.no_lf p.no_mark in
    subst (λ (t : List ℕ). next_record row_config st.StartRecord [] [] t ≡ next_record default_config st.StartRecord [] [] t) (sym e) alike
    ∙ read-write fields tail ∙ ap (λ (f : List (List ℕ)). Some (f, st.StartRecord, tail)) p.kept

table_again : (n : ℕ) (rs : List (List (List ℕ))) → All IsPlainRow rs → length (table_text rs) < n
    → records_from row_config n st.StartRecord (table_text rs) ≡ rs
unfolding records_from next_record
table_again zero rs plain long = absurd (omega arith)
table_again (suc n) [] plain long = refl
table_again (suc n) (r ∷ rs) plain long =
    let p : IsPlainRow r = All-head IsPlainRow r rs plain in
    rw (row_again r (table_text rs) p)
    (ap (λ (t : List (List (List ℕ))). r ∷ t)
    (table_again n rs (All-tail IsPlainRow r rs plain) (omega (arith, ap length p.text, length-append (row_text default_writer r) (table_text rs)))))

trims_kept : (rs : List (List (List ℕ))) → All IsPlainRow rs → map (map trimmed) rs ≡ rs
trims_kept [] plain = refl
trims_kept (r ∷ rs) plain =
    let p : IsPlainRow r = All-head IsPlainRow r rs plain in
    ap₂ (λ (f : List (List ℕ)) (t : List (List (List ℕ))). f ∷ t) p.trim (trims_kept rs (All-tail IsPlainRow r rs plain))

rows_kept : (lines : List ℕ) (rs : List (List (List ℕ))) → All IsPlainRow rs → map (λ row. row.fields) (rows_of lines rs).rows ≡ rs
rows_kept lines [] plain = refl
rows_kept lines (r ∷ rs) plain =
    let p : IsPlainRow r = All-head IsPlainRow r rs plain in
    rw p.shown (ap (λ (t : List (List (List ℕ))). r ∷ t) (rows_kept (lines_behind lines) rs (All-tail IsPlainRow r rs plain)))

-- the rows of the text are the records
pub rows_again : (rs : List (List (List ℕ))) → All IsPlainRow rs → strip_bom (table_text rs) ≡ table_text rs
    → map (λ row. row.fields) (rows (table_text rs)).rows ≡ rs
rows_again rs plain unmarked =
    let read : records row_config (strip_bom (table_text rs)) ≡ rs =
    ap (records row_config) unmarked ∙ table_again (length (table_text rs) + 1) rs plain (omega arith) in
    let trim : text_records (table_text rs) ≡ rs = ap (λ (t : List (List (List ℕ))). map (map trimmed) t) read ∙ trims_kept rs plain in
    ap (λ (t : List (List (List ℕ))). map (λ row. row.fields) (rows_of (record_lines (table_text rs)) t).rows) trim
    ∙ rows_kept (record_lines (table_text rs)) rs plain

-- records that say something have no fault
no_faults : (p : Progress) (n end : ℕ) (rs : List Row) (saids : List Said) → AllSay p (map (λ row. row.fields) rs) saids → faults_from p n end rs ≡ []
unfolding AllSay
no_faults p n end [] [] say = rw say refl
no_faults p n end [] (s ∷ ss) say = absurd say
no_faults p n end (r ∷ rs) [] say = absurd say
no_faults p n end (r ∷ rs) (s ∷ ss) say = rw say.0 (no_faults (progress_after p s 0) (n + 1) end rs ss say.1)

pub none_found : (end : ℕ) (rs : List Row) (heading : List (List ℕ)) (behind : List (List (List ℕ))) (saids : List Said)
    → map (λ row. row.fields) rs ≡ heading ∷ behind → heading_fault heading ≡ None → AllSay at_heading behind saids → faults_of end rs ≡ []
none_found end [] heading behind saids is good say = cc
none_found end (r ∷ rs) heading behind saids is good say =
    let first : r.fields ≡ heading = cc in
    let same : map (λ row. row.fields) rs ≡ behind = cc in
    rw (ap heading_fault first ∙ good)
    (no_faults at_heading 2 end rs saids (subst (λ (t : List (List (List ℕ))). AllSay at_heading t saids) (sym same) say))
