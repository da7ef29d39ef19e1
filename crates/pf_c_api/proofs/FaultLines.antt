-- The lines of bad records, one after another.
use Rattle.std.proofs.Common.{◌≡◌, ◌++◌, ◌<◌, ℕ, Bool, true, false, List, ◌∷◌, length, refl, sym, ap, ◌∙◌, subst, append_assoc, append-nil, arith}
use Rattle.pf_script.specs.Check.Reports.{report_text}
use Rattle.pf_script.specs.declared.record.RecordTold.{RecordTold}
use Rattle.pf_script.specs.Told.{FaultTold, Reading, Good, Bad, Missing, faults_in}
use Rattle.pf_c_api.specs.Faults.{AddsNext, IsOneOn, fault_lines}

-- one record on, where the faults left begin with these
one_on : (next : Reading) (old new : List Reading) (text added : List ℕ) → old ≡ next ∷ new
    → text ++ fault_lines (faults_in (next ∷ new)) ≡ added ++ fault_lines (faults_in new) → IsOneOn old new text added
one_on next old new text added is lines =
    subst (λ (rs : List Reading). IsOneOn rs new text added) (sym is) (record { fewer = omega arith; lines = lines })

-- Use: the next record has no fault.
pub good_next : (told : RecordTold) (old new : List Reading) (text : List ℕ) → old ≡ Good told ∷ new → AddsNext true old new text text
good_next told old new text is = one_on (Good told) old new text text is refl

-- Use: the line of a fault was added.
line_on : (f : FaultTold) (new : List Reading) (text added : List ℕ) → added ≡ text ++ report_text f
    → text ++ (report_text f ++ fault_lines (faults_in new)) ≡ added ++ fault_lines (faults_in new)
line_on f new text added is =
    sym (append_assoc text (report_text f) (fault_lines (faults_in new))) ∙ ap (λ t. t ++ fault_lines (faults_in new)) (sym is)

pub bad_next : (f : FaultTold) (old new : List Reading) (text added : List ℕ) → old ≡ Bad f ∷ new → added ≡ text ++ report_text f
    → AddsNext true old new text added
bad_next f old new text added is line = one_on (Bad f) old new text added is (line_on f new text added line)

pub missing_next : (f : FaultTold) (old new : List Reading) (text added : List ℕ) → old ≡ Missing f ∷ new → added ≡ text ++ report_text f
    → AddsNext true old new text added
missing_next f old new text added is line = one_on (Missing f) old new text added is (line_on f new text added line)

-- Use: one record more was read.
pub lines_on : (more : Bool) (old new : List Reading) (text added whole : List ℕ) → more ≡ true → AddsNext more old new text added
    → text ++ fault_lines (faults_in old) ≡ whole → added ++ fault_lines (faults_in new) ≡ whole
lines_on true old new text added whole is next way = sym next.lines ∙ way
lines_on false old new text added whole is next way = cc

pub fewer_left : (more : Bool) (old new : List Reading) (text added : List ℕ) → more ≡ true → AddsNext more old new text added
    → length new < length old
fewer_left true old new text added is next = next.fewer
fewer_left false old new text added is next = cc

-- Use: nothing was left to read.
pub lines_done : (more : Bool) (old new : List Reading) (text added whole : List ℕ) → more ≡ false → AddsNext more old new text added
    → text ++ fault_lines (faults_in old) ≡ whole → added ≡ whole
lines_done true old new text added whole is next way = cc
lines_done false old new text added whole is next way =
    next.1 ∙ sym (append-nil text) ∙ ap (λ (rs : List Reading). text ++ fault_lines (faults_in rs)) (sym next.0) ∙ way
