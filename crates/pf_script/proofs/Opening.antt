-- The order of a script's records: a heading, perhaps, and then the settings, and then lines.
use Rattle.std.proofs.Common.{◌≡◌, ◌≤◌, ◌+◌, ℕ, Bool, true, false, List, [], ◌∷◌, Result, Ok, Err, refl}
use Rattle.std.specs.Prelude.{⊤, ◌&&◌, nat_le, if◌then◌else◌, codes}
use Rattle.std.proofs.lemmas.Bool.{and_parts, leb-true}
use Rattle.pf_script.specs.declared.fault.Reason.TheVariants.{NoRecord, NoSettings, NoVersion, Outside}
use Rattle.pf_script.specs.declared.fault.RecordFault.{RecordFault}
use Rattle.pf_script.specs.declared.line.Line.{Line}
use Rattle.pf_script.specs.declared.record.Record.{Record}
use Rattle.pf_script.specs.declared.record.Record.TheVariants.{Heading, Settings, Asks}
use Rattle.pf_script.specs.declared.stage.Stage.{Stage}
use Rattle.pf_script.specs.declared.stage.Stage.TheVariants.{Beginning, Headed, Opened}
use Rattle.pf_script.specs.declared.version.Version.{Version}
use Rattle.pf_script.specs.declared.version.Version.TheVariants.{First, Second}
use Rattle.pf_script.specs.Fields.{is_word}
use Rattle.pf_script.specs.Parsing.{◌>>=◌, fault_at, heading_at, line_at, names_line, number_at, number_within, of_length, opening_at, record_at, settings_at}
use Rattle.pf_script.specs.Places.{line_at as first_line, lines_behind}
use Rattle.pf_script.specs.Told.{Reading, Good, Bad, Missing, reading, readings_from, stage_after}
use Rattle.pf_script.specs.Answers.{AreLines}
use Rattle.pf_script.specs.Opened.{IsOpening}

-- Use: after the settings each record is a line, or bad.
pub opened_lines : (version : Version) (number : ℕ) (lines : List ℕ) (records : List (List (List ℕ)))
    → AreLines (readings_from (Opened version) number lines records)
unfolding readings_from record_at
opened_lines version number lines [] = tt
opened_lines version number lines (fields ∷ records) =
    by (line_at version fields) (opened_lines version (number + 1) (lines_behind lines) records)
  where
    by : (r : Result Line RecordFault) → AreLines (readings_from (Opened version) (number + 1) (lines_behind lines) records)
        → AreLines (reading number (first_line lines) fields (r >>= λ line. Ok (Asks line))
        ∷ readings_from (stage_after (Opened version) (r >>= λ line. Ok (Asks line))) (number + 1) (lines_behind lines) records)
    by (Ok line) more = (tt, more)
    by (Err fault) more = more

-- a number within its limits
within : (fields : List (List ℕ)) (place most n : ℕ) → number_within fields place most ≡ Ok n → (1 ≤ n) × (n ≤ most)
unfolding number_within
within fields place most n = by (number_at fields place)
  where
    test : (b : Bool) (k : ℕ) → (nat_le 1 k && nat_le k most) ≡ b
        → (if b then Ok k else Err (fault_at place (Outside k most))) ≡ Ok n → (1 ≤ n) × (n ≤ most)
    test true k passes e =
        let same : k ≡ n = cc in
        let parts = and_parts (nat_le 1 k) (nat_le k most) passes in
        (rw same at (leb-true 1 k parts.0), rw same at (leb-true k most parts.1))
    test false k fails e = cc

    by : (r : Result ℕ RecordFault)
        → (r >>= λ k. if nat_le 1 k && nat_le k most then Ok k else Err (fault_at place (Outside k most))) ≡ Ok n → (1 ≤ n) × (n ≤ most)
    by (Ok k) e = test (nat_le 1 k && nat_le k most) k refl e
    by (Err fault) e = cc

-- settings of this version, by which a desk can be opened, or a fault
abbrev pub IsSettings : Version → Record → Type 0
IsSettings version Heading = ⊥
IsSettings version (Settings s) = IsOpening s × (s.version ≡ version)
IsSettings version (Asks line) = ⊥

abbrev pub IsSettled : Version → Result Record RecordFault → Type 0
IsSettled version (Ok said) = IsSettings version said
IsSettled version (Err fault) = ⊤

then_settled : {A : Type 0} (version : Version) (r : Result A RecordFault) (f : A → Result Record RecordFault) → ((a : A) → r ≡ Ok a → IsSettled version (f a))
    → IsSettled version (r >>= f)
then_settled version (Ok a) f h = h a refl
then_settled version (Err fault) f h = tt

settings_settled : (version : Version) (fields : List (List ℕ)) → IsSettled version (settings_at version fields)
unfolding settings_at
settings_settled version fields =
    then_settled version (of_length fields 5) _ (λ _ _.
    then_settled version (number_within fields 1 _) _ (λ _ _.
    then_settled version (number_within fields 2 _) _ (λ _ _.
    then_settled version (number_within fields 3 _) _ (λ _ _.
    then_settled version (number_within fields 4 _) _ (λ every is.
    let limits = within fields 4 _ every is in
    (record { some = limits.0; within = limits.1 }, refl))))))

-- Use: where settings are expected there are some, or a fault.
pub opening_settled : (version : Version) (fields : List (List ℕ)) → IsSettled version (opening_at version fields)
unfolding opening_at
opening_settled version fields = by (is_word fields 0 (codes "settings")) (names_line version fields) (settings_settled version fields)
  where
    by : (settings line : Bool) → IsSettled version (settings_at version fields)
        → IsSettled version (if settings then settings_at version fields else if line then Err (fault_at 0 NoSettings) else Err (fault_at 0 (NoRecord version)))
    by true line settled = settled
    by false true settled = tt
    by false false settled = tt

-- what a script goes on with before its settings
abbrev GoesOn : Record → List Reading → Type 0 → Type 0
GoesOn Heading rest more = more
GoesOn (Settings s) rest more = IsOpening s × AreLines rest
GoesOn (Asks line) rest more = ⊥

abbrev pub AreUnopened : List Reading → Type 0
AreUnopened [] = ⊥
AreUnopened (Good told ∷ rest) = GoesOn told.says rest (AreUnopened rest)
AreUnopened (Bad fault ∷ rest) = ⊤
AreUnopened (Missing fault ∷ rest) = ⊤

settings_follow : (stage : Stage) (version : Version) (number : ℕ) (lines : List ℕ) (fields : List (List ℕ)) (records : List (List (List ℕ))) (r : Result Record RecordFault)
    → IsSettled version r → AreUnopened (reading number (first_line lines) fields r ∷ readings_from (stage_after stage r) (number + 1) (lines_behind lines) records)
settings_follow stage version number lines fields records (Ok Heading) settled = absurd settled
settings_follow stage version number lines fields records (Ok (Settings s)) settled = (settled.0, opened_lines s.version (number + 1) (lines_behind lines) records)
settings_follow stage version number lines fields records (Ok (Asks line)) settled = absurd settled
settings_follow stage version number lines fields records (Err fault) settled = tt

headed : (number : ℕ) (lines : List ℕ) (records : List (List (List ℕ))) → AreUnopened (readings_from Headed number lines records)
unfolding readings_from record_at
headed number lines [] = tt
headed number lines (fields ∷ records) =
    settings_follow Headed Second number lines fields records (opening_at Second fields) (opening_settled Second fields)

-- Use: a script begins with its heading, its settings, or a fault.
pub beginning : (number : ℕ) (lines : List ℕ) (records : List (List (List ℕ))) → AreUnopened (readings_from Beginning number lines records)
unfolding readings_from record_at heading_at
beginning number lines [] = tt
beginning number lines (fields ∷ records) = by (is_word fields 0 (codes "pfair")) (of_length fields 2) (is_word fields 1 (codes "2"))
  where
    follow : (r : Result Record RecordFault) → Type 0
    follow r = AreUnopened (reading number (first_line lines) fields r ∷ readings_from (stage_after Beginning r) (number + 1) (lines_behind lines) records)

    by : (named : Bool) (long : Result ⊤ RecordFault) (second : Bool)
        → follow (if named then long >>= (λ _. if second then Ok Heading else Err (fault_at 1 NoVersion)) else opening_at First fields)
    by true (Ok u) true = headed (number + 1) (lines_behind lines) records
    by true (Ok u) false = tt
    by true (Err fault) second = tt
    by false long second = settings_follow Beginning First number lines fields records (opening_at First fields) (opening_settled First fields)
