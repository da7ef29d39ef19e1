-- A record says something exactly where the grammar reads it.
use Rattle.std.proofs.Common.{◌≡◌, ℕ, Bool, true, false, List, length, Option, Some, None, Result, Ok, Err, refl, sym, ap, ◌∙◌, codes}
use Rattle.std.specs.Prelude.{⊤, ◌&&◌, ◌||◌, ◌==◌, is_some, min, ok_or, option_and_then, if◌then◌else◌}
use Rattle.std.proofs.Math.Bool.{and-true}
use Rattle.std.specs.Option.{option_map_or}
use Rattle.std.specs.Result.{is_ok, result_ok}
use Rattle.std.proofs.lemmas.Bool.{and_right}
use Rattle.pf_weight.specs.declared.base.TheConstants.{LARGEST_BASE}
use Rattle.pf_scenario.specs.declared.settings.TheConstants.{MOST_PROCESSORS, LARGEST_CAP}
use Rattle.pf_scenario.specs.declared.limits.TheConstants.{LARGEST_DISTANCE}
use Rattle.pf_script.specs.declared.fault.Reason.TheVariants.{Fields, NoNumber, NoRecord, NoSettings, NoVersion, Outside}
use Rattle.pf_script.specs.declared.fault.RecordFault.{RecordFault}
use Rattle.pf_script.specs.declared.line.Opening.{Opening}
use Rattle.pf_script.specs.declared.record.Record.{Record}
use Rattle.pf_script.specs.declared.record.Record.TheVariants.{Heading, Settings, Asks}
use Rattle.pf_script.specs.declared.stage.Stage.TheVariants.{Beginning, Headed, Opened}
use Rattle.pf_script.specs.declared.version.Version.{Version}
use Rattle.pf_script.specs.declared.version.Version.TheVariants.{First, Second}
use Rattle.pf_script.specs.Fields.{is_word, number}
use Rattle.pf_script.specs.Grammar.{horizon_of, is_heading, opening_of, settings_of}
use Rattle.pf_script.specs.Parsing.{◌>>=◌, fault_at, heading_at, line_at, names_line, number_at, number_within, of_length, opening_at, record_at, settings_at}
use Rattle.pf_script.proofs.Lined.{line_read, other_word, passed}
use Rattle.pf_script.specs.Check.Laws.{ReadRecordsHaveNoFault, is_in_limits, is_one_to, is_settings}

abbrev heading_if : Bool → RecordFault → Result Record RecordFault
heading_if second why = if second then Ok Heading else Err why

said : {A B : Type 0} (r : Result A RecordFault) (f : A → B) → is_ok (r >>= λ a. Ok (f a)) ≡ is_some (result_ok r)
said (Ok a) f = refl
said (Err fault) f = refl

long_then : {A : Type 0} (fields : List (List ℕ)) (count : ℕ) (r : Result A RecordFault) → is_ok (of_length fields count >>= λ _. r) ≡ ((length fields == count) && is_ok r)
long_then fields count r = by (length fields == count) (fault_at (min (length fields) count) (Fields count))
  where
    long : Bool → RecordFault → Result ⊤ RecordFault
    long b fault = if b then Ok tt else Err fault

    by : (b : Bool) (fault : RecordFault) → is_ok (long b fault >>= λ _. r) ≡ (b && is_ok r)
    by true fault = refl
    by false fault = refl

-- The numbers of the settings, each tried against its limits.
abbrev tried : ℕ → ℕ → Option ℕ → Result ℕ RecordFault
tried place most o = ok_or o (fault_at place NoNumber) >>= λ n. if is_one_to most n then Ok n else Err (fault_at place (Outside n most))

then_tried : {A : Type 0} (place most n : ℕ) (f : ℕ → Result A RecordFault) → is_ok (tried place most (Some n) >>= f) ≡ (is_one_to most n && is_ok (f n))
then_tried place most n f = by (is_one_to most n)
  where
    by : (b : Bool) → is_ok ((if b then Ok n else Err (fault_at place (Outside n most))) >>= f) ≡ (b && is_ok (f n))
    by true = refl
    by false = refl

abbrev passes : ℕ → Option ℕ → Bool
passes most o = option_map_or (is_one_to most) o false

abbrev made : Version → ℕ → ℕ → ℕ → ℕ → Record
made version m h k every = Settings (record {
  version = version;
  settings = record { processors = m; base = h; cap = k; horizon = horizon_of version };
  every = every;
})

abbrev from_every : Version → ℕ → ℕ → ℕ → Option ℕ → Result Record RecordFault
from_every version m h k d = tried 4 LARGEST_DISTANCE d >>= λ every. Ok (made version m h k every)

abbrev from_cap : Version → ℕ → ℕ → Option ℕ → Option ℕ → Result Record RecordFault
from_cap version m h c d = tried 3 LARGEST_CAP c >>= λ k. from_every version m h k d

abbrev from_base : Version → ℕ → Option ℕ → Option ℕ → Option ℕ → Result Record RecordFault
from_base version m b c d = tried 2 LARGEST_BASE b >>= λ h. from_cap version m h c d

abbrev from_all : Version → Option ℕ → Option ℕ → Option ℕ → Option ℕ → Result Record RecordFault
from_all version a b c d = tried 1 MOST_PROCESSORS a >>= λ m. from_base version m b c d

every_read : (version : Version) (m h k : ℕ) (d : Option ℕ) → is_ok (from_every version m h k d) ≡ passes LARGEST_DISTANCE d
every_read version m h k None = refl
every_read version m h k (Some n) = then_tried 4 LARGEST_DISTANCE n (λ every. Ok (made version m h k every)) ∙ and-true (is_one_to LARGEST_DISTANCE n)

cap_read : (version : Version) (m h : ℕ) (c d : Option ℕ) → is_ok (from_cap version m h c d) ≡ (passes LARGEST_CAP c && passes LARGEST_DISTANCE d)
cap_read version m h None d = refl
cap_read version m h (Some n) d =
    then_tried 3 LARGEST_CAP n (λ k. from_every version m h k d) ∙ ap (λ b. is_one_to LARGEST_CAP n && b) (every_read version m h n d)

base_read : (version : Version) (m : ℕ) (b c d : Option ℕ)
    → is_ok (from_base version m b c d) ≡ (passes LARGEST_BASE b && (passes LARGEST_CAP c && passes LARGEST_DISTANCE d))
base_read version m None c d = refl
base_read version m (Some n) c d =
    then_tried 2 LARGEST_BASE n (λ h. from_cap version m h c d) ∙ ap (λ b. is_one_to LARGEST_BASE n && b) (cap_read version m n c d)

all_read : (version : Version) (a b c d : Option ℕ)
    → is_ok (from_all version a b c d) ≡ (passes MOST_PROCESSORS a && (passes LARGEST_BASE b && (passes LARGEST_CAP c && passes LARGEST_DISTANCE d)))
all_read version None b c d = refl
all_read version (Some n) b c d =
    then_tried 1 MOST_PROCESSORS n (λ m. from_base version m b c d) ∙ ap (λ x. is_one_to MOST_PROCESSORS n && x) (base_read version n b c d)

abbrev opening_from : Option ℕ → Option ℕ → Option ℕ → Option ℕ → Option Opening
opening_from a b c d =
    option_and_then (λ m. option_and_then (λ h. option_and_then (λ k. option_and_then (λ every.
    Some (record { processors = m; base = h; cap = k; every = every })) d) c) b) a

fails_later : (a b : Bool) → (a && (b && false)) ≡ false
fails_later true b = and_right b false refl
fails_later false b = refl

all_four : (a b c d : Bool) → (a && (b && (c && d))) ≡ (a && b && c && d)
all_four false b c d = refl
all_four true false c d = refl
all_four true true false d = refl
all_four true true true d = refl

numbers_read : (a b c d : Option ℕ)
    → (passes MOST_PROCESSORS a && (passes LARGEST_BASE b && (passes LARGEST_CAP c && passes LARGEST_DISTANCE d)))
    ≡ option_map_or is_in_limits (opening_from a b c d) false
numbers_read None b c d = refl
numbers_read (Some m) None c d = and_right (is_one_to MOST_PROCESSORS m) false refl
numbers_read (Some m) (Some h) None d = fails_later (is_one_to MOST_PROCESSORS m) (is_one_to LARGEST_BASE h)
numbers_read (Some m) (Some h) (Some k) None =
    ap (λ b. is_one_to MOST_PROCESSORS m && b) (fails_later (is_one_to LARGEST_BASE h) (is_one_to LARGEST_CAP k)) ∙ and_right (is_one_to MOST_PROCESSORS m) false refl
numbers_read (Some m) (Some h) (Some k) (Some every) =
    all_four (is_one_to MOST_PROCESSORS m) (is_one_to LARGEST_BASE h) (is_one_to LARGEST_CAP k) (is_one_to LARGEST_DISTANCE every)

settings_read : (version : Version) (fields : List (List ℕ))
    → is_ok (settings_at version fields) ≡ ((length fields == 5) && option_map_or is_in_limits (settings_of fields) false)
unfolding settings_at number_within number_at settings_of
settings_read version fields =
    long_then fields 5 (from_all version (number fields 1) (number fields 2) (number fields 3) (number fields 4))
    ∙ ap (λ b. (length fields == 5) && b)
    (all_read version (number fields 1) (number fields 2) (number fields 3) (number fields 4)
    ∙ numbers_read (number fields 1) (number fields 2) (number fields 3) (number fields 4))

settings_choice : (enough word line : Bool) (r : Result Record RecordFault) (e f : RecordFault) (read : Option Opening)
    → is_ok r ≡ (enough && option_map_or is_in_limits read false)
    → is_ok (if word then r else if line then Err e else Err f) ≡ option_map_or is_in_limits (if enough && word then read else None) false
settings_choice true true line r e f read same = same
settings_choice false true line r e f read same = same
settings_choice true false true r e f read same = refl
settings_choice true false false r e f read same = refl
settings_choice false false true r e f read same = refl
settings_choice false false false r e f read same = refl

-- where the settings are expected
pub opening_read : (version : Version) (fields : List (List ℕ)) → is_ok (opening_at version fields) ≡ is_settings fields
unfolding opening_at opening_of
opening_read version fields =
    settings_choice (length fields == 5) (is_word fields 0 (codes "settings")) (names_line version fields) (settings_at version fields)
    (fault_at 0 NoSettings) (fault_at 0 (NoRecord version)) (settings_of fields) (settings_read version fields)

pub no_settings : (fields : List (List ℕ)) → is_word fields 0 (codes "pfair") ≡ true → is_settings fields ≡ false
unfolding opening_of
no_settings fields is =
    let none : (if (length fields == 5) && is_word fields 0 (codes "settings") then settings_of fields else None) ≡ None =
    passed (length fields == 5) (is_word fields 0 (codes "settings")) (settings_of fields) None (other_word fields (codes "pfair") (codes "settings") is refl) refl in
    rw none refl

-- where the heading is expected too
heading_word : (second : Bool) (why : RecordFault) → is_ok (heading_if second why) ≡ second
heading_word true why = refl
heading_word false why = refl

heading_choice : (enough named second settings : Bool) (r s : Result Record RecordFault) → is_ok r ≡ (enough && second) → is_ok s ≡ settings
    → (named ≡ true → settings ≡ false) → is_ok (if named then r else s) ≡ (((enough && named) && second) || settings)
heading_choice true true true settings r s long read none = long
heading_choice true true false settings r s long read none = long ∙ sym (none refl)
heading_choice false true second settings r s long read none = long ∙ sym (none refl)
heading_choice true false second settings r s long read none = read
heading_choice false false second settings r s long read none = read

-- Use: at each stage a record has no fault exactly where it is read.
pub read_records_have_no_fault : ReadRecordsHaveNoFault
unfolding record_at heading_at is_heading
read_records_have_no_fault Beginning fields =
    heading_choice (length fields == 2) (is_word fields 0 (codes "pfair")) (is_word fields 1 (codes "2")) (is_settings fields) (heading_at fields) (opening_at First fields)
    (long_then fields 2 (heading_if (is_word fields 1 (codes "2")) (fault_at 1 NoVersion))
    ∙ ap (λ b. (length fields == 2) && b) (heading_word (is_word fields 1 (codes "2")) (fault_at 1 NoVersion)))
    (opening_read First fields) (no_settings fields)
read_records_have_no_fault Headed fields = opening_read Second fields
read_records_have_no_fault (Opened version) fields = said (line_at version fields) (λ line. Asks line) ∙ ap is_some (line_read version fields)
