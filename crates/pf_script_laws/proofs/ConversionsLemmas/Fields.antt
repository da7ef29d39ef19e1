-- The records of a plan's script, one by one.
use Rattle.std.proofs.Common.{◌≡◌, ◌∙◌, ◌^◌, ◌<◌, ◌≤◌, ◌*◌, ℕ, true, false, None, Some, Ok, List, [], ◌∷◌, codes, length, ap, arith, refl, inl, inr, subst}
use Rattle.std.specs.Fmt.{decimal}
use Rattle.std.specs.Prelude.{nat_le}
use Rattle.std.specs.Char.{is_ascii_digit}
use Rattle.std.specs.Str.{all_ascii_digits, bytes_eq}
use Rattle.std.proofs.lemmas.Bool.{cases_Bool, and_parts}
use Rattle.std.proofs.lemmas.Bool.Decides.{nat_tests}
use Rattle.std.proofs.lemmas.Fmt.{digits_decimal}
use Rattle.std.proofs.lemmas.Nat.{mul-le}
use Rattle.std.proofs.lemmas.Slice.Eq.{bytes_eq-Decides}
use Rattle.std.proofs.lemmas.Str.Parse.{numerals_by_value, tells_all_ascii_digits}
use Rattle.pf_scenario.specs.System.{wide_horizon}
use Rattle.pf_script.specs.declared.line.Line.TheVariants.{Steps}
use Rattle.pf_script.specs.declared.plan.said.Said.TheVariants.{Asks}
use Rattle.pf_convert.specs.declared.slotted.Slotted.{Slotted}
use Rattle.pf_vocabulary.specs.declared.names.named.Named.{Named}
use Rattle.pf_vocabulary.specs.declared.names.unit.Unit.{Unit}
use Rattle.pf_vocabulary.specs.declared.names.unit.Unit.TheVariants.{Nanosecond, Microsecond, Millisecond, Second as WholeSecond}
use Rattle.pf_vocabulary.specs.Names.Slots.{unit_named, unit_word}
use Rattle.pf_vocabulary.specs.Names.Text.{is_letter_first}
use Rattle.pf_scenario.specs.declared.event.Event.TheVariants.{Join}
use Rattle.pf_script.specs.Fields.{field, is_word}
use Rattle.pf_text.specs.Numbers.{number_of}
use Rattle.pf_script.specs.declared.plan.fault.Reason.TheVariants.{NoCap, NoNumber}
use Rattle.pf_script.specs.declared.plan.state.Progress.{Progress}
use Rattle.pf_script.specs.Plan.Parsing.{cap_at, early_at, edit_at, event_at, every_at, join_at, number_or, number_within, opening_at, record_at, said_at, settings_at, slot_at, steps_at, task_at}
use Rattle.pf_script.specs.Plan.Progress.{at_heading}
use Rattle.pf_script_laws.specs.Conversions.Records.{join_record, settings_record, slot_record, step_record}
use Rattle.pf_script_laws.specs.Conversions.Read.{join_said, settings_said, slot_said}
use Rattle.pf_script_laws.proofs.ConversionsLemmas.Numbers.{number_here, number_inside}

pub join_told : (names : List Named) (fields : List (List ℕ)) (a b c d e : ℕ) → length fields ≡ 6 → number_or NoNumber fields 1 ≡ Ok a
    → task_at names fields 2 ≡ Ok b → number_or NoNumber fields 3 ≡ Ok c → number_or NoNumber fields 4 ≡ Ok d → early_at fields 5 ≡ Ok e
    → join_at names fields 0 ≡ Ok (Join a b c d e)
unfolding join_at
join_told names fields a b c d e six slot task cost period early = rw (six, slot, task, cost, period, early) refl

-- a digit is no letter
digit_first : (bytes : List ℕ) → all_ascii_digits bytes ≡ true → is_letter_first bytes ≡ false
digit_first [] e = refl
digit_first (c ∷ cs) e = let digit : is_ascii_digit c ≡ true = (and_parts (is_ascii_digit c) (all_ascii_digits cs) e).0 in grind (arith, nat_tests, digit)

no_letter : (n : ℕ) → n < 10 ^ 15 → is_letter_first (decimal n) ≡ false
no_letter n small =
    digit_first (decimal n) (digits_decimal (numerals_by_value (λ ds. all_ascii_digits ds ≡ true) tells_all_ascii_digits) n (omega (arith, small)))

pub not_full : (n : ℕ) → n < 10 ^ 15 → bytes_eq (decimal n) (codes "full") ≡ false
not_full n small = elim (cases_Bool (bytes_eq (decimal n) (codes "full"))) [
  | inl same ↦
      let is : decimal n ≡ codes "full" = (bytes_eq-Decides (decimal n) (codes "full")).0 same in
      let bad : true ≡ false = subst (λ (x : List ℕ). is_letter_first x ≡ false) is (no_letter n small) in
      cc
  | inr other ↦ other
]

pub task_told : (names : List Named) (fields : List (List ℕ)) (place n : ℕ) → field fields place ≡ decimal n → n < 10 ^ 15 → task_at names fields place ≡ Ok n
unfolding task_at
task_told names fields place n is small =
    let no : is_letter_first (field fields place) ≡ false = ap is_letter_first is ∙ no_letter n small in
    rw no (number_here NoNumber fields place n is small)

pub early_told : (fields : List (List ℕ)) (place n : ℕ) → nat_le (length fields) place ≡ false → field fields place ≡ decimal n → n < 10 ^ 15
    → early_at fields place ≡ Ok n
unfolding early_at
early_told fields place n more is small = rw more (number_here NoNumber fields place n is small)

-- the numbers of a join are short enough
pub record AreShort (task : ℕ) (s : Slotted) : Type 0 where
  pub number : task < 10 ^ 15
  pub join : s.join < 10 ^ 15
  pub cost : s.cost < 10 ^ 15
  pub period : s.period < 10 ^ 15
  pub early : s.early < 10 ^ 15

pub join_says : (p : Progress) (number : ℕ) (s : Slotted) → p.opened ≡ true → AreShort number s → said_at p (join_record number s) ≡ Ok (join_said number s)
unfolding record_at edit_at event_at is_word
join_says p number s opened short =
    let fields = join_record number s in
    let told = join_told p.names fields s.join number s.cost s.period s.early refl
    (number_here NoNumber fields 1 s.join refl short.join) (task_told p.names fields 2 number refl short.number)
    (number_here NoNumber fields 3 s.cost refl short.cost) (number_here NoNumber fields 4 s.period refl short.period)
    (early_told fields 5 s.early refl refl short.early) in
    rw (opened, told) refl

pub steps_say : (p : Progress) (n : ℕ) → p.opened ≡ true → 1 ≤ n → n ≤ wide_horizon → said_at p (step_record n) ≡ Ok (Asks (Steps n) None)
unfolding record_at steps_at is_word
steps_say p n opened some few =
    rw (opened, number_inside NoNumber (step_record n) 1 wide_horizon n refl (omega (arith, few)) some few) refl

unit_again : (u : Unit) → unit_named (unit_word u) ≡ Some u
unfolding unit_named
unit_again Nanosecond = refl
unit_again Microsecond = refl
unit_again Millisecond = refl
unit_again WholeSecond = refl

pub slot_says : (p : Progress) (length : ℕ) (unit : Unit) → p.opened ≡ true → p.slot ≡ None → p.begun ≡ false → 1 ≤ length → length ≤ 1000000000
    → said_at p (slot_record (length, unit)) ≡ Ok (slot_said (length, unit))
unfolding record_at slot_at is_word
slot_says p length unit opened none before some most =
    rw (opened, none, before, number_inside NoNumber (slot_record (length, unit)) 1 1000000000 length refl (omega (arith, most)) some most, unit_again unit) refl

every_here : (m b cap : List ℕ) → number_within NoNumber (codes "settings" ∷ m ∷ b ∷ cap ∷ codes "64" ∷ []) 4 4096 ≡ Ok 64
unfolding number_within number_or number_of
every_here m b cap = refl

pub settings_say : (m b : ℕ) → 1 ≤ m → m ≤ 64 → 1 ≤ b → b ≤ 2 ^ 30 → said_at at_heading (settings_record m b) ≡ Ok (settings_said m b)
unfolding opening_at settings_at cap_at every_at is_word
settings_say m b some few base low =
    let fields = settings_record m b in
    let most : m * b ≤ 64 * 2 ^ 30 = mul-le m b 64 (2 ^ 30) few low in
    let one : 1 * 1 ≤ m * b = mul-le 1 1 m b some base in
    let full : bytes_eq (decimal (m * b)) (codes "full") ≡ false = not_full (m * b) (omega (arith, most)) in
    let cap_some : 1 ≤ m * b = omega (arith, one) in
    let cap_most : m * b ≤ 17592186044416 = omega (arith, most) in
    let cap_short : m * b < 10 ^ 15 = omega (arith, most) in
    rw (
      number_inside NoNumber fields 1 64 m refl (omega (arith, few)) some few,
      number_inside NoNumber fields 2 1073741824 b refl (omega (arith, low)) base low,
      full,
      number_inside NoCap fields 3 17592186044416 (m * b) refl cap_short cap_some cap_most,
      every_here (decimal m) (decimal b) (decimal (m * b)),
    ) refl
