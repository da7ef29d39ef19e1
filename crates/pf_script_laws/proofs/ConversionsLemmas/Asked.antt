-- The script that words ask for.
use Rattle.std.proofs.Common.{◌≡◌, ◌&&◌, ℕ, Bool, true, false, nat_le, Option, None, Some, Result, Ok, Err, List, [], length, inl, inr, arith, refl, sym, ap, subst}
use Rattle.std.specs.Prelude.{if◌then◌else◌}
use Rattle.std.proofs.lemmas.Bool.Decides.{nat_tests}
use Rattle.pf_script.specs.PlanCheck.Checked.{faults}
use Rattle.pf_text.specs.Rows.Rows.{rows}
use Rattle.pf_convert.specs.declared.words.conversion.Conversion.{Conversion}
use Rattle.pf_convert.specs.declared.words.conversion.ConvertFormat.{ConvertFormat}
use Rattle.pf_convert.specs.declared.words.arrivals.Arrivals.{Arrivals}
use Rattle.pf_convert.specs.declared.words.mistake.ConvertMistake.{ConvertMistake}
use Rattle.pf_convert.specs.declared.words.mistake.ConvertMistake.TheVariants.{Processors}
use Rattle.pf_convert.specs.Words.Reading.{ConvertTexts, arrivals_given, conversion_of, counted_in, first_not_above, format_for, format_given, longer_than, processors_given, processors_read, quantum_given, switch_given, unit_given}
use Rattle.pf_vocabulary.specs.declared.names.unit.Unit.{Unit}
use Rattle.pf_scenario.specs.declared.settings.TheConstants.{MOST_PROCESSORS}
use Rattle.pf_convert.specs.List.Times.{◌>>=◌, few_digits}
use Rattle.pf_script_laws.specs.Conversions.Written.{AreSome, ConversionsHaveNoFault}
use Rattle.pf_script_laws.proofs.ConversionsLemmas.Planned.{lists_become_plans}
use Rattle.pf_script_laws.proofs.ConversionsLemmas.Whole.{no_fault}

read_some : (o p : Option ℕ) → processors_read o ≡ Ok p → AreSome p
read_some None p e = cc
read_some (Some m) p e = by (nat_le 1 m && nat_le m MOST_PROCESSORS) refl e
  where
    by : (b : Bool) → (nat_le 1 m && nat_le m MOST_PROCESSORS) ≡ b → (if b then Ok (Some m) else Err Processors) ≡ Ok p → AreSome p
    by true within told =
        let same : Some m ≡ p = cc in
        subst AreSome same (grind (arith, nat_tests, within), grind (arith, nat_tests, within))
    by false none told = cc

given_some : (o : Option (List ℕ)) (p : Option ℕ) → processors_given o ≡ Ok p → AreSome p
given_some None p e = let same : None ≡ p = cc in subst AreSome same tt
given_some (Some text) p e = read_some (few_digits text) p e

-- the processors of a conversion, step by step
module _ (texts : ConvertTexts) (c : Conversion) where
  abbrev Gives : Result Conversion ConvertMistake → Type 0
  Gives r = r ≡ Ok c → processors_given texts.processors ≡ Ok c.processors

  abbrev made : Option Unit → List ℕ → ℕ → Option ℕ → Arrivals → ConvertFormat → Conversion
  made unit quanta switch processors arrivals format =
      record { format = format; unit = unit; quanta = quanta; switch = switch; processors = processors; arrivals = arrivals }

  abbrev with_format : Option ConvertFormat → Option Unit → List ℕ → ℕ → Option ℕ → Arrivals → Result Conversion ConvertMistake
  with_format named unit quanta switch processors arrivals = format_for named (length quanta) >>= λ format. Ok (made unit quanta switch processors arrivals format)

  abbrev if_longer : Option ConvertFormat → Option Unit → List ℕ → ℕ → Option ℕ → Arrivals → Result Conversion ConvertMistake
  if_longer named unit quanta switch processors arrivals =
      longer_than (counted_in unit) (first_not_above switch quanta) >>= λ _. with_format named unit quanta switch processors arrivals

  abbrev with_arrivals : Option ConvertFormat → Option Unit → List ℕ → ℕ → Option ℕ → Result Conversion ConvertMistake
  with_arrivals named unit quanta switch processors =
      arrivals_given texts.arrivals >>= λ arrivals. if_longer named unit quanta switch processors arrivals

  formatted : (unit : Option Unit) (quanta : List ℕ) (switch : ℕ) (processors : Option ℕ) (arrivals : Arrivals) (r : Result ConvertFormat ConvertMistake)
      → (r >>= λ format. Ok (made unit quanta switch processors arrivals format)) ≡ Ok c → processors ≡ c.processors
  formatted unit quanta switch processors arrivals (Ok format) e =
      let same : made unit quanta switch processors arrivals format ≡ c = cc in ap (λ (v : Conversion). v.processors) same
  formatted unit quanta switch processors arrivals (Err mistake) e = cc

  longer : (named : Option ConvertFormat) (unit : Option Unit) (quanta : List ℕ) (switch : ℕ) (processors : Option ℕ) (arrivals : Arrivals)
      (r : Result ℕ ConvertMistake) → (r >>= λ _. with_format named unit quanta switch processors arrivals) ≡ Ok c → processors ≡ c.processors
  longer named unit quanta switch processors arrivals (Ok length') e =
      formatted unit quanta switch processors arrivals (format_for named (length quanta)) e
  longer named unit quanta switch processors arrivals (Err mistake) e = cc

  arrived : (named : Option ConvertFormat) (unit : Option Unit) (quanta : List ℕ) (switch : ℕ) (processors : Option ℕ) (r : Result Arrivals ConvertMistake)
      → (r >>= λ arrivals. if_longer named unit quanta switch processors arrivals) ≡ Ok c → processors ≡ c.processors
  arrived named unit quanta switch processors (Ok arrivals) e =
      longer named unit quanta switch processors arrivals (longer_than (counted_in unit) (first_not_above switch quanta)) e
  arrived named unit quanta switch processors (Err mistake) e = cc

  processed : (named : Option ConvertFormat) (unit : Option Unit) (quanta : List ℕ) (switch : ℕ) (r : Result (Option ℕ) ConvertMistake)
      → (r >>= λ processors. with_arrivals named unit quanta switch processors) ≡ Ok c → r ≡ Ok c.processors
  processed named unit quanta switch (Ok processors) e =
      ap {B = Result (Option ℕ) ConvertMistake} (λ (p : Option ℕ). Ok p)
      (arrived named unit quanta switch processors (arrivals_given texts.arrivals) e)
  processed named unit quanta switch (Err mistake) e = cc

  abbrev with_processors : Option ConvertFormat → Option Unit → List ℕ → ℕ → Result Conversion ConvertMistake
  with_processors named unit quanta switch = processors_given texts.processors >>= λ processors. with_arrivals named unit quanta switch processors

  switched : (named : Option ConvertFormat) (unit : Option Unit) (quanta : List ℕ) (r : Result ℕ ConvertMistake)
      → Gives (r >>= λ switch. with_processors named unit quanta switch)
  switched named unit quanta (Ok switch) e = processed named unit quanta switch (processors_given texts.processors) e
  switched named unit quanta (Err mistake) e = cc

  abbrev with_switch : Option ConvertFormat → Option Unit → List ℕ → Result Conversion ConvertMistake
  with_switch named unit quanta = switch_given (counted_in unit) texts.switch >>= λ switch. with_processors named unit quanta switch

  cut : (named : Option ConvertFormat) (unit : Option Unit) (r : Result (List ℕ) ConvertMistake) → Gives (r >>= λ quanta. with_switch named unit quanta)
  cut named unit (Ok quanta) e = switched named unit quanta (switch_given (counted_in unit) texts.switch) e
  cut named unit (Err mistake) e = cc

  abbrev with_quanta : Option ConvertFormat → Option Unit → Result Conversion ConvertMistake
  with_quanta named unit = quantum_given (counted_in unit) texts.quantum >>= λ quanta. with_switch named unit quanta

  measured : (named : Option ConvertFormat) (r : Result (Option Unit) ConvertMistake) → Gives (r >>= λ unit. with_quanta named unit)
  measured named (Ok unit) e = cut named unit (quantum_given (counted_in unit) texts.quantum) e
  measured named (Err mistake) e = cc

  named_first : (r : Result (Option ConvertFormat) ConvertMistake) → Gives (r >>= λ named. unit_given texts.unit >>= λ unit. with_quanta named unit)
  named_first (Ok named) e = measured named (unit_given texts.unit) e
  named_first (Err mistake) e = cc

  asked_some : conversion_of texts ≡ Ok c → AreSome c.processors
  unfolding conversion_of
  asked_some e = given_some texts.processors c.processors (named_first (format_given texts.format) e)

pub conversions_have_no_fault : ConversionsHaveNoFault
conversions_have_no_fault texts c name list a asked is script made =
    elim (lists_become_plans name c list a is (asked_some texts c asked) script made) [
      | inl none ↦ inl none
      | inr w ↦ inr (subst (λ (t : List ℕ). faults (rows t) ≡ []) (sym w.text) (no_fault w.processors w.quantum _ w.plan w.written))
    ]
