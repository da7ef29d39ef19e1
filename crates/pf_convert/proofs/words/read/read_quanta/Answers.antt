use Rattle.std.proofs.Common.{◌≡◌, ◌∙◌, ◌+◌, Err, sym, subst}
use Rattle.std.proofs.lemmas.Grind.{common_steps}
use Rattle.std.proofs.Common.{arith}
use Rattle.pf_convert.specs.Words.Reading.{quanta_given}
use Rattle.pf_convert.proofs.WordsLemmas.Commas.{IsReadTo, all_read, byte_read, comma_read, comma_refused}
use Rattle.pf_convert.proofs.words.read.read_quanta.Goals as goal
use Rattle.pf_convert.proofs.words.read.read_quanta.Goals.{then-text-end-eq44+in_ok-quanta, else-text-end-eq44}

pub returns-in_err-quanta-clause-value : goal.returns-in_err-quanta-clause-value
returns-in_err-quanta-clause-value c =
    let bad : Err c.in_err-quanta.field-0.0 ≡ quanta_given c.args.unit c.args.text.now =
    comma_refused c.args.unit c.args.text.now c.loop-end.quanta c.in_err-quanta.field-0.0 c.loop-end.start c.loop-end.end c.loop-end.invariant c.loop-end-test.true
    c.if-text-end-eq44.true c.in_err-quanta.ensures.value in
    grind (arith, common_steps, bad)

pub loop-end-preserved : goal.loop-end-preserved
loop-end-preserved c =
    let unit = c.args.unit in
    let text = c.args.text.now in
    let next = c.loop-end.end + 1 in
    elim c.if-text-end-eq44.branch [
      | then-text-end-eq44+in_ok-quanta w ↦
          subst (λ s. IsReadTo unit text c.if-text-end-eq44.quanta s next) (sym w.start-is)
          (subst (λ q. IsReadTo unit text q next next) (sym w.quanta-is)
          (comma_read unit text c.loop-end.quanta w.in_ok-quanta.quanta c.loop-end.start c.loop-end.end c.loop-end.invariant c.loop-end-test.true
          w.if-text-end-eq44.true w.in_ok-quanta.ensures.value w.in_ok-quanta.ensures.short))
      | else-text-end-eq44 w ↦
          subst (λ s. IsReadTo unit text c.if-text-end-eq44.quanta s next) (sym w.start-is)
          (subst (λ q. IsReadTo unit text q c.loop-end.start next) (sym w.quanta-is)
          (byte_read unit text c.loop-end.quanta c.loop-end.start c.loop-end.end c.loop-end.invariant c.loop-end-test.true w.if-text-end-eq44.false))
    ]

pub returns-clause-value : goal.returns-clause-value
returns-clause-value c =
    c.with_quantum-2.ensures.value
    ∙ all_read c.args.unit c.args.text.now c.loop-end.quanta c.loop-end.start c.loop-end.end c.loop-end.invariant c.loop-end-test.false
