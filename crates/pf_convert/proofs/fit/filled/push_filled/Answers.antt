use Rattle.std.proofs.Common.{◌++◌, ◌∙◌, ap, codes}
use Rattle.std.proofs.lemmas.Result.{on_ok_weaker}
use Rattle.pf_convert.specs.Fit.Filled.{filled, word_text}
use Rattle.pf_convert.proofs.FitLemmas.Filling.{all_filled, blank_passed, byte_passed}
use Rattle.pf_convert.proofs.fit.filled.push_filled.Goals as goal
use Rattle.pf_convert.proofs.fit.filled.push_filled.Goals.{then-byte-eq32+in_ok-push_word, else-byte-eq32+in_ok-push}

pub loop-byte-preserved : goal.loop-byte-preserved
loop-byte-preserved c =
    elim c.if-byte-eq32.branch [
      | then-byte-eq32+in_ok-push_word w ↦
          blank_passed c.loop-byte.text.items c.if-byte-eq32.text.items (c.args.text.now.items ++ filled c.args.words.now) c.loop-byte.word.items
          c.if-byte-eq32.word.items c.loop-byte.width c.if-byte-eq32.width c.args.words.now c.loop-byte.byte-index c.loop-byte-test.true w.if-byte-eq32.true
          (cc (w.in_ok-push_word.ensures, w.deref.ensures.value)) (cc (w.width_after-width.ensures, w.deref-then-byte-eq32.ensures.value))
          (cc w.new-word-then-byte-eq32.ensures.items) c.loop-byte.invariant
      | else-byte-eq32+in_ok-push w ↦
          byte_passed c.loop-byte.text.items c.if-byte-eq32.text.items (c.args.text.now.items ++ filled c.args.words.now) c.loop-byte.word.items
          c.if-byte-eq32.word.items c.loop-byte.width c.if-byte-eq32.width c.args.words.now c.loop-byte.byte-index c.loop-byte-test.true w.if-byte-eq32.false
          (cc) (cc) (cc w.in_ok-push.ensures.items) c.loop-byte.invariant
    ]

pub returns : goal.returns
returns c =
    on_ok_weaker c.push_last.result
    (λ e. e ∙ ap (λ v. c.loop-byte.text.items ++ (word_text c.loop-byte.width v ++ codes "\n")) c.deref-2.ensures.value
    ∙ all_filled c.loop-byte.text.items (c.args.text.now.items ++ filled c.args.words.now) c.loop-byte.word.items c.loop-byte.width c.args.words.now
    c.loop-byte.byte-index c.loop-byte-test.false c.loop-byte.invariant)
    c.push_last.ensures
