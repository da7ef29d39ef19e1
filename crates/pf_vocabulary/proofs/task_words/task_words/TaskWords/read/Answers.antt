use Rattle.std.proofs.Common.{◌≡◌, ◌∙◌, ◌+◌, Option, Some, None, sym, subst, ap}
use Rattle.std.specs.Prelude.{IfOk}
use Rattle.std.proofs.lemmas.Result.{IfOk-weaker}
use Rattle.pf_vocabulary.specs.TaskWords.Reading.{with_item, word_in, words_in}
use Rattle.pf_vocabulary.proofs.TaskWordsLemmas.Commas.{IsReadTo, all_read, byte_read, comma_read, comma_refused}
use Rattle.pf_vocabulary.proofs.task_words.task_words.TaskWords.read.Goals as goal
use Rattle.pf_vocabulary.proofs.task_words.task_words.TaskWords.read.Goals.{then-text-end-eq44+in_ok-more+in-Some, else-text-end-eq44}

pub returns-in-None : goal.returns-in-None
returns-in-None c =
    comma_refused c.args.text.now c.loop-end.words c.loop-end.start c.loop-end.end c.loop-end.invariant c.loop-end-test.true c.if-text-end-eq44.true
    (sym c.in-None.is ∙ c.in_ok-more.ensures)

pub loop-end-preserved : goal.loop-end-preserved
loop-end-preserved c =
    let text = c.args.text.now in
    let next = c.loop-end.end + 1 in
    elim c.if-text-end-eq44.branch [
      | then-text-end-eq44+in_ok-more+in-Some w ↦
          subst (λ s. IsReadTo text c.if-text-end-eq44.words s next) (sym w.start-is)
          (subst (λ q. IsReadTo text q next next) (sym w.words-is)
          (comma_read text c.loop-end.words w.in-Some.more c.loop-end.start c.loop-end.end c.loop-end.invariant c.loop-end-test.true
          w.if-text-end-eq44.true (sym w.in-Some.is ∙ w.in_ok-more.ensures)))
      | else-text-end-eq44 w ↦
          subst (λ s. IsReadTo text c.if-text-end-eq44.words s next) (sym w.start-is)
          (subst (λ q. IsReadTo text q c.loop-end.start next) (sym w.words-is)
          (byte_read text c.loop-end.words c.loop-end.start c.loop-end.end c.loop-end.invariant c.loop-end-test.true w.if-text-end-eq44.false))
    ]

pub returns : goal.returns
returns c =
    IfOk-weaker c.with-2.result _ (λ words. words ≡ words_in c.args.text.now)
    (λ words is. is ∙ all_read c.args.text.now c.loop-end.words c.loop-end.start c.loop-end.end c.loop-end.invariant c.loop-end-test.false) c.with-2.ensures
