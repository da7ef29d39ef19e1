use Rattle.std.proofs.Common.{ℕ, ◌<◌, ◌∙◌, [], ◌∷◌, length, get_or, sym, ap, subst, arith, length-append}
use Rattle.std.proofs.lemmas.List.{get_or_read}
use Rattle.pf_convert.specs.declared.fit.shown_task.ShownTask.{ShownTask}
use Rattle.pf_convert.specs.declared.list.listed.Listed.{Listed}
use Rattle.pf_convert.specs.declared.margins.margin.Margin.{Margin}
use Rattle.pf_convert.specs.declared.slotted.Slotted.{Slotted}
use Rattle.pf_convert.specs.Fit.Answers.{IsShownAs}
use Rattle.pf_convert.proofs.ConversionLemmas.Each.{each_more}
use Rattle.pf_convert.proofs.fit.fit.shown_tasks.Goals as goal

pub loop-place-preserved : goal.loop-place-preserved
loop-place-preserved c =
    let listed = c.args.listed.now in
    let slots = c.args.plan.now.tasks.items in
    let margins = c.args.margins.now.tasks.items in
    let all = c.loop-place.tasks.items in
    let at = c.loop-place.place in
    let many = c.loop-place.invariant.as_many in
    let e = c.in_ok-push.ensures.items in
    let x : ShownTask = record {
      name = c.as_bytes.result;
      times = (get_or listed at c.index-listed-place-in-loop-place.result).times;
      slots = c.index.result.now;
      margin = c.index-in-loop-place.result.now;
    } in
    let in_listed : at < length listed = c.loop-place-test.true in
    let in_slots : at < length slots = omega (arith, in_listed, c.requires.slots) in
    let in_margins : at < length margins = omega (arith, in_listed, c.requires.margins) in
    let is_at = λ (k : ℕ) (t : ShownTask). (l : Listed) (s : Slotted) (m : Margin) → IsShownAs (get_or listed k l) (get_or slots k s) (get_or margins k m) t in
    let here : is_at at x = λ l s m. record {
      name =
          c.as_bytes.ensures.bytes
          ∙ ap (λ (v : Listed). v.name)
          (sym c.index-listed-place.is ∙ get_or_read listed at c.index-listed-place.result in_listed c.index-listed-place.is l);
      times =
          ap (λ (v : Listed). v.times)
          (sym c.index-listed-place-in-loop-place.is
          ∙ get_or_read listed at c.index-listed-place-in-loop-place.result in_listed c.index-listed-place-in-loop-place.is l);
      in_slots = get_or_read slots at c.index.result.now in_slots c.index.ensures s;
      may_go = get_or_read margins at c.index-in-loop-place.result.now in_margins c.index-in-loop-place.ensures m;
    } in
    record {
      as_many = omega (arith, ap length e, length-append all (x ∷ []), many);
      each = each_more is_at all x c.loop-place.invariant.each (subst (λ k. is_at k x) (sym many) here) c.push.new.self.items e;
    }

pub returns : goal.returns
returns c = record {
  as_many = omega (arith, c.loop-place.invariant.as_many, c.loop-place.auto.place-end, c.loop-place-test.false);
  each = λ k l s m t lt. c.loop-place.invariant.each k t lt l s m;
}
