use Rattle.std.proofs.Common.{◌+◌, ◌∷◌, ◌≡◌, ap, arith, subst, sym, ◌∙◌, Some}
use Rattle.std.specs.List.{slice_get}
use Rattle.std.proofs.lemmas.Option.{slice_get_within}
use Rattle.pf_desk.specs.Views.{lent_entry}
use Rattle.pf_replies.specs.Batched.{HasShown}
use Rattle.pf_replies.proofs.Batches.{batched, next_entry, one_shown, places_left}
use Rattle.pf_replies.proofs.batching_desk.BatchingDesk.show.Goals as goal

pub invariant_of-self : goal.invariant_of-self
invariant_of-self c =
    let k = c.self.inside.shown in
    let d = c.self.inside.desk in
    let e = lent_entry c.in-Some.entry in
    let at : Some e ≡ slice_get d.history k = c.in-Some.ensures ∙ ap (λ es. slice_get es k) c.history-history.ensures.value in
    record {
      plain = c.self.invariant.plain;
      within = omega (arith, slice_get_within d.history k e (sym at));
      places = places_left d k e (next_entry d.history k e at) c.self.invariant.places;
    }

pub returns : goal.returns
returns c =
    let k = c.self.inside.shown in
    let d = c.self.inside.desk in
    let w = c.self.inside.waiting.items in
    let e = lent_entry c.in-Some.entry in
    let at : Some e ≡ slice_get d.history k = c.in-Some.ensures ∙ ap (λ es. slice_get es k) c.history-history.ensures.value in
    subst (λ b. HasShown c.args.text.now.items c.push_reply.new.text.items b (batched d w (k + 1))) c.self.view_is
    (one_shown d k e (next_entry d.history k e at) w c.args.text.now.items c.push_reply.new.text.items c.in_ok-push_reply.ensures)
