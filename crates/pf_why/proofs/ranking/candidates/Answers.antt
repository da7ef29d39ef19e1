use Rattle.std.proofs.Common.{◌≡◌, ◌∙◌, ◌+◌, ◌++◌, ◌∷◌, [], None, Some, Option, filter, filter_map, get_or, length, take, ap, sym, subst, arith}
use Rattle.std.specs.List.{cons_option}
use Rattle.std.specs.Option.{option_and_then}
use Rattle.std.proofs.lemmas.List.{append-nil, get_or_default, take_all}
use Rattle.std.proofs.lemmas.List.Elements.{Contains-get_or}
use Rattle.pf_scenario.specs.Edit.{IsEvent}
use Rattle.pf_scenario.specs.System.{System}
use Rattle.pf_scenario.specs.declared.event.Event.TheVariants.{Join}
use Rattle.pf_scenario.specs.declared.event.Numbered.{Numbered}
use Rattle.pf_run.specs.Computed.{run_of}
use Rattle.pf_run.specs.Inside.{join_of}
use Rattle.pf_why.specs.declared.subtask.Subtask.{Subtask}
use Rattle.pf_why.specs.Ranking.{is_until}
use Rattle.pf_why.proofs.Candidates.{can_own_now, candidate_is, candidate_of, candidates_are, found_more, log_now, xs_is}
use Rattle.pf_why.proofs.ranking.candidates.Goals as goal
use Rattle.pf_why.proofs.ranking.candidates.Goals.{in-Some+in_ok-own+in_ok-next, in-Some-2+in_ok-push, in_default-2, in_default}

abbrev no_event : Numbered
no_event = record { id = 0; event = Join 0 0 0 0 0 }

pub joined-requires : goal.joined-requires
joined-requires c =
    let s = c.args.scenario.now in
    let n = length c.args.rows.now in
    let ledger = c.in_ok-ledger.ledger in
    let known = c.in_ok-ledger.ensures in
    let xs = c.deref-numbered-items.result.now in
    let k = c.loop-numbered.numbered-index in
    let of_xs = c.deref-numbered-items.ensures.value ∙ c.in_ok-standing.ensures ∙ ap (filter (is_until c.args.t)) c.deref.ensures.value in
    let log = log_now s n ledger known c.args.t c.requires.within xs of_xs in
    let x : Numbered = get_or xs k no_event in
    subst (λ (z : System). IsEvent z x.event) (sym known.settings) (log.limits k no_event (omega arith))

pub candidate-requires : goal.candidate-requires
candidate-requires c =
    let s = c.args.scenario.now in
    let n = length c.args.rows.now in
    let ledger = c.in_ok-ledger.ledger in
    let known = c.in_ok-ledger.ensures in
    let xs = c.deref-numbered-items.result.now in
    let k = c.loop-numbered.numbered-index in
    let of_xs = c.deref-numbered-items.ensures.value ∙ c.in_ok-standing.ensures ∙ ap (filter (is_until c.args.t)) c.deref.ensures.value in
    can_own_now s n ledger known c.args.t c.requires.within xs of_xs c.in-Some.task (get_or xs k no_event)
    (Contains-get_or xs k no_event (omega arith)) (sym c.joined.ensures ∙ c.in-Some.is)
    c.quanta.result.now c.deref-in-Some.result.now c.diary.result.now c.quanta.ensures c.diary.ensures
    (c.deref-in-Some.ensures.value ∙ c.in_ok-own.ensures)

pub returns : goal.returns
returns c =
    let s = c.args.scenario.now in
    let n = length c.args.rows.now in
    let ledger = c.in_ok-ledger.ledger in
    let known = c.in_ok-ledger.ensures in
    let xs = c.deref-numbered-items.result.now in
    let of_xs = c.deref-numbered-items.ensures.value ∙ c.in_ok-standing.ensures ∙ ap (filter (is_until c.args.t)) c.deref.ensures.value in
    let h : Numbered → Option Subtask = λ x. option_and_then (candidate_of (run_of s n) xs c.args.t) (join_of ledger.settings.base x) in
    c.loop-numbered.invariant
    ∙ ap (filter_map h) (take_all c.loop-numbered.numbered-index xs (omega arith))
    ∙ candidates_are s (run_of s n) c.args.t xs ledger.settings.base (xs_is s n ledger known c.args.t c.requires.within xs of_xs)
    (ap (λ (z : System). z.base) known.settings)

pub loop-numbered-preserved : goal.loop-numbered-preserved
loop-numbered-preserved c =
    let s = c.args.scenario.now in
    let n = length c.args.rows.now in
    let ledger = c.in_ok-ledger.ledger in
    let known = c.in_ok-ledger.ensures in
    let xs = c.deref-numbered-items.result.now in
    let k = c.loop-numbered.numbered-index in
    let of_xs = c.deref-numbered-items.ensures.value ∙ c.in_ok-standing.ensures ∙ ap (filter (is_until c.args.t)) c.deref.ensures.value in
    let x : Numbered = get_or xs k no_event in
    let h : Numbered → Option Subtask = λ y. option_and_then (candidate_of (run_of s n) xs c.args.t) (join_of ledger.settings.base y) in
    let before = c.loop-numbered.invariant in
    let more : (o : Option Subtask) → h x ≡ o → filter_map h (take (k + 1) xs) ≡ filter_map h (take k xs) ++ cons_option o [] =
    λ o gives. found_more h xs k x o (omega arith) (get_or_default xs k x no_event (omega arith)) gives in
    elim c.match-joined.branch [
      | in-Some+in_ok-own+in_ok-next w ↦
          let same =
          candidate_is s n ledger known c.args.t c.requires.within xs of_xs w.in-Some.task x
          (Contains-get_or xs k no_event (omega arith)) (sym c.joined.ensures ∙ w.in-Some.is)
          w.quanta.result.now w.deref-in-Some.result.now w.diary.result.now w.quanta.ensures w.diary.ensures
          (w.deref-in-Some.ensures.value ∙ w.in_ok-own.ensures) in
          elim w.match-branch-5.branch [
            | in-Some-2+in_ok-push v ↦
                ap (λ y. y.items) w.found-is ∙ ap (λ y. y.items) v.found-is ∙ v.in_ok-push.ensures.items
                ∙ ap (λ ys. ys ++ v.in-Some-2.next ∷ []) before
                ∙ sym (more (Some v.in-Some-2.next) (sym same ∙ sym w.in_ok-next.ensures ∙ v.in-Some-2.is))
            | in_default-2 v ↦
                ap (λ y. y.items) w.found-is ∙ ap (λ y. y.items) v.found-is
                ∙ sym (append-nil c.loop-numbered.found.items)
                ∙ ap (λ ys. ys ++ []) before
                ∙ sym (more None (sym same ∙ sym w.in_ok-next.ensures ∙ v.in_default-2.is))
          ]
      | in_default w ↦
          ap (λ y. y.items) w.found-is
          ∙ sym (append-nil c.loop-numbered.found.items)
          ∙ ap (λ ys. ys ++ []) before
          ∙ sym (more None (ap (option_and_then (candidate_of (run_of s n) xs c.args.t)) (sym c.joined.ensures ∙ w.in_default.is)))
    ]
