use Rattle.std.proofs.Common.{◌≡◌, ◌∙◌, Some, All, filter, length, ap, ap₂, sym, subst}
use Rattle.std.specs.Option.{option_map}
use Rattle.pf_scenario.specs.Edit.{IsEvent}
use Rattle.pf_scenario.specs.System.{System}
use Rattle.pf_scenario.specs.declared.event.Numbered.{Numbered}
use Rattle.pf_run.specs.Computed.{run_of}
use Rattle.pf_why.specs.Ranking.{is_until}
use Rattle.pf_why.specs.Upcoming.{brought_in, upcoming_by, upcoming_of}
use Rattle.pf_why.proofs.Candidates.{can_all_now, can_own_now, log_now, upcoming_is, xs_is}
use Rattle.pf_why.proofs.Halts.{IsBrought, brought_by}
use Rattle.pf_why.proofs.upcoming.upcoming_at.Goals as goal

pub brought_in-requires : goal.brought_in-requires
brought_in-requires c =
    let s = c.args.scenario.now in
    let n = length c.args.rows.now in
    let known = c.in_ok-ledger.ensures in
    let xs = c.deref-2.result.now in
    let of_xs = c.deref-2.ensures.value ∙ c.in_ok-standing.ensures ∙ ap (filter (is_until c.args.t)) c.deref.ensures.value in
    let log = log_now s n c.in_ok-ledger.ledger known c.args.t c.requires.within xs of_xs in
    subst (λ (z : System). All (λ (x : Numbered). IsEvent z x.event) xs) (sym known.settings) log.limits

pub upcoming_by-requires-clause-own : goal.upcoming_by-requires-clause-own
upcoming_by-requires-clause-own c =
    let s = c.args.scenario.now in
    let n = length c.args.rows.now in
    let ledger = c.in_ok-ledger.ledger in
    let known = c.in_ok-ledger.ensures in
    let xs = c.deref-2.result.now in
    let of_xs = c.deref-2.ensures.value ∙ c.in_ok-standing.ensures ∙ ap (filter (is_until c.args.t)) c.deref.ensures.value in
    let b : IsBrought ledger.settings.base xs c.in-Some.brought =
    brought_by ledger.settings.base c.args.task xs c.in-Some.brought (sym c.brought_in.ensures ∙ c.in-Some.is) in
    can_own_now s n ledger known c.args.t c.requires.within xs of_xs c.in-Some.brought b.join b.among b.brings
    c.quanta-ran.result.now c.deref-in-Some.result.now c.diary.result.now c.quanta-ran.ensures c.diary.ensures
    (c.deref-in-Some.ensures.value ∙ c.in_ok-own-in-Some.ensures)

pub upcoming_by-requires-clause-all : goal.upcoming_by-requires-clause-all
upcoming_by-requires-clause-all c =
    let s = c.args.scenario.now in
    let n = length c.args.rows.now in
    let ledger = c.in_ok-ledger.ledger in
    let known = c.in_ok-ledger.ensures in
    let xs = c.deref-2.result.now in
    let of_xs = c.deref-2.ensures.value ∙ c.in_ok-standing.ensures ∙ ap (filter (is_until c.args.t)) c.deref.ensures.value in
    let b : IsBrought ledger.settings.base xs c.in-Some.brought =
    brought_by ledger.settings.base c.args.task xs c.in-Some.brought (sym c.brought_in.ensures ∙ c.in-Some.is) in
    let same : c.deref-in-Some-2.result.now ≡ xs = c.deref-in-Some-2.ensures.value ∙ sym c.deref-2.ensures.value in
    rw same
    (can_all_now s n ledger known c.args.t c.requires.within xs of_xs c.in-Some.brought b.join b.among b.brings
    c.quanta-ran.result.now c.deref-in-Some.result.now c.diary.result.now c.quanta-ran.ensures c.diary.ensures
    (c.deref-in-Some.ensures.value ∙ c.in_ok-own-in-Some.ensures))

pub returns-in-Some : goal.returns-in-Some
returns-in-Some c =
    let s = c.args.scenario.now in
    let n = length c.args.rows.now in
    let ledger = c.in_ok-ledger.ledger in
    let known = c.in_ok-ledger.ensures in
    let xs = c.deref-2.result.now in
    let of_xs = c.deref-2.ensures.value ∙ c.in_ok-standing.ensures ∙ ap (filter (is_until c.args.t)) c.deref.ensures.value in
    let found : brought_in ledger.settings.base xs c.args.task ≡ Some c.in-Some.brought = sym c.brought_in.ensures ∙ c.in-Some.is in
    let b : IsBrought ledger.settings.base xs c.in-Some.brought = brought_by ledger.settings.base c.args.task xs c.in-Some.brought found in
    let same : c.deref-in-Some-2.result.now ≡ xs = c.deref-in-Some-2.ensures.value ∙ sym c.deref-2.ensures.value in
    let up = upcoming_is s n ledger known c.args.t c.requires.within xs of_xs c.in-Some.brought b.join b.among b.brings
    c.quanta-ran.result.now c.deref-in-Some.result.now c.diary.result.now c.quanta-ran.ensures c.diary.ensures
    (c.deref-in-Some.ensures.value ∙ c.in_ok-own-in-Some.ensures) in
    ap Some (c.in_ok-upcoming_by-in-Some.ensures
    ∙ ap (λ ys. upcoming_by c.in-Some.brought c.quanta-ran.result.now c.deref-in-Some.result.now ys c.args.t) same ∙ up)
    ∙ sym (ap (option_map (upcoming_of (run_of s n) xs c.args.t)) found)
    ∙ ap₂ (λ (z : System) ys. option_map (upcoming_of (run_of s n) ys c.args.t) (brought_in z.base ys c.args.task)) known.settings
    (xs_is s n ledger known c.args.t c.requires.within xs of_xs)

pub returns : goal.returns
returns c =
    let s = c.args.scenario.now in
    let n = length c.args.rows.now in
    let ledger = c.in_ok-ledger.ledger in
    let known = c.in_ok-ledger.ensures in
    let xs = c.deref-2.result.now in
    let of_xs = c.deref-2.ensures.value ∙ c.in_ok-standing.ensures ∙ ap (filter (is_until c.args.t)) c.deref.ensures.value in
    sym (ap (option_map (upcoming_of (run_of s n) xs c.args.t)) (sym c.brought_in.ensures ∙ c.in-None.is))
    ∙ ap₂ (λ (z : System) ys. option_map (upcoming_of (run_of s n) ys c.args.t) (brought_in z.base ys c.args.task)) known.settings
    (xs_is s n ledger known c.args.t c.requires.within xs of_xs)
