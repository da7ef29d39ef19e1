use Rattle.std.proofs.Common.{◌≡◌, ◌∙◌, ◌++◌, None, codes, map, ap}
use Rattle.pf_place.specs.Lent.{lent_row}
use Rattle.pf_run.specs.Computed.{run_of}
use Rattle.pf_scenario.specs.Scenario.{events_of}
use Rattle.pf_why_text.specs.Ranks.{last_that_runs, seating_of}
use Rattle.pf_why_json.specs.Events.{events_json}
use Rattle.pf_why_json.specs.Members.{list_of}
use Rattle.pf_why_json.specs.Ranks.{places_json, ranks_json}
use Rattle.pf_why_json.specs.Slot.{asked_json, end_json, front_json, middle_json}
use Rattle.pf_why_json.proofs.Parts.{six_parts}
use Rattle.pf_why_json.proofs.slot.slot_json.Goals as goal

pub returns : goal.returns
returns c =
    let seen = c.args.snapshot.now in
    let names = c.args.names.now in
    let seats = seating_of c.args.seating in
    let ranking = c.args.ranking.now in
    let p = c.args.point in
    six_parts c.new-text.result.items c.push_front.new.text.items c.push_list.new.text.items c.push_middle.new.text.items c.push_list-2.new.text.items
    c.push_list-3.new.text.items c.push_end.new.text.items
    (front_json (asked_json names seen seats ranking c.args.asked) p)
    (list_of (codes ",\"events\":")
    (events_json names seen.state.plan (run_of seen.state.plan seen.state.now) seen.denials (events_of seen.state.plan seats.slot)))
    (middle_json p)
    (list_of (codes ",\"processors\":") (places_json seen.state.plan.settings.processors seats.row))
    (list_of (codes ",\"ranking\":") (ranks_json names seats (last_that_runs seats ranking) 1 None ranking))
    (end_json p)
    c.new-text.ensures.items
    (c.in_ok-push_front.ensures ∙ ap (λ a. c.new-text.result.items ++ front_json a p) (c.deref.ensures.value ∙ c.in_ok-asked.ensures))
    (c.in_ok-push_list.ensures
    ∙ ap (λ xs. c.push_front.new.text.items ++ list_of (codes ",\"events\":") xs) (ap (map (λ v. v.items)) c.deref-2.ensures.value ∙ c.in_ok-events.ensures))
    c.in_ok-push_middle.ensures
    (c.in_ok-push_list-2.ensures
    ∙ ap (λ xs. c.push_middle.new.text.items ++ list_of (codes ",\"processors\":") xs)
    (ap (map (λ v. v.items)) c.deref-3.ensures.value ∙ c.in_ok-places.ensures ∙ ap (λ m. places_json m seats.row) c.requires.processors))
    (c.in_ok-push_list-3.ensures
    ∙ ap (λ xs. c.push_list-2.new.text.items ++ list_of (codes ",\"ranking\":") xs)
    (ap (map (λ v. v.items)) c.deref-4.ensures.value ∙ c.in_ok-ranks.ensures
    ∙ ap (λ last. ranks_json names seats last 1 None ranking) c.last_of-last.ensures))
    c.in_ok-push_end.ensures
