-- What a picture tells of the listed tasks, by tables of their own events and of those of them that are denied.
use Rattle.std.proofs.Common.{◌≡◌, ◌∙◌, ℕ, List, map, subst, ap}
use Rattle.pf_run.specs.declared.denied.Denied.{Denied}
use Rattle.pf_scenario.specs.declared.event.Numbered.{Numbered}
use Rattle.pf_vocabulary.specs.declared.names.named.Named.{Named}
use Rattle.pf_collections.specs.Table.Lists.{noted_of}
use Rattle.pf_tally.specs.Own.{AreDiaries}
use Rattle.pf_desk.specs.Desk.{Seen}
use Rattle.pf_courses.specs.Listing.{Listing, listings_of}
use Rattle.pf_picture.specs.Drawing.{drawing_of, drawings_of}
use Rattle.pf_picture.specs.Denials.{AreDenialsByTask, drawing_with}

pub drawings_are : (seen : Seen) (names : List Named) (listed : List Listing) (own : List (List Numbered)) (denied : List (List Denied)) (n : ℕ) → AreDiaries seen.state.plan.events own →
    AreDenialsByTask seen.state.plan.events seen.denials denied → listed ≡ listings_of seen.state.plan seen.state.now seen.rows seen.denials → n ≡ seen.state.now →
    map (λ l. drawing_with names (noted_of own l.task) (noted_of denied l.task) n l) listed ≡ drawings_of seen names
unfolding drawings_of
drawings_are seen names listed own denied n diaries denials of_listed of_now =
    let events = seen.state.plan.events in
    let same : (λ (l : Listing). drawing_with names (noted_of own l.task) (noted_of denied l.task) n l) ≡ drawing_of names events n seen.denials =
    λ k l. drawing_with names (diaries.each l.task k) (denials.each l.task k) n l in
    ap (λ f. map f listed) same
    ∙ ap (λ n. map (drawing_of names events n seen.denials) listed) of_now
    ∙ ap (map (drawing_of names events seen.state.now seen.denials)) of_listed

-- the denials of the events that a snapshot shows
pub denials_are : (seen : Seen) (events : List Numbered) (denials : List Denied) (denied : List (List Denied)) → events ≡ seen.state.plan.events → denials ≡ seen.denials →
    AreDenialsByTask events denials denied → AreDenialsByTask seen.state.plan.events seen.denials denied
denials_are seen events denials denied of_events of_denials are =
    let P : List Numbered → Type 0 = λ xs. AreDenialsByTask xs denials denied in
    let Q : List Denied → Type 0 = λ ds. AreDenialsByTask seen.state.plan.events ds denied in
    subst Q of_denials (subst P of_events are)
