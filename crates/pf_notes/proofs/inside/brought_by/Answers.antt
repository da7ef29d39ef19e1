use Rattle.std.proofs.Common.{sym, ◌∙◌}
use Rattle.pf_lemmas.proofs.Finding.{found_all}
use Rattle.pf_scenario.specs.Edit.{IsEvent}
use Rattle.pf_scenario.specs.Event.{is_join_of}
use Rattle.pf_notes.proofs.inside.brought_by.Goals as goal

pub joined_by-requires : goal.joined_by-requires
joined_by-requires c =
    found_all (λ x. is_join_of c.args.task x.event) (λ x. IsEvent c.args.settings x.event) c.args.standing.now c.in-Some.numbered
    (sym c.join_of.ensures ∙ c.in-Some.is) c.requires
