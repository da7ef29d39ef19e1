use Rattle.std.proofs.Common.{◌≡◌, [], ◌∷◌, ◌++◌, refl, sym, ap, ◌∙◌, subst}
use Rattle.pf_desk.specs.Recorded.{Recorded}
use Rattle.pf_desk.specs.Kept.{IsKeptDesk}
use Rattle.pf_desk.proofs.Entering.{Commits, is_desk, same_room, commit_reply, commit_answers, commit_rest, commit_parts}
use Rattle.pf_desk.proofs.Slots.{can_follow}
use Rattle.pf_desk.proofs.Readying.{seen_alike}
use Rattle.pf_desk.proofs.desk.Desk.commit.Goals as goal
use Rattle.pf_desk.proofs.desk.Desk.commit.Goals.{After-self, After-enter}

histories : (c : After-self) → c.prepared.inside.history.value.entries ≡ c.self.inside.history.entries
histories c = ap (λ r. r.history) c.prepared.view_is ∙ c.requires.ready.history ∙ sym (ap (λ d. d.history) c.self.view_is)

commits : (c : After-self) →
    Commits c.self.inside.run c.prepared.inside.run c.self.inside.history.entries c.prepared.inside.entry
commits c = record {
  is = c.self.invariant.keeps;
  after = subst (λ es. IsKeptDesk c.prepared.inside.run.scenario c.prepared.inside.run.timeline (es ++ c.prepared.inside.entry ∷ [])) (histories c)
      c.prepared.invariant.keeps;
  settings = ap (λ r. r.settings) c.prepared.view_is
      ∙ c.requires.ready.settings
      ∙ sym (ap (λ d. d.state.plan.settings) c.self.view_is);
  every = ap (λ r. r.every) c.prepared.view_is ∙ c.requires.ready.every ∙ sym (ap (λ d. d.every) c.self.view_is);
}

pub enter-requires-clause-next : goal.enter-requires-clause-next
enter-requires-clause-next c = can_follow _ _ _ _ _ c.self.invariant (commit_reply _ _ _ _ (commits ((goal.at.enter-requires-clause-next c).After-self)))

pub invariant_of-self : goal.invariant_of-self
invariant_of-self c = commit_parts _ _ _ _ _ _ (commits ((goal.at.invariant_of-self c).After-self)) c.self.invariant.processors (same_room _) c.enter.ensures

entries : (c : After-enter) → c.enter.new.self.entries ≡ c.self.inside.history.entries ++ c.prepared.inside.entry ∷ []
entries c = ap (λ (k : Recorded). k.entries) c.enter.ensures

pub returns-clause-answers : goal.returns-clause-answers
returns-clause-answers c = rw (← c.self.view_is, ← c.prepared.view_is, entries ((goal.at.returns-clause-answers c).After-enter)) (commit_answers _ _ _ _ (commits ((goal.at.returns-clause-answers c).After-self)) _ _)

pub returns-clause-shown : goal.returns-clause-shown
returns-clause-shown c =
    rw (← c.prepared.view_is)
    (c.prepared.invariant.seen
    ∙ seen_alike c.prepared.inside.run.scenario c.prepared.inside.run.timeline _ c.enter.new.self.entries 0 0
    (ap (λ es. es ++ c.prepared.inside.entry ∷ []) (histories ((goal.at.returns-clause-shown c).After-self)) ∙ sym (entries ((goal.at.returns-clause-shown c).After-enter))))

pub returns-clause-desk : goal.returns-clause-desk
returns-clause-desk c = is_desk _ _ _ _ (invariant_of-self c).keeps

pub returns-clause-refused : goal.returns-clause-refused
returns-clause-refused c = rw (← c.self.view_is, entries ((goal.at.returns-clause-refused c).After-enter)) (commit_rest _ _ _ _ (commits ((goal.at.returns-clause-refused c).After-self)) _ _ c.prepared.inside.entry.reply refl)
