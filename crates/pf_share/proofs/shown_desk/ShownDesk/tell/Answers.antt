use Rattle.std.proofs.Common.{◌≡◌, ap, sym, ◌∙◌, subst, refl, List}
use mathlib.Core.List.{IsPrefix}
use Rattle.pf_desk.specs.declared.entry.Entry.{Entry}
use Rattle.pf_share.specs.Histories.{entries_of}
use Rattle.pf_share.proofs.Numbering.{entries_numbered, entries_prefix}
use Rattle.pf_share.proofs.shown_desk.ShownDesk.tell.Goals as goal

pub returns-clause-begins : goal.returns-clause-begins
returns-clause-begins g c =
    let is = c.self.invariant in
    let keeper = c.self.inside.keeper in
    let told : c.learn.new.self.told ≡ c.self.inside.desk.history = ap (λ v. v.told) (c.if-not-learn.ensures.told refl) ∙ ap (λ s. s.history) is.stamp_is in
    let whole : entries_of keeper.seen ≡ c.learn.new.self.told = ap entries_of is.seen ∙ (entries_numbered c.self.inside.desk.history ∙ sym told) in
    subst (λ (h : List Entry). IsPrefix (entries_of c.args.pass.now.seen) h) whole (entries_prefix c.args.pass.now.seen keeper.seen c.tie.ensures.tied)
