use Rattle.std.proofs.Common.{◌≡◌, ◌+◌, ◌-◌, ◌<◌, ◌^◌, ◌++◌, [], ◌∷◌, length, ap, sym, ◌∙◌, arith}
use Rattle.pf_desk.specs.declared.brief.Brief.TheVariants.{OfSlot}
use Rattle.pf_desk.specs.declared.run.Run.{Run}
use Rattle.pf_desk.specs.Runs.{Noted, brief_behind, brief_in, briefs_in}
use Rattle.pf_desk.proofs.Runs.{runs_go_on, runs_begin, briefs_go_on, briefs_begin}
use Rattle.pf_desk.proofs.briefs.Briefs.push_reserved.Goals as goal
use Rattle.pf_desk.proofs.briefs.Briefs.push_reserved.Goals.{then-not-goes_on, else-not-goes_on}

pub invariant_of-self : goal.invariant_of-self
invariant_of-self c =
    let inside = c.self.inside in
    let run : Run = record { start = inside.count; first = c.args.brief } in
    let few : inside.count + 1 < 2 ^ 63 = omega (arith, c.requires, ap (λ (noted : Noted). noted.room) c.self.view_is) in
    elim c.if-not-goes_on.branch [
      | then-not-goes_on w ↦ rw (w.self-inside-is, w.push_reserved.ensures.items) (runs_begin inside.runs.items run c.self.invariant few)
      | else-not-goes_on w ↦
          rw w.self-inside-is
          (runs_go_on inside.runs.items inside.count c.self.invariant few (omega (arith, ap length c.deref.ensures.value, c.goes_on.ensures.some w.if-not-goes_on.false)))
    ]

pub returns-clause-items : goal.returns-clause-items
returns-clause-items c =
    let inside = c.self.inside in
    let run : Run = record { start = inside.count; first = c.args.brief } in
    let old = ap (λ (noted : Noted). noted.items ++ c.args.brief ∷ []) c.self.view_is in
    elim c.if-not-goes_on.branch [
      | then-not-goes_on w ↦
          rw (w.self-inside-is, w.push_reserved.ensures.items)
          (briefs_begin inside.runs.items run c.self.invariant.within
          ∙ ap (λ n. briefs_in inside.runs.items inside.count ++ brief_behind c.args.brief n ∷ []) (let none : inside.count - inside.count ≡ 0 = omega arith in none)
          ∙ old)
      | else-not-goes_on w ↦
          rw w.self-inside-is
          (briefs_go_on inside.runs.items inside.count
          ∙ ap (λ brief. briefs_in inside.runs.items inside.count ++ brief ∷ [])
          (ap (λ runs. brief_in (OfSlot 0 0) runs inside.count) (sym c.deref.ensures.value) ∙ c.goes_on.ensures.brief w.if-not-goes_on.false (OfSlot 0 0))
          ∙ old)
    ]
