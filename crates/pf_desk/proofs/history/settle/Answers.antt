use Rattle.std.proofs.Common.{length, ◌≡◌, ◌+◌, ◌∷◌, [], ◌++◌, map, take, ap, ap₂, sym, subst, ◌∙◌, arith}
use Rattle.std.proofs.lemmas.List.{take_more, length-take-le, length_push}
use Rattle.pf_desk.specs.declared.brief.Brief.TheVariants.{OfCommand}
use Rattle.pf_desk.specs.declared.settled.Settled.{Settled}
use Rattle.pf_desk.specs.Settled.{HasRoomFor, count_wide}
use Rattle.pf_desk.specs.Laid.{settled_of, briefs_from}
use Rattle.pf_desk.proofs.Laying.{brief_more, command_more}
use Rattle.pf_desk.proofs.Settling.{wide_more, room_for_next}
use Rattle.pf_desk.proofs.history.settle.Goals as goal

pub push_reserved-requires-in-loop-entry : goal.push_reserved-requires-in-loop-entry
push_reserved-requires-in-loop-entry c =
    let entries = c.args.entries.now in
    let i = c.loop-entry.entry-index in
    let e = c.entry-item.result in
    let invariant = c.loop-entry.invariant in
    let taken : take (i + 1) entries ≡ take i entries ++ e ∷ [] = take_more entries i e (omega arith) ∙ ap (λ e. take i entries ++ e ∷ []) (sym c.entry-item.is) in
    subst (λ (s : Settled). HasRoomFor c.loop-entry.settled (s ∷ [])) (sym c.of.ensures)
    (room_for_next entries i e (omega arith) taken c.args.settled.now c.loop-entry.settled c.requires.for_commands invariant.for_all invariant.for_wide)

pub loop-entry-preserved : goal.loop-entry-preserved
loop-entry-preserved c =
    let entries = c.args.entries.now in
    let i = c.loop-entry.entry-index in
    let e = c.entry-item.result in
    let invariant = c.loop-entry.invariant in
    let taken : take (i + 1) entries ≡ take i entries ++ e ∷ [] = take_more entries i e (omega arith) ∙ ap (λ e. take i entries ++ e ∷ []) (sym c.entry-item.is) in
    let long = length-take-le i entries (omega arith) in
    record {
      briefs = c.push_reserved.ensures.items
          ∙ ap (λ bs. bs ++ OfCommand e.caller c.len.result ∷ []) invariant.briefs
          ∙ brief_more c.args.briefs.now.items (length c.args.settled.now.items) c.len.result (take i entries) e (omega arith)
          ∙ ap (λ es. c.args.briefs.now.items ++ briefs_from (length c.args.settled.now.items) es) (sym taken);
      commands = c.push_reserved-in-loop-entry.ensures.items
          ∙ ap₂ (λ xs x. xs ++ x ∷ []) invariant.commands c.of.ensures
          ∙ command_more c.args.settled.now.items (take i entries) e
          ∙ ap (λ es. c.args.settled.now.items ++ map settled_of es) (sym taken);
      many_commands = ap length c.push_reserved-in-loop-entry.ensures.items ∙ length_push c.loop-entry.settled.items c.of.result ∙ omega arith;
      for_briefs = omega arith;
      for_all = omega arith;
      for_wide = omega (arith, wide_more entries i e (omega arith) taken, ap (λ s. count_wide (s ∷ [])) c.of.ensures);
    }
