use mathlib.Core.List.{[], ◌∷◌}
use mir.Syntax.{Sym, Ty, named}
use denote.Builtin.{One}
use denote.Exit.{no}
use denote.Param.{arg, param}
use denote.Param.Send.{IsSend, IsSync, arg_send, param_send, sendable}
use denote.RattleType.{RattleType}
use denote.Ref.{NamedLft}
use denote.Struct.Field.{shr_ref_field}
use denote.Struct.Tuple.{TupleAt}
use Rattle.std.proofs.Crossing as heap
use Rattle.std.proofs.Crossing.{crosses}
use Rattle.pf_board.proofs.pass.Pass.TheSendSync as pass
use Rattle.pf_board.specs.contracts.pass.Pass as Pass
use Rattle.pf_desk.specs.contracts.entry.Entry as Entry
use Rattle.pf_drill.proofs.crew.start.Goals as goal
use Rattle.pf_drill.proofs.rounds.Rounds.TheSendSync as rounds
use Rattle.pf_scenario.specs.contracts.settings.Settings as Settings
use Rattle.pf_share.proofs.Crossing.{shared_sync}
use Rattle.pf_share.specs.contracts.calls.Calls as Calls
use Rattle.pf_share.specs.contracts.calls.CallsIssuesEntry.TheImpl as issues

-- the pass of a worker crosses to its thread
pass_send : IsSend (Pass.the_row Entry.the_row Calls.the_row Settings.the_row issues.ghosts)
pass_send = search (sendable, crosses, pass.the_send) depth 20

-- a reference crosses to what threads may share
lent_send : (ℓ : NamedLft) (R : RattleType) (o : One R.mir) → IsSync R → IsSend ((shr_ref_field ℓ R o).row)
lent_send ℓ R o s = search sendable depth 20

-- so does a closure's tuple of six captures that cross
tuple_send : (ν : Sym) (A B C D E F : RattleType) → IsSend A → IsSend B → IsSend C → IsSend D → IsSend E → IsSend F →
    IsSend (TupleAt ν (A ∷ B ∷ C ∷ D ∷ E ∷ F ∷ []))
tuple_send ν A B C D E F a b c d e f = search sendable depth 20

captures_send : (δ : Ty) (ν : Sym) (A B C D E F : RattleType) → IsSend A → IsSend B → IsSend C → IsSend D → IsSend E → IsSend F →
    IsSend (param 2 (arg δ no (TupleAt ν (A ∷ B ∷ C ∷ D ∷ E ∷ F ∷ []))))
captures_send δ ν A B C D E F a b c d e f =
    param_send 2 _ (arg_send δ no (TupleAt ν (A ∷ B ∷ C ∷ D ∷ E ∷ F ∷ [])) (tuple_send ν A B C D E F a b c d e f))

-- by hand, since `search` meets its limit of steps where all captures are there at once
pub spawn_with-requires-send-F : goal.spawn_with-requires-send-F
spawn_with-requires-send-F g c κs within =
    let runtime = lent_send (record { mir = named 6; lft = κs.1.1.1.1.1.1.0 }) (param 3 g.row.R) tt c.type_bounds.sync-R in
    let desk = lent_send (record { mir = named 7; lft = κs.1.1.1.1.1.1.1.0 }) _ tt
    (shared_sync (param 1 g.row.N) (param 2 g.row.H) g.N.Naming c.type_bounds.send-H) in
    let gate = lent_send (record { mir = named 8; lft = κs.1.1.1.1.1.1.1.1.0 }) (param 4 g.row.G) tt c.type_bounds.sync-G in
    let word = lent_send (record { mir = named 9; lft = κs.1.1.1.1.1.1.1.1.1.0 }) _ tt rounds.the_sync in
    captures_send _ _ _ _ _ _ _ _ pass_send runtime heap.send desk gate word
