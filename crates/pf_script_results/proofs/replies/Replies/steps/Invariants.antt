use Rattle.std.proofs.Common.{◌≡◌, ◌≤◌, ◌-◌, ◌++◌, List, replicate}
use Rattle.pf_script_run.specs.Carried.{asked_in}
use Rattle.pf_desk.specs.declared.command.Command.{Command}
use Rattle.pf_desk.specs.declared.command.Command.TheVariants.{Step}
use Rattle.pf_desk.specs.History.{IsLegalFrom}
use Rattle.pf_desk.specs.Machine.{State}
use Rattle.pf_plain_script.specs.Carried.{state_behind}
use Rattle.pf_script_results.specs.Replies.{refused_in}
use Rattle.pf_script_results.proofs.replies.Replies.steps.Given as goal

-- the entries of so many steps were taken
abbrev pub invariant-loop-turn : goal.invariant-loop-turn
invariant-loop-turn l = record {
  few : l.refused ≤ l._turn;
  refused : (st : State) → IsLegalFrom st l.fn.self → l.refused ≡ refused_in st (replicate l._turn Step);
  legal : (st : State) → IsLegalFrom st l.fn.self → IsLegalFrom (state_behind st (replicate l._turn Step)) l.self;
  rest : (rest : List Command) → asked_in l.fn.self ≡ replicate l.count Step ++ rest → asked_in l.self ≡ replicate (l.count - l._turn) Step ++ rest;
}
