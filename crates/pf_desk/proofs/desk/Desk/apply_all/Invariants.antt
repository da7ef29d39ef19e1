use Rattle.std.proofs.Common.{◌≡◌, ◌≤◌, ◌*◌, ◌-◌, ◌⊎◌, ℕ, Some, max, length, take, All}
use Rattle.pf_order.specs.Counted.{CountsAtMost}
use Rattle.pf_desk.specs.declared.command.Command.TheVariants.{Step}
use Rattle.pf_desk.specs.Desk.{IsDesk, AnswersAll, most_replayed}
use Rattle.pf_desk.specs.Plain.{ArePlainFrom}
use Rattle.pf_desk.proofs.desk.Desk.apply_all.Given as goal

abbrev pub invariant-loop-done : goal.invariant-loop-done
invariant-loop-done l = record {
  within : l.done ≤ length l.commands;
  answered : AnswersAll l.caller (take l.done l.commands) l.initial.self l.self;
  desk : IsDesk l.self;
  counted : CountsAtMost (l.done * max 1 l.self.state.now) l.initial.meter l.meter;
  compared : l.initial.meter.compared ≤ l.meter.compared;
  stepped : All (λ c. c ≡ Step) l.commands → CountsAtMost l.done l.initial.meter l.meter;
  plain : (s : ℕ) → ArePlainFrom s l.initial.self.state l.commands →
      ((l.done ≡ 0) × (l.self ≡ l.initial.self) × (l.meter ≡ l.initial.meter))
      ⊎ ((l.done ≡ length l.commands)
      × CountsAtMost (most_replayed l.initial.self.state.now l.initial.self.every (Some s)) l.initial.meter l.meter);
}

abbrev pub decreases-loop-done : goal.decreases-loop-done
decreases-loop-done l = length l.commands - l.done
