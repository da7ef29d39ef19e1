-- How many slots the desk's commands count.
use Rattle.std.proofs.Common.{◌≡◌, ℕ, ◌+◌, ◌-◌, ◌*◌, ◌<◌, ◌≤◌, nat_le, nat_lt, min, max, ◌⊎◌, inl, inr, Some, List, [], ◌∷◌, sym, subst, arith}
use Rattle.std.proofs.lemmas.Bool.{cond-true, cond-false, lt-ltb, le-leb, lt-leb, cases_lt}
use Rattle.std.proofs.lemmas.Nat.{mul-le}
use Rattle.pf_order.specs.Counts.{Counts}
use Rattle.pf_order.specs.Counted.{CountsAtMost}
use Rattle.pf_timeline.specs.Checkpoints.{near_distance, near_slots}
use Rattle.pf_timeline.specs.Timeline.{ReachesBack}
use Rattle.pf_desk.specs.declared.command.Command.{Command}
use Rattle.pf_desk.specs.declared.command.Command.TheVariants.{Edit, Step}
use Rattle.pf_desk.specs.declared.reply.Reply.{Reply}
use Rattle.pf_desk.specs.declared.reply.Reply.TheVariants.{Edited, Stepped, Refused}
use Rattle.pf_desk.specs.declared.entry.Entry.{Entry}
use Rattle.pf_desk.specs.Machine.{State, state_after}
use Rattle.pf_desk.specs.History.{state_behind}
use Rattle.pf_desk.specs.declared.scenario_run.ScenarioRun.{ScenarioRun}
use Rattle.pf_desk.specs.Desk.{Shown, AnswersAll, distance_back, most_replayed, most_slots}
use Rattle.pf_desk.specs.Kept.{shown_by}
use Rattle.pf_desk.specs.Applied.{most_counted}

-- no command goes back
now_grows : (st : State) (command : Command) (reply : Reply) → st.now ≤ (state_after st command reply).now
now_grows st command (Refused fault) = omega arith
now_grows st Step (Edited id) = omega arith
now_grows st Step (Stepped slot row) = omega arith
now_grows st (Edit change strict) (Edited id) = omega arith
now_grows st (Edit change strict) (Stepped slot row) = omega arith

-- Use: what is replayed from a slot below now.
pub counts_replayed : (now apart t near : ℕ) (c d : Counts) → t < now → CountsAtMost (now - t + apart) c d →
    (near ≤ t → CountsAtMost (now - t + near_distance) c d) → ReachesBack near now → CountsAtMost now c d →
    CountsAtMost (most_replayed now apart (Some t)) c d
counts_replayed now apart t near c d below few close back within =
    record { never_falls = few.never_falls; at_most = by_case (cases_lt near_slots (now - t)) back } where
      most : most_replayed now apart (Some t) ≡ min now (now - t + distance_back (now - t) apart)
      most = cond-true (nat_lt t now) _ _ (lt-ltb t now below)

      reached : (near : ℕ) → ReachesBack near now → now - t ≤ near_slots → near ≤ t
      reached near (inl none) soon = omega (arith, none)
      reached near (inr some) soon = omega (arith, some, soon, below)

      by_case : (near_slots < now - t) ⊎ (now - t ≤ near_slots) → ReachesBack near now → d.slots ≤ c.slots + most_replayed now apart (Some t)
      by_case (inl far) any =
          let apart_is : distance_back (now - t) apart ≡ apart = cond-false (nat_le (now - t) near_slots) _ _ (lt-leb (now - t) near_slots far) in
          omega (arith, most, apart_is, few.at_most, within.at_most)
      by_case (inr soon) reaches =
          let near_is : distance_back (now - t) apart ≡ min apart near_distance = cond-true (nat_le (now - t) near_slots) _ _ (le-leb (now - t) near_slots soon) in
          let before : near ≤ t = reached near reaches soon in
          omega (arith, most, near_is, few.at_most, (close before).at_most, within.at_most)

-- Use: a desk's command may count as many as on its scenario with its run.
pub counts_alike : (r : ScenarioRun) (es : List Entry) (spare : ℕ) (command : Command) (c d : Counts) → CountsAtMost (most_counted r command) c d →
    CountsAtMost (most_slots (shown_by r.scenario r.timeline es spare) command) c d
counts_alike r es spare Step c d few = few
counts_alike r es spare (Edit change strict) c d few = few

later_behind : (st : State) (es : List Entry) → st.now ≤ (state_behind st es).now
later_behind st [] = omega arith
later_behind st (e ∷ es) =
    omega (arith, now_grows st e.command e.reply, later_behind (state_after st e.command e.reply) es)

-- Use: nor do some that are answered.
pub all_later : (caller : ℕ) (commands : List Command) (before after : Shown) → AnswersAll caller commands before after →
    before.state.now ≤ after.state.now
all_later caller commands before after all =
    subst (λ (st : State). before.state.now ≤ st.now) (sym all.state) (later_behind before.state all.entries)

-- Use: one or more commands more, and a later slot.
pub counts_front : (x y : Shown) (i k : ℕ) (c d e : Counts) → 1 ≤ k → x.state.now ≤ y.state.now →
    CountsAtMost (i * max 1 x.state.now) c d → CountsAtMost (max 1 x.state.now) d e → CountsAtMost ((i + k) * max 1 y.state.now) c e
counts_front x y i k c d e some later few more =
    let product : (i + 1) * max 1 x.state.now ≤ (i + k) * max 1 y.state.now =
    mul-le (i + 1) (max 1 x.state.now) (i + k) (max 1 y.state.now) (omega arith) (omega arith) in
    record { never_falls = omega arith; at_most = omega (arith, product) }
