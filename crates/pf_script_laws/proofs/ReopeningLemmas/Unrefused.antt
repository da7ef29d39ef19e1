-- Of a script all of whose commands the machine takes, no record is refused.
use Rattle.std.proofs.Common.{◌≡◌, ◌∙◌, ℕ, true, false, List, [], ◌∷◌, ◌++◌, refl, sym, ap, subst, arith, replicate}
use Rattle.pf_desk.specs.Machine.{State, next_state, reply_to, state_after}
use Rattle.pf_desk.specs.declared.command.Command.{Command}
use Rattle.pf_desk.specs.declared.command.Command.TheVariants as command
use Rattle.pf_desk.specs.declared.reply.Reply.{Reply}
use Rattle.pf_desk.specs.declared.reply.Reply.TheVariants.{Edited, Stepped, Refused}
use Rattle.pf_plain_script.specs.Carried.{state_behind, state_behind_line}
use Rattle.pf_script_results.specs.Recount.{Recounted, behind_change, behind_line, behind_lines, behind_steps_if}
use Rattle.pf_script_results.specs.Replies.{one_if_refused, outcome_of, refused_in}
use Rattle.pf_run_notes.specs.declared.place.Place.{Place}
use Rattle.pf_script_desk.specs.Asked.{commands_in, commands_of}
use Rattle.pf_script.specs.declared.line.Line.{Line}
use Rattle.pf_script.specs.declared.line.Line.TheVariants.{Edit, Steps}
use Rattle.pf_script.specs.declared.record.LineTold.{LineTold}
use Rattle.pf_script_laws.specs.Reopening.Whole.{IsTaken}
use Rattle.pf_script_laws.proofs.ReopeningLemmas.Whole.{TakesAll, taken_next}

one_taken : (reply : Reply) → IsTaken reply → one_if_refused (outcome_of reply) ≡ 0
one_taken (Edited id) taken = refl
one_taken (Stepped slot row) taken = refl
one_taken (Refused fault) taken = absurd taken

-- of some commands and others after them that the machine takes, ..
none_of : (st : State) (cs rest : List Command) → TakesAll st (cs ++ rest) → refused_in st cs ≡ 0
none_of st [] rest takes = refl
none_of st (c ∷ cs) rest takes =
    let next = taken_next st c (reply_to st c) takes.0 in
    let first : one_if_refused (outcome_of (reply_to st c)) ≡ 0 = one_taken (reply_to st c) takes.0 in
    let others : refused_in (state_after st c (reply_to st c)) cs ≡ 0 = ap (λ (at : State). refused_in at cs) next ∙ none_of (next_state st c) cs rest takes.1 in
    omega (arith, first, others)

takes_behind : (st : State) (cs rest : List Command) → TakesAll st (cs ++ rest) → TakesAll (state_behind st cs) rest
takes_behind st [] rest takes = takes
takes_behind st (c ∷ cs) rest takes =
    subst (λ (at : State). TakesAll (state_behind at cs) rest) (sym (taken_next st c (reply_to st c) takes.0)) (takes_behind (next_state st c) cs rest takes.1)

-- .. and of a record and those after it
line_taken : (st : State) (place : Place) (asks : Line) (rest : List Command) (c : Recounted) → TakesAll st (commands_of asks ++ rest)
    → (behind_line [] false [] true st place asks c).refused ≡ c.refused
line_taken st place (Edit change strict) rest c takes = by (reply_to st (command.Edit change strict)) takes.0
  where
    by : (reply : Reply) → IsTaken reply → (behind_change [] false [] true st.plan place change (outcome_of reply) c).refused ≡ c.refused
    by (Edited id) taken = refl
    by (Stepped slot row) taken = refl
    by (Refused fault) taken = absurd taken
line_taken st place (Steps count) rest c takes =
    ap (λ n. (behind_steps_if [] true place st.plan.settings.horizon count n c).refused) (none_of st (replicate count command.Step) rest takes)

-- Use: none of these records is.
pub none_refused : (place_at : ℕ → Place) (st : State) (lines : List LineTold) (c : Recounted) → TakesAll st (commands_in lines)
    → (behind_lines [] false [] true place_at st lines c).refused ≡ c.refused
none_refused place_at st [] c takes = refl
none_refused place_at st (line ∷ lines) c takes =
    none_refused place_at (state_behind_line st line.asks) lines (behind_line [] false [] true st (place_at line.number) line.asks c)
    (takes_behind st (commands_of line.asks) (commands_in lines) takes)
    ∙ line_taken st (place_at line.number) line.asks (commands_in lines) c takes
