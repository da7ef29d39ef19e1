-- Steps that are taken one after another.
use Rattle.std.proofs.Common.{◌≡◌, ◌⊎◌, ◌<◌, inl, inr, arith, ℕ, ◌+◌, List, [], ◌∷◌, ◌++◌, refl, sym, ap, ap₂, ◌∙◌, replicate, append_assoc, append-nil}
use Rattle.std.specs.List.{flat_map}
use Rattle.std.proofs.lemmas.List.{replicate_more}
use Rattle.std.proofs.lemmas.Grind.{flat_map-append}
use Rattle.pf_answers.specs.Steps.{replies_from}
use Rattle.pf_desk.specs.Machine.{State, reply_to, state_after}
use Rattle.pf_desk.specs.declared.command.Command.{Command}
use Rattle.pf_desk.specs.declared.command.Command.TheVariants.{Step}
use Rattle.pf_desk.specs.declared.reply.Reply.{Reply}
use Rattle.pf_plain_script.specs.Carried.{state_behind}
use Rattle.pf_session.specs.Amid.{IsAmidSteps}

behind-append : (st : State) (xs ys : List Command) → state_behind st (xs ++ ys) ≡ state_behind (state_behind st xs) ys
behind-append st [] ys = refl
behind-append st (x ∷ xs) ys = behind-append (state_after st x (reply_to st x)) xs ys

replies-append : (st : State) (xs ys : List Command)
    → replies_from st (xs ++ ys) ≡ replies_from st xs ++ replies_from (state_behind st xs) ys
replies-append st [] ys = refl
replies-append st (x ∷ xs) ys = ap (λ rs. reply_to st x ∷ rs) (replies-append (state_after st x (reply_to st x)) xs ys)

-- what one step more adds
one_more : (f : Reply → List ℕ) (st : State) (turn : ℕ)
    → flat_map f (replies_from st (replicate turn Step)) ++ f (reply_to (state_behind st (replicate turn Step)) Step)
    ≡ flat_map f (replies_from st (replicate (turn + 1) Step))
one_more f st turn =
    let past = replicate turn Step in
    let reply = reply_to (state_behind st past) Step in
    ap (λ t. flat_map f (replies_from st past) ++ t) (sym (append-nil (f reply)))
    ∙ sym (flat_map-append f (replies_from st past) (reply ∷ []))
    ∙ ap (flat_map f) (sym (replies-append st past (Step ∷ [])))
    ∙ ap (λ cs. flat_map f (replies_from st cs)) (replicate_more turn Step)

-- Use: a step was taken, and what it adds was added.
pub text_more : (f : Reply → List ℕ) (st at : State) (turn : ℕ) (old was now : List ℕ) → at ≡ state_behind st (replicate turn Step)
    → was ≡ old ++ flat_map f (replies_from st (replicate turn Step)) → now ≡ was ++ f (reply_to at Step)
    → now ≡ old ++ flat_map f (replies_from st (replicate (turn + 1) Step))
text_more f st at turn old was now is before more =
    more
    ∙ ap₂ (λ t s. t ++ f (reply_to s Step)) before is
    ∙ append_assoc old (flat_map f (replies_from st (replicate turn Step))) (f (reply_to (state_behind st (replicate turn Step)) Step))
    ∙ ap (λ t. old ++ t) (one_more f st turn)

pub state_more : (st at after : State) (turn : ℕ) → at ≡ state_behind st (replicate turn Step) → after ≡ state_behind at (Step ∷ [])
    → after ≡ state_behind st (replicate (turn + 1) Step)
state_more st at after turn is more =
    more
    ∙ ap (λ s. state_behind s (Step ∷ [])) is
    ∙ sym (behind-append st (replicate turn Step) (Step ∷ []))
    ∙ ap (state_behind st) (replicate_more turn Step)

-- Use: a step was not taken, as memory was refused, or not told.
pub amid_at : (st at after : State) (turn count : ℕ) → at ≡ state_behind st (replicate turn Step) → turn < count
    → ((0 < turn) × (after ≡ at)) ⊎ (after ≡ state_behind at (Step ∷ [])) → IsAmidSteps st count after
amid_at st at after turn count is left (inl before) = record {
  taken = turn;
  some = omega (arith, before.0);
  within = omega (arith, left);
  state = before.1 ∙ is;
}
amid_at st at after turn count is left (inr more) = record {
  taken = turn + 1;
  some = omega arith;
  within = omega (arith, left);
  state = state_more st at after turn is more;
}
