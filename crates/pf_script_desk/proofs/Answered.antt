-- What a desk answered, some of it after it waited.
use Rattle.std.proofs.Common.{◌≡◌, ℕ, ◌+◌, List, [], ◌∷◌, ◌++◌, Result, Ok, Err, refl, sym, ap, subst, ◌∙◌, append_assoc, append-nil, replicate}
use Rattle.std.specs.Prelude.{OnOk}
use Rattle.std.proofs.lemmas.List.{replicate_more}
use Rattle.std.proofs.lemmas.List.Elements.{All-nil, All-cons}
use Rattle.pf_desk.specs.declared.command.Command.{Command}
use Rattle.pf_desk.specs.declared.command.Command.TheVariants.{Step}
use Rattle.pf_desk.specs.declared.reply.Reply.{Reply}
use Rattle.pf_desk.specs.Desk.{Shown, AnswersAll, AnswersCaller, entry_of}
use Rattle.pf_desk.proofs.Gathering.{answers_append}
use Rattle.pf_script_desk.specs.Carrying.{Carrying, HasTaken, script_caller}

-- one command
one_answered : (command : Command) (a b : Shown) (reply : Reply) → AnswersCaller script_caller command a reply b → AnswersAll script_caller (command ∷ []) a b
one_answered command a b reply h = record {
  entries = entry_of script_caller command reply ∷ [];
  commands_in_order = refl;
  callers = All-cons (λ e. e.caller ≡ script_caller) (entry_of script_caller command reply) [] refl (All-nil (λ e. e.caller ≡ script_caller));
  answers = (h.answer, tt);
  entered = h.entered;
  state = h.state;
  every = h.every;
}

-- Use: one step more was taken.
pub step_more : (turn : ℕ) (a b c : Shown) (reply : Reply) → AnswersAll script_caller (replicate turn Step) a b → AnswersCaller script_caller Step b reply c
    → AnswersAll script_caller (replicate (turn + 1) Step) a c
step_more turn a b c reply before h =
    subst (λ cs. AnswersAll script_caller cs a c) (replicate_more turn Step)
    (answers_append script_caller (replicate turn Step) (Step ∷ []) a b c before (one_answered Step b c reply h))

-- Use: those that waited were answered, and then others.
pub all_taken : {A E : Type 0} (r : Result A E) (commands : List Command) (a b x : Carrying) (c : Shown) → AnswersAll script_caller a.waiting a.desk b.desk → b.waiting ≡ []
    → x ≡ b → OnOk r (AnswersAll script_caller commands x.desk c) → OnOk r (HasTaken commands a (record { desk = c; waiting = x.waiting }))
all_taken (Ok v) commands a b x c waited none is h = record {
  answered = a.waiting ++ commands;
  in_order = ap (λ (cs : List Command). (a.waiting ++ commands) ++ cs) (ap (λ (y : Carrying). y.waiting) is ∙ none) ∙ append-nil (a.waiting ++ commands);
  answers =
      answers_append script_caller a.waiting commands a.desk b.desk c waited (subst (λ (y : Carrying). AnswersAll script_caller commands y.desk c) is h);
}
all_taken (Err e) commands a b x c waited none is h = tt

-- Use: commands were taken, and what waits behind them and then others were answered.
pub taken_then : (xs ys : List Command) (a b : Carrying) (c : Shown) → HasTaken xs a b → AnswersAll script_caller (b.waiting ++ ys) b.desk c
    → AnswersAll script_caller (a.waiting ++ (xs ++ ys)) a.desk c
taken_then xs ys a b c h then =
    subst (λ cs. AnswersAll script_caller cs a.desk c)
    (sym (append_assoc h.answered b.waiting ys) ∙ ap (λ (cs : List Command). cs ++ ys) h.in_order ∙ append_assoc a.waiting xs ys)
    (answers_append script_caller h.answered (b.waiting ++ ys) a.desk b.desk c h.answers then)
