-- A change on a session's desk.
use Rattle.std.specs.Prelude.{ℕ, ◌≡◌, Bool, Option, List, [], ◌∷◌, ◌++◌}
use Rattle.pf_answers.specs.declared.manner.Manner.{Manner}
use Rattle.pf_desk.specs.Desk.{Shown}
use Rattle.pf_desk.specs.Machine.{reply_to}
use Rattle.pf_desk.specs.declared.command.Command.TheVariants.{Edit}
use Rattle.pf_vocabulary.specs.declared.names.named.Named.{Named}
use Rattle.pf_scenario.specs.declared.change.Change.{Change}
use Rattle.pf_session.specs.Answers.{edit_answer}
use Rattle.pf_session.specs.Held.{HasAnswered}
use Rattle.pf_session.specs.Made.{number_made}

-- two texts, each with what was added to it
pub record AreLonger (script line text answer new_script new_text : List ℕ) : Type 0 where
  pub script_is : new_script ≡ script ++ line
  pub text_is : new_text ≡ text ++ answer

pub record AreSame (script text new_script new_text : List ℕ) : Type 0 where
  pub script_is : new_script ≡ script
  pub text_is : new_text ≡ text

-- a desk answered a change, which gave the event of its reply this number, if it was made
pub record HasChanged (m : Manner) (names : List Named) (before : Shown) (change : Change) (strict : Bool) (number : Option ℕ) (after : Shown)
    (script line text new_script new_text : List ℕ) : Type 0 where
  pub number_is : number ≡ number_made (reply_to before.state (Edit change strict))
  pub answered : HasAnswered (Edit change strict ∷ []) before after
  pub longer : AreLonger script line text (edit_answer m names before.state change strict) new_script new_text
