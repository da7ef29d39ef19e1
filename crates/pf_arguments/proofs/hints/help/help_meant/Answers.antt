use Rattle.std.proofs.Common.{◌≡◌, ◌∙◌, IfOk, Option, ap, subst}
use Rattle.clap.specs.Words.{Text}
use Rattle.pf_message.specs.Nearness.{near_name}
use Rattle.pf_arguments.specs.Help.{help_names, help_near}
use Rattle.pf_arguments.proofs.hints.help.help_meant.Goals as goal

pub returns : goal.returns
returns c =
    subst (λ (o : Option Text). IfOk c.help_near.result (λ text. text.items ≡ help_near o))
    (c.in_ok-near_name.ensures ∙ ap (λ (w : Text). near_name w help_names) c.as_bytes.ensures.value) c.help_near.ensures
