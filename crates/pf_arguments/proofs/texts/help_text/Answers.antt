use Rattle.std.proofs.Common.{◌++◌, ◌∙◌, ap, string_bytes}
use Rattle.pf_arguments.proofs.texts.help_text.Goals as goal

pub returns : goal.returns
returns g c = (
  string_bytes c.in_ok-text.text,
  c.in_ok-push_str.ensures.bytes ∙ ap (λ l. string_bytes c.in_ok-text.text ++ l) c.lesson_of.ensures,
)
