use Rattle.std.proofs.Common.{◌++◌, ◌∷◌, [], map, take, rules, ap, sym, ◌∙◌}
use Rattle.std.proofs.lemmas.List.{map_more}
use Rattle.clap.specs.Words.{App, Rule, Shape, rule_of}
use Rattle.pf_arguments.specs.CommandLine.{command}
use Rattle.pf_arguments.specs.Rows.{rule_of_argument}
use Rattle.pf_arguments.proofs.subcommand.Subcommand.add_to.Goals as goal

pub loop-argument-preserved : goal.loop-argument-preserved
loop-argument-preserved c =
    let arguments = c.args.self.now.arguments.now in
    let i = c.loop-argument.argument-index in
    let before = map rule_of_argument (take i arguments) in
    let named = command c.args.self.now.name.now in
    record {
      shape = ap (λ (a : App). a.top) (c.in_ok-command.ensures.shape c.to_arg.ensures.local)
          ∙ ap (λ (s : Shape). record s { rules = s.rules ++ rule_of c.to_arg.result ∷ [] }) c.loop-argument.invariant.shape
          ∙ ap (λ (r : Rule). named (before ++ r ∷ [])) c.to_arg.ensures.rule
          ∙ ap named (sym (map_more rule_of_argument arguments i _ c.loop-argument-test.true));
      local = search rules;
    }
