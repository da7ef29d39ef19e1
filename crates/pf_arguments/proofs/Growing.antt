-- Commands that grow by a row.
use Rattle.std.proofs.Common.{◌≡◌, ◌+◌, ◌<◌, ◌++◌, ◌∷◌, ℕ, List, [], length, map, take, get_or, refl, ap, sym, ◌∙◌, arith, false}
use Rattle.std.proofs.lemmas.Bool.{ne_eqb}
use Rattle.std.proofs.lemmas.List.{map_more}
use Rattle.clap.specs.Walk.{is_empty}
use Rattle.clap.specs.Words.{App, Shape, with_subcommand}
use Rattle.pf_arguments.specs.CommandLine.{program_with}
use Rattle.pf_arguments.specs.Rows.{shape_of_subcommand}
use Rattle.pf_arguments.specs.declared.subcommand.Subcommand.{Subcommand}

-- a program with one subcommand more
grown : (subs : List Shape) (sub : Shape) → with_subcommand (program_with subs) sub ≡ program_with (subs ++ sub ∷ [])
grown [] sub = refl
grown (first ∷ rest) sub =
    let some : is_empty (first ∷ (rest ++ sub ∷ [])) ≡ false = ne_eqb _ _ (λ e. omega (arith, e)) in
    rw some refl

-- a program with the next row
pub next_row : (rows : List Subcommand) (i : ℕ) (d : Subcommand) (old new : App) → i < length rows → old ≡ program_with (map shape_of_subcommand (take i rows))
    → new ≡ with_subcommand old (shape_of_subcommand (get_or rows i d)) → new ≡ program_with (map shape_of_subcommand (take (i + 1) rows))
next_row rows i d old new below is more =
    more ∙ ap (λ (a : App). with_subcommand a (shape_of_subcommand (get_or rows i d))) is
    ∙ grown (map shape_of_subcommand (take i rows)) (shape_of_subcommand (get_or rows i d))
    ∙ ap program_with (sym (map_more shape_of_subcommand rows i d below))
