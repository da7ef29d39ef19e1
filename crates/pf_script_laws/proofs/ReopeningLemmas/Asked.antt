-- What the script of a desk asks for.
use Rattle.std.proofs.Common.{◌≡◌, ◌∙◌, ◌+◌, ◌==◌, ℕ, zero, suc, false, List, [], ◌∷◌, ◌++◌, map, append-nil, refl, ap, ap₂, arith}
use Rattle.std.specs.Prelude.{replicate}
use Rattle.std.specs.List.{flat_map}
use Rattle.std.proofs.lemmas.Bool.Decides.{nat_tests}
use Rattle.std.proofs.lemmas.List.Concat.{flat_map-append}
use Rattle.pf_scenario.specs.declared.event.Numbered.{Numbered}
use Rattle.pf_scenario.specs.declared.change.Change.TheVariants.{Insert}
use Rattle.pf_scenario.specs.System.{System}
use Rattle.pf_desk.specs.declared.command.Command.{Command}
use Rattle.pf_desk.specs.declared.command.Command.TheVariants as command
use Rattle.pf_desk.specs.Desk.{Seen}
use Rattle.pf_script.specs.declared.line.Line.{Line}
use Rattle.pf_script_desk.specs.Asked.{Whole, asked_by, commands_in, commands_of, script_asked}
use Rattle.pf_vocabulary.specs.Names.Titled.{untitled}
use Rattle.pf_report.specs.Script.{script_text_of}
use Rattle.pf_script_laws.specs.Reopening.Reopen.{CanBeWritten, first_number, insert_lines, lines_told, step_lines}
use Rattle.pf_script_laws.specs.Reopening.Whole.{script_commands}
use Rattle.pf_script_laws.proofs.ReopeningLemmas.Again.{told_again}

-- lines ask for the same under any numbers
of_told : (number : ℕ) (lines : List Line) → commands_in (lines_told number lines) ≡ flat_map commands_of lines
of_told number [] = refl
of_told number (line ∷ lines) = ap (λ (cs : List Command). commands_of line ++ cs) (of_told (number + 1) lines)

-- the commands of the lines of a script
of_inserts : (xs : List Numbered) → flat_map commands_of (insert_lines xs) ≡ map (λ x. command.Edit (Insert x.event) false) xs
of_inserts [] = refl
of_inserts (x ∷ xs) = ap (λ cs. command.Edit (Insert x.event) false ∷ cs) (of_inserts xs)

of_steps : (n : ℕ) → flat_map commands_of (step_lines n) ≡ replicate n command.Step
of_steps zero = refl
of_steps (suc n) = rw (let some : (suc n == 0) ≡ false = grind (arith, nat_tests) in some) (append-nil (replicate (suc n) command.Step))

-- Use: they are the script's, from whatever number on.
pub of_lines : (number : ℕ) (xs : List Numbered) (n : ℕ)
    → commands_in (lines_told number (insert_lines xs ++ step_lines n)) ≡ map (λ x. command.Edit (Insert x.event) false) xs ++ replicate n command.Step
of_lines number xs n =
    of_told number (insert_lines xs ++ step_lines n)
    ∙ flat_map-append commands_of (insert_lines xs) (step_lines n)
    ∙ ap₂ (λ (cs ds : List Command). cs ++ ds) (of_inserts xs) (of_steps n)

pub asked_whole : (every : ℕ) (seen : Seen) → CanBeWritten every seen
    → script_asked (script_text_of every seen untitled) ≡ Whole seen.state.plan.settings (script_commands seen.state)
asked_whole every seen can =
    let s : System = seen.state.plan.settings in
    ap asked_by (told_again every seen can) ∙ ap (Whole s) (of_lines (first_number s) seen.state.plan.events seen.state.now)
