use Rattle.std.proofs.Common.{◌≡◌, drop}
use Rattle.std.specs.List.{flat_map}
use Rattle.pf_script_desk.specs.Asked.{commands_of}
use Rattle.pf_plain_script.specs.Carried.{state_behind, state_to_be}
use Rattle.pf_plain_script.proofs.carried.take_lines.Given as goal

-- the state once the lines left are carried out
abbrev pub invariant-loop-line : goal.invariant-loop-line
invariant-loop-line l =
    state_behind (state_to_be l.desk) (flat_map commands_of (drop l.line-index l.lines))
    ≡ state_behind (state_to_be l.fn.desk) (flat_map commands_of l.lines)
