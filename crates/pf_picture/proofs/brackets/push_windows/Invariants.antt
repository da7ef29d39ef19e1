use Rattle.std.proofs.Common.{◌≡◌, ◌++◌, take}
use Rattle.std.specs.List.{flat_map}
use Rattle.pf_picture.specs.Brackets.{window_text}
use Rattle.pf_picture.proofs.brackets.push_windows.Given as goal

abbrev pub invariant-loop-window : goal.invariant-loop-window
invariant-loop-window l = l.text.items ≡ l.initial.text.items ++ flat_map (window_text l.lane l.label) (take l.window-index l.windows)
