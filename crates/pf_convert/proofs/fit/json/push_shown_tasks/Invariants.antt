use Rattle.std.proofs.Common.{◌≡◌, ◌++◌, drop}
use Rattle.pf_convert.specs.Conversion.Script.{numbered}
use Rattle.pf_convert.specs.Fit.Json.{shown_item}
use Rattle.pf_convert.proofs.fit.json.push_shown_tasks.Given as goal

abbrev pub invariant-loop-place : goal.invariant-loop-place
invariant-loop-place l = l.text.items ++ numbered (shown_item l.shown) l.place (drop l.place l.shown.tasks.now) ≡ l.fn.text.items ++ numbered (shown_item l.shown) 0 l.shown.tasks.now
