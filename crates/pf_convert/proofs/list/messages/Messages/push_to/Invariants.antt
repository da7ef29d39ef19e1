use Rattle.std.proofs.Common.{◌≡◌, ◌++◌, take}
use Rattle.std.specs.List.{flat_map}
use Rattle.pf_convert.specs.List.Messages.{message_text}
use Rattle.pf_convert.proofs.list.messages.Messages.push_to.Given as goal

abbrev pub invariant-loop-message : goal.invariant-loop-message
invariant-loop-message l = l.text.items ≡ l.fn.text.items ++ flat_map (message_text l.file l.list) (take l.message-index l.first)
