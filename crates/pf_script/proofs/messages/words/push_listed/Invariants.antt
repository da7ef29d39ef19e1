use Rattle.std.proofs.Common.{◌≡◌, ◌++◌, drop}
use Rattle.std.specs.List.{flat_map}
use Rattle.pf_script.specs.Messages.Words.{listed_word}
use Rattle.pf_script.proofs.messages.words.push_listed.Given as goal

-- the words so far, and those that are left, are all
abbrev pub invariant-loop-word : goal.invariant-loop-word
invariant-loop-word l =
    l.text.items ++ flat_map (λ w. listed_word w.now) (drop l.word-index l.words) ≡ l.fn.text.items ++ flat_map (λ w. listed_word w.now) l.words
