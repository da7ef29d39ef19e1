use Rattle.std.proofs.Common.{rules, ◌≡◌, ◌++◌, [], append-nil, drop, get_or, length, take, ◌-◌, sym}
use Rattle.std.specs.List.{flat_map}
use Rattle.pf_script.specs.Messages.Words.{listed_word}
use Rattle.pf_script.proofs.MessagesLemmas.Listed.{list_of_none, list_of_words}
use Rattle.pf_script.proofs.PlanCheckLemmas.Told.{added_to}
use Rattle.pf_script.proofs.messages.words.push_list.Goals as goal

pub returns-in-empty : goal.returns-in-empty
returns-in-empty c = rw (list_of_none c.args.words.now c.in-empty.len_below) (sym (append-nil c.args.text.now.items))

pub returns-in_ok-extend_from_slice-in-len1-up : goal.returns-in_ok-extend_from_slice-in-len1-up
returns-in_ok-extend_from_slice-in-len1-up c =
    let words = c.args.words.now in
    let first = (get_or words 0 (record { ref_ptr = (0, 0); now = [] })).now in
    let mid : c.extend_from_slice.new.self.items ≡ c.args.text.now.items ++ first = search rules in
    let others = flat_map (λ w. listed_word w.now) (take (length words - 1) (drop 1 words)) in
    rw (list_of_words words c.in-len1-up.len_at_least)
    (added_to c.push_listed.result c.push_listed.new.text.items c.extend_from_slice.new.self.items c.args.text.now.items first others mid c.push_listed.ensures)
