use Rattle.std.proofs.Common.{◌≡◌, ℕ, List, [], ◌++◌, length, sym, ◌∙◌, ap}
use Rattle.std.proofs.lemmas.List.{nil_from_length}
use Rattle.std.proofs.lemmas.Result.{IfErr-weaker, IfOk-weaker}
use Rattle.pf_journal.specs.Kept.{disk_of, found_bytes, found_disk}
use Rattle.pf_journal.specs.Lines.{records_of}
use Rattle.pf_journal.specs.Recorder.Recording.{added_to}
use Rattle.pf_journal.proofs.RecorderLemmas.Begun.{added_new, added_old, same_choice, unkept_of}
use Rattle.pf_journal.proofs.recorder.opening.open_with.Goals as goal

pub put_all-requires-clause-none : goal.put_all-requires-clause-none
put_all-requires-clause-none g c still =
    let none : records_of (found_bytes c.args.found) ≡ [] = nil_from_length _ (sym c.records-begins.ensures ∙ c.if-begins.true) in
    let clean = sym c.in-Ok.ensures.calm ∙ still in
    c.in-Ok.ensures.same clean ∙ sym (ap records_of (c.requires.bytes clean)) ∙ none

pub returns-then-begins-clause-put : goal.returns-then-begins-clause-put
returns-then-begins-clause-put g c =
    let new : length (records_of (found_bytes c.args.found)) ≡ 0 = sym c.records-begins.ensures ∙ c.if-begins.true in
    let none : records_of (found_bytes c.args.found) ≡ [] = nil_from_length _ new in
    let more = c.behind_heading.ensures ∙ sym (added_new (records_of (found_bytes c.args.found)) c.args.script.now new) in
    IfOk-weaker c.put_all.result _ _
    (λ j put clean. put (c.in-Ok.ensures.calm ∙ clean) ∙ more
    ∙ ap (λ (l : List (List ℕ)). l ++ added_to (records_of (found_bytes c.args.found)) c.args.script.now) (sym none))
    c.put_all.ensures.put

pub returns-then-begins-clause-crash : goal.returns-then-begins-clause-crash
returns-then-begins-clause-crash g c =
    let new : length (records_of (found_bytes c.args.found)) ≡ 0 = sym c.records-begins.ensures ∙ c.if-begins.true in
    let none : records_of (found_bytes c.args.found) ≡ [] = nil_from_length _ new in
    let more = c.behind_heading.ensures ∙ sym (added_new (records_of (found_bytes c.args.found)) c.args.script.now new) in
    IfErr-weaker c.put_all.result _ _
    (λ failed crash clean left may. same_choice _ _ _ _ left (sym none) more (crash (c.in-Ok.ensures.calm ∙ clean) left may))
    c.put_all.ensures.crash

pub returns-clause-put : goal.returns-clause-put
returns-clause-put g c clean =
    let old : length (records_of (found_bytes c.args.found)) ≡ 0 → ⊥ = λ none. c.if-begins.false (c.records-begins.ensures ∙ none) in
    c.in-Ok.ensures.same clean ∙ sym (ap records_of (c.requires.bytes clean)) ∙ added_old (records_of (found_bytes c.args.found)) c.args.script.now old

pub returns-then-begins-clause-opens : goal.returns-then-begins-clause-opens
returns-then-begins-clause-opens g c =
    IfErr-weaker c.put_all.result _ _
    (λ failed opens mixing known clean left may. opens mixing (c.in-Ok.ensures.calm ∙ clean) left may)
    c.put_all.ensures.opens

pub returns-then-begins-clause-failed : goal.returns-then-begins-clause-failed
returns-then-begins-clause-failed g c =
    let new : length (records_of (found_bytes c.args.found)) ≡ 0 = sym c.records-begins.ensures ∙ c.if-begins.true in
    let more = c.behind_heading.ensures ∙ sym (added_new (records_of (found_bytes c.args.found)) c.args.script.now new) in
    IfErr-weaker c.put_all.result _ _
    (λ failed why. unkept_of g.D.Disk.seen g.D.Disk.faults g.D.Disk.is_clean (found_bytes c.args.found) _ _ failed.error (found_disk c.args.found)
    (disk_of c.in-Ok.journal) failed.disk c.in-Ok.ensures.faults more why)
    c.put_all.ensures.failed
