-- The notes after a run, by their parts.
use Rattle.std.proofs.Common.{◌≡◌, ℕ, Bool, true, ◌-◌, List, [], ◌∷◌, ◌++◌, length, take, refl, ap, ap₂, ◌∙◌, append_assoc}
use Rattle.std.specs.List.{flat_map}
use Rattle.pf_vocabulary.specs.declared.names.named.Named.{Named}
use Rattle.pf_scenario.specs.Scenario.{Plan}
use Rattle.pf_run.specs.Record.{Slot}
use Rattle.pf_run.specs.Computed.{run_of}
use Rattle.pf_collections.specs.Table.Grown.{Grown, value_of}
use Rattle.pf_tally.specs.Misses.{misses_of}
use Rattle.pf_tally.specs.declared.miss.Miss.{Miss}
use Rattle.pf_notes.specs.Desk.{Seen}
use Rattle.pf_notes.specs.Absence.{join_among}
use Rattle.pf_run_notes.specs.Late.{count_of_task, firsts_of, AreLate}
use Rattle.pf_run_notes.specs.Notes.{counts_text, denied_note, late_lines, lines_of, lists_text, lists_with, missed_note, missed_with, more_text, notes_text, notes_with}
use Rattle.pf_run_notes.specs.Refusals.{Kept, more}
use Rattle.pf_run_notes.specs.declared.place.Place.{Place}

late_told : (file : List ℕ) (names : List Named) (made : List Place) (s : Plan) (misses : List Miss) (counts : Grown ℕ) (firsts : List Miss) →
    ((task : ℕ) → value_of counts task ≡ count_of_task task misses) →
    late_lines file names made s.events counts firsts ≡ flat_map (missed_note file names made s misses) firsts
late_told file names made s misses counts [] each = refl
late_told file names made s misses counts (miss ∷ firsts) each =
    ap₂ (λ a b. a ++ b)
    (ap (λ n. missed_with file names made miss n (join_among miss.task s.events)) (each miss.task))
    (late_told file names made s misses counts firsts each)

-- Use: one part after another.
pub lists_told : (file : List ℕ) (hints : Bool) (names : List Named) (made : List Place) (kept : Kept) (seen : Seen) (r : List Slot) (misses firsts : List Miss)
    (counts : Grown ℕ) (before lines : ℕ) (t u v w : List ℕ) → AreLate misses firsts counts →
    before ≡ more kept.records (length seen.denials) → lines ≡ more before (length firsts) → t ≡ kept.lines →
    u ≡ t ++ flat_map (denied_note file hints names made seen.state.plan r) (take (kept.most - kept.records) seen.denials) →
    v ≡ u ++ late_lines file names made seen.state.plan.events counts (take (kept.most - before) firsts) →
    w ≡ v ++ more_text kept.most lines → w ≡ lists_with file hints names made kept seen r misses
lists_told file hints names made kept seen r misses firsts counts before lines t u v w are of_before of_lines of_t of_u of_v of_w =
    let d = flat_map (denied_note file hints names made seen.state.plan r) (take (kept.most - kept.records) seen.denials) in
    let l = late_lines file names made seen.state.plan.events counts (take (kept.most - before) firsts) in
    let whole : lines ≡ lines_of kept seen misses =
    of_lines ∙ ap₂ (λ b (fs : List Miss). more b (length fs)) of_before are.of_tasks in
    let late : l ≡ flat_map (missed_note file names made seen.state.plan misses) (take (kept.most - more kept.records (length seen.denials)) (firsts_of misses)) =
    late_told file names made seen.state.plan misses counts (take (kept.most - before) firsts) are.each
    ∙ ap₂ (λ b (fs : List Miss). flat_map (missed_note file names made seen.state.plan misses) (take (kept.most - b) fs)) of_before are.of_tasks in
    of_w ∙ ap (λ v. v ++ more_text kept.most lines) (of_v ∙ ap (λ u. u ++ l) (of_u ∙ ap (λ t. t ++ d) of_t))
    ∙ four kept.lines d l (more_text kept.most lines)
    ∙ ap (λ l. kept.lines ++ d ++ l ++ more_text kept.most lines) late
    ∙ ap (λ n. kept.lines ++ d ++ flat_map (missed_note file names made seen.state.plan misses) (take (kept.most - more kept.records (length seen.denials)) (firsts_of misses))
    ++ more_text kept.most n) whole
  where
    four : (a b c d : List ℕ) → ((a ++ b) ++ c) ++ d ≡ a ++ b ++ c ++ d
    four a b c d = simp append_assoc refl

-- Use: how many lines there are.
pub lines_counted : (kept : Kept) (seen : Seen) (misses firsts : List Miss) (counts : Grown ℕ) (before lines : ℕ) → AreLate misses firsts counts →
    before ≡ more kept.records (length seen.denials) → lines ≡ more before (length firsts) → lines ≡ lines_of kept seen misses
lines_counted kept seen misses firsts counts before lines are of_before of_lines =
    of_lines ∙ ap₂ (λ b (fs : List Miss). more b (length fs)) of_before are.of_tasks

-- Use: the counts after the lists.
pub notes_told : (file : List ℕ) (names : List Named) (made : List Place) (kept : Kept) (seen : Seen) (r : List Slot) (misses : List Miss)
    (missed lines : ℕ) (w x : List ℕ) → missed ≡ length misses → lines ≡ lines_of kept seen misses →
    w ≡ lists_with file true names made kept seen r misses →
    x ≡ w ++ counts_text file lines kept.commands (length seen.denials) missed → x ≡ notes_with file names made kept seen r misses
notes_told file names made kept seen r misses missed lines w x of_missed of_lines of_w of_x =
    of_x ∙ ap (λ w. w ++ counts_text file lines kept.commands (length seen.denials) missed) of_w
    ∙ ap₂ (λ n m. lists_with file true names made kept seen r misses ++ counts_text file n kept.commands (length seen.denials) m) of_lines of_missed

-- Use: the misses are those of the run.
pub lists_are : (file : List ℕ) (hints : Bool) (names : List Named) (made : List Place) (kept : Kept) (seen : Seen) (misses : List Miss) →
    misses ≡ misses_of seen.state.plan (run_of seen.state.plan seen.state.now) →
    lists_with file hints names made kept seen (run_of seen.state.plan seen.state.now) misses ≡ lists_text file hints names made kept seen
unfolding lists_text
lists_are file hints names made kept seen misses is = ap (lists_with file hints names made kept seen (run_of seen.state.plan seen.state.now)) is

pub notes_are : (file : List ℕ) (names : List Named) (made : List Place) (kept : Kept) (seen : Seen) (misses : List Miss) →
    misses ≡ misses_of seen.state.plan (run_of seen.state.plan seen.state.now) →
    notes_with file names made kept seen (run_of seen.state.plan seen.state.now) misses ≡ notes_text file names made kept seen
unfolding notes_text
notes_are file names made kept seen misses is = ap (notes_with file names made kept seen (run_of seen.state.plan seen.state.now)) is
