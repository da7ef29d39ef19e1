use Rattle.std.proofs.Common.{◌∙◌, ℕ, ◌*◌, List, ◌++◌, [], ◌∷◌, length, codes, decimal, ap}
use Rattle.std.proofs.lemmas.Result.{on_ok_weaker}
use Rattle.pf_text.specs.Columns.Decimals.{with_fewest_places}
use Rattle.pf_vocabulary.specs.Names.Slots.{unit_word}
use Rattle.pf_convert.specs.Fit.Lateness.{drifting_count}
use Rattle.pf_convert.specs.Fit.Notes.{tasks_word}
use Rattle.pf_convert.specs.List.Parts.{joined}
use Rattle.pf_convert.specs.List.Times.{places_of}
use Rattle.pf_convert.proofs.fit.notes.push_drift_words.Goals as goal

pub returns : goal.returns
returns c =
    let s = c.args.shown.now in
    let t = c.args.first in
    let old = c.args.words.now.items in
    let total = length s.tasks.now in
    let count = drifting_count s.quantum.length s.tasks.now in
    let unit = unit_word s.file.now.unit in
    let told = λ (n p q e : ℕ) (w u v : List ℕ).
    joined (codes "as a table (run -f c) it drifts from the jobs of " ∷ decimal n ∷ codes " of " ∷ decimal total ∷ w ∷ codes ", of " ∷ t.name.now
    ∷ codes " first: windows each " ∷ with_fewest_places (places_of s.file.now.unit) (p * q) ∷ codes " " ∷ u ∷ codes ", jobs each "
    ∷ with_fewest_places (places_of s.file.now.unit) e ∷ codes " " ∷ v ∷ []) in
    on_ok_weaker c.push_parts.result
    (λ e.
    e ∙ ap (λ n. old ++ told n c.from.result c.from-2.result c.from-every.result c.tasks_word.result.now c.word.result.now c.word-2.result.now) c.drifting_tasks.ensures
    ∙ ap (λ p. old ++ told count p c.from-2.result c.from-every.result c.tasks_word.result.now c.word.result.now c.word-2.result.now) c.from.ensures
    ∙ ap (λ q. old ++ told count t.slots.period q c.from-every.result c.tasks_word.result.now c.word.result.now c.word-2.result.now) c.from-2.ensures
    ∙ ap (λ v. old ++ told count t.slots.period s.quantum.length v c.tasks_word.result.now c.word.result.now c.word-2.result.now) c.from-every.ensures
    ∙ ap (λ w. old ++ told count t.slots.period s.quantum.length t.times.every w c.word.result.now c.word-2.result.now) c.tasks_word.ensures
    ∙ ap (λ u. old ++ told count t.slots.period s.quantum.length t.times.every (tasks_word total) u c.word-2.result.now) c.word.ensures
    ∙ ap (λ v. old ++ told count t.slots.period s.quantum.length t.times.every (tasks_word total) unit v) c.word-2.ensures)
    c.push_parts.ensures
