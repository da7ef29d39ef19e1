-- The text of a script, by its parts.
use Rattle.std.proofs.Common.{◌≡◌, ◌∙◌, ℕ, List, [], ◌∷◌, ◌++◌, map, ap, ap₂, sym, append_assoc}
use Rattle.std.proofs.lemmas.Grind.{flat_map-append}
use Rattle.csv.specs.Writing.{row_text, default_writer}
use Rattle.pf_desk.specs.Desk.{Seen}
use Rattle.pf_vocabulary.specs.declared.names.titles.Titles.{Titles}
use Rattle.pf_report.specs.Script.{heading_records, settings_record, insert_records, name_record, slot_records, step_records, script_text_of, title_records}
use Rattle.pf_text.specs.Page.{table_text}

-- the opening, the events and the steps, one after another
pub script_parts : (every : ℕ) (seen : Seen) (titles : Titles)
    → ((table_text (heading_records seen.state.plan.settings titles) ++ table_text (settings_record seen.state.plan.settings every ∷ []))
    ++ table_text (title_records titles))
    ++ (table_text (insert_records seen.state.plan.events) ++ table_text (step_records seen.state.now))
    ≡ script_text_of every seen titles
unfolding script_text_of
script_parts every seen titles =
    let heading = heading_records seen.state.plan.settings titles in
    let settings = settings_record seen.state.plan.settings every in
    let told = title_records titles in
    let inserts = insert_records seen.state.plan.events in
    let steps = step_records seen.state.now in
    let text = row_text default_writer in
    sym (
    ap table_text (sym (append_assoc heading (settings ∷ []) (told ++ (inserts ++ steps))))
    ∙ flat_map-append text (heading ++ settings ∷ []) (told ++ (inserts ++ steps))
    ∙ ap₂ (λ (front more : List ℕ). front ++ more) (flat_map-append text heading (settings ∷ [])) (flat_map-append text told (inserts ++ steps))
    ∙ ap (λ (more : List ℕ). (table_text heading ++ table_text (settings ∷ [])) ++ (table_text told ++ more)) (flat_map-append text inserts steps)
    ∙ sym (append_assoc (table_text heading ++ table_text (settings ∷ [])) (table_text told) (table_text inserts ++ table_text steps))
    )

-- the length of a slot, and the names after it
pub title_parts : (titles : Titles) → table_text (slot_records titles.slot) ++ table_text (map name_record titles.names) ≡ table_text (title_records titles)
title_parts titles = sym (flat_map-append (row_text default_writer) (slot_records titles.slot) (map name_record titles.names))
