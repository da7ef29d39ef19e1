-- The answer to a change that was made.
use Rattle.std.specs.Prelude.{ℕ, Bool, ◌==◌, ◌&&◌, if◌then◌else◌, List, [], ◌++◌, codes, length}
use Rattle.std.specs.Fmt.{decimal}
use Rattle.pf_run.specs.Computed.{run_of}
use Rattle.pf_run.specs.RunRows.{denials_in}
use Rattle.pf_tally.specs.Misses.{misses_of}
use Rattle.pf_desk.specs.Machine.{State}
use Rattle.pf_desk.specs.declared.reply.Reply.TheVariants.{Edited}
use Rattle.pf_report.specs.Replies.{reply_line}
use Rattle.pf_answers.specs.Keys.{changed_key, misses_key}
use Rattle.pf_answers.specs.declared.counts.Counts.{Counts}
use Rattle.pf_answers.specs.declared.manner.Manner.{Manner}
use Rattle.pf_answers.specs.declared.slots.SlotsChanged.{SlotsChanged}
use Rattle.pf_answers.specs.declared.slots.SlotsChanged.TheVariants.{Untouched, Same, Between}

-- how many lines the tables of missed windows and of denials have
abbrev pub counts_of : State → Counts
counts_of st = record {
  misses = length (misses_of st.plan (run_of st.plan st.now));
  denials = length (denials_in st.plan st.now);
}

abbrev pub difference : List ℕ → ℕ → ℕ → List ℕ
difference word a b = word ++ (decimal a ++ (codes " -> " ++ decimal b))

-- what differs from before, indented
abbrev pub changed_line : Counts → Counts → List ℕ
changed_line before after =
    if before.misses == after.misses then
    (if before.denials == after.denials then []
    else difference (codes "  denials ") before.denials after.denials ++ codes "\n")
    else
    (difference (codes "  misses ") before.misses after.misses
    ++ ((if before.denials == after.denials then [] else difference (codes "; denials ") before.denials after.denials) ++ codes "\n"))

abbrev pub pair : List ℕ → ℕ → ℕ → List ℕ
pair key a b = key ++ (decimal a ++ (codes "," ++ (decimal b ++ codes "]")))

abbrev pub are_same : Counts → Counts → Bool
are_same before after = before.misses == after.misses && before.denials == after.denials

unfoldable pub pairs : Counts → Counts → List ℕ
pairs before after =
    pair changed_key before.denials after.denials
    ++ (pair misses_key before.misses after.misses ++ codes "},")

abbrev pub changed_member : Counts → Counts → List ℕ
changed_member before after = if are_same before after then [] else pairs before after

-- which slots are not as before, where the change touches one that was stepped
abbrev pub slots_line : SlotsChanged → List ℕ
slots_line Untouched = []
slots_line Same = codes "  no slot changed\n"
slots_line (Between first last) =
    if first == last then codes "  slot " ++ (decimal first ++ codes " changed\n")
    else codes "  slots " ++ (decimal first ++ (codes " to " ++ decimal last)) ++ codes " changed\n"

abbrev pub slots_member : SlotsChanged → List ℕ
slots_member Untouched = []
slots_member Same = codes ",\"slots\":null"
slots_member (Between first last) = pair (codes ",\"slots\":[") first last

abbrev pub made_json : ℕ → SlotsChanged → Counts → Counts → List ℕ
made_json id slots before after =
    codes "{" ++ (changed_member before after ++ (codes "\"event\":" ++ (decimal id ++ (slots_member slots ++ codes "}\n"))))

-- the change of the event of this number was made; so many lines there were before, and are now
abbrev pub made_text : Manner → ℕ → SlotsChanged → Counts → Counts → List ℕ
made_text manner id slots before after =
    if manner.json then made_json id slots before after
    else reply_line (Edited id) ++ (if manner.quiet then [] else slots_line slots ++ changed_line before after)
