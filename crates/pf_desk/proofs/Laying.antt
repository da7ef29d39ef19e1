-- Histories whose rows lie flat: what keeps the entries that are laid, and what lies there with entries more.
use Rattle.std.proofs.Common.{◌≡◌, ℕ, ◌+◌, ◌-◌, ◌<◌, ◌≤◌, Bool, true, false, if◌then◌else◌, Option, None, List, [], ◌∷◌, ◌++◌, length, get_or, map, All, inl, inr, refl, sym, ap, ap₂, ◌∙◌, arith, append_assoc, length-append}
use Rattle.std.specs.List.{slice_index_or}
use Rattle.std.proofs.Math.Seq.{get_or-append_seam}
use Rattle.std.proofs.lemmas.Bool.{false≢true}
use Rattle.std.proofs.lemmas.List.{length_push, length-map, length-replicate, length-take-le, get_or_push, get_or_append_left, get_or-take, map_push, map-append}
use Rattle.std.proofs.lemmas.List.Elements.{All-nil, All-cons, All-head, All-tail, All-append, All-push}
use Rattle.pf_order.specs.declared.pick.Pick.{Pick}
use Rattle.pf_place.specs.RunRows.{last_row, but_last}
use Rattle.pf_place.specs.Occupancy.{idle_row}
use Rattle.pf_place.proofs.Blocks.{last_behind}
use Rattle.pf_desk.specs.declared.command.Command.TheVariants.{Step}
use Rattle.pf_desk.specs.declared.reply.Reply.{Reply}
use Rattle.pf_desk.specs.declared.reply.Reply.TheVariants.{Edited, Stepped, Refused}
use Rattle.pf_desk.specs.declared.entry.Entry.{Entry}
use Rattle.pf_desk.specs.declared.brief.Brief.{Brief}
use Rattle.pf_desk.specs.declared.brief.Brief.TheVariants.{OfSlot, OfCommand}
use Rattle.pf_desk.specs.declared.settled.Settled.{Settled}
use Rattle.pf_desk.specs.declared.settled.Answer.{Answer}
use Rattle.pf_desk.specs.declared.settled.Answer.TheVariants.{Edited as EditedAnswer, Refused as RefusedAnswer}
use Rattle.pf_desk.specs.Desk.{entry_of}
use Rattle.pf_desk.specs.Settled.{nothing_settled}
use Rattle.pf_desk.specs.Recorded.{slots_of, slots_taken, HasNoLessRoom}
use Rattle.pf_desk.specs.Laid.{reply_of_answer, answer_of, settled_of, briefs_from, entry_of_settled, entry_of_brief, entries_laid, IsLaid, AreKept, IsRowLaid, AreLaid, recorded_by}

pub taken-append : (es fs : List Entry) → slots_taken (es ++ fs) ≡ slots_taken es + slots_taken fs
taken-append [] fs = omega arith
taken-append (e ∷ es) fs = omega (arith, taken-append es fs)

pub none_taken : (es : List Entry) → All (λ e. slots_of e.reply ≡ 0) es → slots_taken es ≡ 0
none_taken [] none = refl
none_taken (e ∷ es) none =
    let P : Entry → Type 0 = λ e. slots_of e.reply ≡ 0 in
    omega (arith, All-head P e es none, none_taken es (All-tail P e es none))

pub room_is_there : (has_room : Bool) → 1 ≤ (if has_room then 1 else 0) → has_room ≡ true
room_is_there true room = refl
room_is_there false room = absurd (omega arith)

-- entering an entry takes the room
pub room_taken : (has_room : Bool) → 0 ≡ (if has_room then 1 else 0) - 1
room_taken true = refl
room_taken false = refl

-- the commands and the rows of the slots that were taken are still there
pub record Keeps (settled settled' : List Settled) (slots : ℕ) (rows rows' : List (List (Option Pick))) : Type 0 where
  pub commands : (k : ℕ) → k < length settled → slice_index_or settled' k nothing_settled ≡ slice_index_or settled k nothing_settled
  pub longer : length settled ≤ length settled'
  pub taken : (k : ℕ) → k < slots → slice_index_or rows' k [] ≡ slice_index_or rows k []

pub keeps_with_commands : (settled more : List Settled) (slots : ℕ) (rows : List (List (Option Pick))) → Keeps settled (settled ++ more) slots rows rows
keeps_with_commands settled more slots rows = record {
  commands = λ k within. get_or_append_left settled more nothing_settled k within;
  longer = omega (arith, length-append settled more);
  taken = λ k within. refl;
}

pub keeps_with_rows : (settled : List Settled) (slots : ℕ) (rows rows' : List (List (Option Pick))) → ((k : ℕ) → k < slots → slice_index_or rows' k [] ≡ slice_index_or rows k []) → Keeps settled settled slots rows rows'
keeps_with_rows settled slots rows rows' same = record { commands = λ k within. refl; longer = omega arith; taken = same }

brief_kept : (settled settled' : List Settled) (slots : ℕ) (rows rows' : List (List (Option Pick))) (brief : Brief) → Keeps settled settled' slots rows rows' →
    IsLaid settled slots brief → entry_of_brief settled' rows' brief ≡ entry_of_brief settled rows brief
brief_kept settled settled' slots rows rows' (OfSlot caller slot) keeps laid = ap (λ row. entry_of caller Step (Stepped slot row)) (keeps.taken slot laid)
brief_kept settled settled' slots rows rows' (OfCommand caller index) keeps laid = ap (entry_of_settled caller) (keeps.commands index laid)

-- Use: the entries are as before.
pub entries_kept : (settled settled' : List Settled) (slots : ℕ) (rows rows' : List (List (Option Pick))) (briefs : List Brief) → Keeps settled settled' slots rows rows' →
    All (IsLaid settled slots) briefs → entries_laid settled' rows' briefs ≡ entries_laid settled rows briefs
entries_kept settled settled' slots rows rows' [] keeps laid = refl
entries_kept settled settled' slots rows rows' (brief ∷ briefs) keeps laid =
    let P : Brief → Type 0 = IsLaid settled slots in
    ap₂ (λ e es. e ∷ es)
    (brief_kept settled settled' slots rows rows' brief keeps (All-head P brief briefs laid))
    (entries_kept settled settled' slots rows rows' briefs keeps (All-tail P brief briefs laid))

brief_stays : (settled settled' : List Settled) (slots slots' : ℕ) (brief : Brief) → length settled ≤ length settled' → slots ≤ slots' →
    IsLaid settled slots brief → IsLaid settled' slots' brief
brief_stays settled settled' slots slots' (OfSlot caller slot) longer more laid = omega arith
brief_stays settled settled' slots slots' (OfCommand caller index) longer more laid = omega arith

-- Use: what was laid is, among more commands and slots.
pub laid_stays : (settled settled' : List Settled) (slots slots' : ℕ) (briefs : List Brief) → length settled ≤ length settled' → slots ≤ slots' →
    All (IsLaid settled slots) briefs → All (IsLaid settled' slots') briefs
laid_stays settled settled' slots slots' [] longer more laid = All-nil (IsLaid settled' slots')
laid_stays settled settled' slots slots' (brief ∷ briefs) longer more laid =
    let P : Brief → Type 0 = IsLaid settled slots in
    All-cons (IsLaid settled' slots') brief briefs
    (brief_stays settled settled' slots slots' brief longer more (All-head P brief briefs laid))
    (laid_stays settled settled' slots slots' briefs longer more (All-tail P brief briefs laid))

pub briefs-append : (index : ℕ) (es fs : List Entry) → briefs_from index (es ++ fs) ≡ briefs_from index es ++ briefs_from (index + length es) fs
briefs-append index [] fs = ap (λ k. briefs_from k fs) (omega arith)
briefs-append index (e ∷ es) fs =
    let k : index + 1 + length es ≡ index + length (e ∷ es) = omega arith in
    ap (λ bs. OfCommand e.caller index ∷ bs) (briefs-append (index + 1) es fs ∙ ap (λ k. briefs_from (index + 1) es ++ briefs_from k fs) k)

-- one entry more is kept
pub brief_more : (front : List Brief) (index k : ℕ) (es : List Entry) (e : Entry) → k ≡ index + length es →
    (front ++ briefs_from index es) ++ OfCommand e.caller k ∷ [] ≡ front ++ briefs_from index (es ++ e ∷ [])
brief_more front index k es e at =
    ap (λ k. (front ++ briefs_from index es) ++ OfCommand e.caller k ∷ []) at
    ∙ append_assoc front (briefs_from index es) (OfCommand e.caller (index + length es) ∷ [])
    ∙ ap (λ bs. front ++ bs) (sym (briefs-append index es (e ∷ [])))

pub command_more : (front : List Settled) (es : List Entry) (e : Entry) → (front ++ map settled_of es) ++ settled_of e ∷ [] ≡ front ++ map settled_of (es ++ e ∷ [])
command_more front es e =
    append_assoc front (map settled_of es) (settled_of e ∷ []) ∙ ap (λ xs. front ++ xs) (sym (map_push settled_of es e))

answered : (reply : Reply) → slots_of reply ≡ 0 → reply_of_answer (answer_of reply) ≡ reply
answered (Edited id) none = refl
answered (Stepped slot row) none = absurd (omega arith)
answered (Refused fault) none = refl

answer_takes_none : (answer : Answer) → slots_of (reply_of_answer answer) ≡ 0
answer_takes_none (EditedAnswer id) = refl
answer_takes_none (RefusedAnswer fault) = refl

-- entries that took no slot are the entries of what is kept of them
pub entries_settled : (front settled : List Settled) (rows : List (List (Option Pick))) (index : ℕ) (es : List Entry) → settled ≡ front ++ map settled_of es → length front ≡ index →
    All (λ e. slots_of e.reply ≡ 0) es → entries_laid settled rows (briefs_from index es) ≡ es
entries_settled front settled rows index [] is at none = refl
entries_settled front settled rows index (e ∷ es) is at none =
    let P : Entry → Type 0 = λ e. slots_of e.reply ≡ 0 in
    let here : slice_index_or settled index nothing_settled ≡ settled_of e =
    ap₂ (λ xs k. get_or xs k nothing_settled) is (sym at) ∙ get_or-append_seam front (settled_of e) (map settled_of es) nothing_settled in
    let first : entry_of_settled e.caller (slice_index_or settled index nothing_settled) ≡ e =
    ap (entry_of_settled e.caller) here ∙ ap (entry_of e.caller e.command) (answered e.reply (All-head P e es none)) in
    let rest = entries_settled (front ++ settled_of e ∷ []) settled rows (index + 1) es
    (is ∙ sym (append_assoc front (settled_of e ∷ []) (map settled_of es)))
    (omega (arith, length_push front (settled_of e)))
    (All-tail P e es none) in
    ap₂ (λ x xs. x ∷ xs) first rest

pub settled_laid : (settled : List Settled) (slots index : ℕ) (es : List Entry) → index + length es ≤ length settled → All (IsLaid settled slots) (briefs_from index es)
settled_laid settled slots index [] within = All-nil (IsLaid settled slots)
settled_laid settled slots index (e ∷ es) within =
    All-cons (IsLaid settled slots) (OfCommand e.caller index) (briefs_from (index + 1) es) (omega arith) (settled_laid settled slots (index + 1) es (omega arith))

-- an idle row is laid after the rows of the slots that were taken
pub idle_row_laid : (processors slots : ℕ) (rows rows' : List (List (Option Pick))) → rows' ≡ rows ++ idle_row processors ∷ [] → length rows ≡ slots →
    IsRowLaid processors slots rows rows'
idle_row_laid processors slots rows rows' is long =
    let idle = idle_row processors in
    record {
      same = λ k within. ap (λ xs. get_or xs k []) is ∙ get_or_append_left rows (idle ∷ []) [] k (omega arith);
      long = ap length is ∙ length_push rows idle ∙ ap (λ n. n + 1) long;
      last = ap (λ xs. length (last_row [] xs)) is ∙ ap length (last_behind [] rows idle) ∙ length-replicate processors (let none : Option Pick = None in none);
    }

module _ (processors slots : ℕ) (has_room : Bool) (briefs : List Brief) (settled : List Settled) (rows : List (List (Option Pick))) (for_briefs for_commands : ℕ) (are : AreLaid processors slots has_room briefs settled rows for_briefs for_commands) where
  -- Use: there is room for an entry.
  pub laid_with_room : (rows' : List (List (Option Pick))) (for_briefs' for_commands' : ℕ) → IsRowLaid processors slots rows rows' →
      1 ≤ for_briefs' → 1 ≤ for_commands' →
      AreLaid processors slots true briefs settled rows' for_briefs' for_commands'
  laid_with_room rows' for_briefs' for_commands' lays more_briefs more_commands = record {
    laid = are.laid;
    taken = are.taken ∙ ap slots_taken (sym (entries_kept settled settled slots rows rows' briefs (keeps_with_rows settled slots rows rows' lays.same) are.laid));
    kept = inr (lays.long, lays.last);
    next = λ _. lays.long;
    for_brief = λ _. more_briefs;
    for_command = λ _. more_commands;
  }

  pub room_made : (rows' : List (List (Option Pick))) → IsRowLaid processors slots rows rows' →
      HasNoLessRoom (recorded_by processors has_room briefs settled rows) (recorded_by processors true briefs settled rows')
  room_made rows' lays = record {
    rest = ap (λ es. record { entries = es; processors = processors; spare = 1 })
        (entries_kept settled settled slots rows rows' briefs (keeps_with_rows settled slots rows rows' lays.same) are.laid);
    room = at_most_one has_room;
  }
    where
      at_most_one : (b : Bool) → (if b then 1 else 0) ≤ 1
      at_most_one true = omega arith
      at_most_one false = omega arith

-- what is laid without room for an entry
pub laid_without_room : (processors slots : ℕ) (briefs : List Brief) (settled : List Settled) (rows : List (List (Option Pick))) (for_briefs for_commands : ℕ) →
    All (IsLaid settled slots) briefs → slots ≡ slots_taken (entries_laid settled rows briefs) → AreKept processors slots rows →
    AreLaid processors slots false briefs settled rows for_briefs for_commands
laid_without_room processors slots briefs settled rows for_briefs for_commands laid taken kept = record {
  laid = laid;
  taken = taken;
  kept = kept;
  next = λ room. absurd (false≢true room);
  for_brief = λ room. absurd (false≢true room);
  for_command = λ room. absurd (false≢true room);
}

-- a row is put in place of the last one, which was laid for it
same_below : (slots : ℕ) (rows : List (List (Option Pick))) (row : List (Option Pick)) → length rows ≡ slots + 1 →
    (k : ℕ) → k < slots → slice_index_or (but_last rows ++ row ∷ []) k [] ≡ slice_index_or rows k []
same_below slots rows row long k within =
    let front : length (but_last rows) ≡ slots = length-take-le (length rows - 1) rows (omega arith) ∙ ap (λ n. n - 1) long ∙ omega arith in
    get_or_append_left (but_last rows) (row ∷ []) [] k (omega arith) ∙ get_or-take (length rows - 1) rows k [] (omega arith)

row_there : (slots : ℕ) (rows : List (List (Option Pick))) (row : List (Option Pick)) → length rows ≡ slots + 1 → slice_index_or (but_last rows ++ row ∷ []) slots [] ≡ row
row_there slots rows row long =
    get_or_push (but_last rows) row [] slots (length-take-le (length rows - 1) rows (omega arith) ∙ ap (λ n. n - 1) long ∙ omega arith)

pub length-row_put : (slots : ℕ) (rows : List (List (Option Pick))) (row : List (Option Pick)) → length rows ≡ slots + 1 → length (but_last rows ++ row ∷ []) ≡ slots + 1
length-row_put slots rows row long =
    length_push (but_last rows) row ∙ ap (λ n. n + 1) (length-take-le (length rows - 1) rows (omega arith) ∙ ap (λ n. n - 1) long ∙ omega arith)

module _ (slots : ℕ) (briefs : List Brief) (settled : List Settled) (rows : List (List (Option Pick))) (laid : All (IsLaid settled slots) briefs) where
  -- Use: a step with its slot's row is the entry after the others.
  pub slot_entered : (caller slot : ℕ) (row : List (Option Pick)) → length rows ≡ slots + 1 → slot ≡ slots →
      entries_laid settled (but_last rows ++ row ∷ []) (briefs ++ OfSlot caller slot ∷ []) ≡ entries_laid settled rows briefs ++ entry_of caller Step (Stepped slot row) ∷ []
  slot_entered caller slot row long is =
      let rows' = but_last rows ++ row ∷ [] in
      map_push (entry_of_brief settled rows') briefs (OfSlot caller slot)
      ∙ ap₂ (λ es row. es ++ entry_of caller Step (Stepped slot row) ∷ [])
      (entries_kept settled settled slots rows rows' briefs (keeps_with_rows settled slots rows rows' (same_below slots rows row long)) laid)
      (ap (λ k. slice_index_or rows' k []) is ∙ row_there slots rows row long)

  -- Use: a command that took no slot is the entry after the others.
  pub settled_entered : (caller index : ℕ) (s : Settled) → length settled ≡ index →
      entries_laid (settled ++ s ∷ []) rows (briefs ++ OfCommand caller index ∷ []) ≡ entries_laid settled rows briefs ++ entry_of_settled caller s ∷ []
  settled_entered caller index s at =
      map_push (entry_of_brief (settled ++ s ∷ []) rows) briefs (OfCommand caller index)
      ∙ ap₂ (λ es s. es ++ entry_of_settled caller s ∷ [])
      (entries_kept settled (settled ++ s ∷ []) slots rows rows briefs (keeps_with_commands settled (s ∷ []) slots rows) laid)
      (get_or_push settled s nothing_settled index at)

  -- Use: entries that took no slot are the entries after the others.
  pub all_entered : (index : ℕ) (es : List Entry) → length settled ≡ index → All (λ e. slots_of e.reply ≡ 0) es →
      entries_laid (settled ++ map settled_of es) rows (briefs ++ briefs_from index es) ≡ entries_laid settled rows briefs ++ es
  all_entered index es at none =
      let settled' = settled ++ map settled_of es in
      map-append (entry_of_brief settled' rows) briefs (briefs_from index es)
      ∙ ap₂ (λ xs ys. xs ++ ys)
      (entries_kept settled settled' slots rows rows briefs (keeps_with_commands settled (map settled_of es) slots rows) laid)
      (entries_settled settled settled' rows index es refl at none)

module _ (processors slots : ℕ) (briefs : List Brief) (settled : List Settled) (rows : List (List (Option Pick))) (for_briefs for_commands : ℕ) (laid : All (IsLaid settled slots) briefs) (taken : slots ≡ slots_taken (entries_laid settled rows briefs)) where
  pub slot_laid : (caller slot : ℕ) (row : List (Option Pick)) → length rows ≡ slots + 1 → slot ≡ slots →
      AreLaid processors (slots + 1) false (briefs ++ OfSlot caller slot ∷ []) settled (but_last rows ++ row ∷ []) for_briefs for_commands
  slot_laid caller slot row long is =
      let e = entry_of caller Step (Stepped slot row) in
      laid_without_room processors (slots + 1) (briefs ++ OfSlot caller slot ∷ []) settled (but_last rows ++ row ∷ []) for_briefs for_commands
      (All-push (IsLaid settled (slots + 1)) briefs (OfSlot caller slot) (laid_stays settled settled slots (slots + 1) briefs (omega arith) (omega arith) laid) (omega arith))
      (omega (arith, ap slots_taken (slot_entered slots briefs settled rows laid caller slot row long is), taken-append (entries_laid settled rows briefs) (e ∷ [])))
      (inl (length-row_put slots rows row long))

  pub command_laid : (caller index : ℕ) (s : Settled) → length settled ≡ index → AreKept processors slots rows →
      AreLaid processors slots false (briefs ++ OfCommand caller index ∷ []) (settled ++ s ∷ []) rows for_briefs for_commands
  command_laid caller index s at kept =
      let settled' = settled ++ s ∷ [] in
      let longer = length_push settled s in
      laid_without_room processors slots (briefs ++ OfCommand caller index ∷ []) settled' rows for_briefs for_commands
      (All-push (IsLaid settled' slots) briefs (OfCommand caller index) (laid_stays settled settled' slots slots briefs (omega arith) (omega arith) laid) (omega arith))
      (omega (arith, ap slots_taken (settled_entered slots briefs settled rows laid caller index s at), taken-append (entries_laid settled rows briefs) (entry_of_settled caller s ∷ []), answer_takes_none s.answer))
      kept

  pub commands_laid : (index : ℕ) (es : List Entry) → length settled ≡ index → All (λ e. slots_of e.reply ≡ 0) es → AreKept processors slots rows →
      AreLaid processors slots false (briefs ++ briefs_from index es) (settled ++ map settled_of es) rows for_briefs for_commands
  commands_laid index es at none kept =
      let settled' = settled ++ map settled_of es in
      let longer = length-append settled (map settled_of es) in
      let mapped = length-map es settled_of in
      laid_without_room processors slots (briefs ++ briefs_from index es) settled' rows for_briefs for_commands
      (All-append (IsLaid settled' slots) briefs (briefs_from index es) (laid_stays settled settled' slots slots briefs (omega arith) (omega arith) laid) (settled_laid settled' slots index es (omega arith)))
      (omega (arith, ap slots_taken (all_entered slots briefs settled rows laid index es at none), taken-append (entries_laid settled rows briefs) es, none_taken es none))
      kept
