-- Plain edits judged one after another, and made at once.
use Rattle.std.proofs.Common.{◌≡◌, ◌⊎◌, ℕ, ◌+◌, ◌≤◌, ◌<◌, false, None, Some, IfSome, inl, inr, List, [], ◌∷◌, ◌++◌, length, get_or, Bool, map, take, drop, min, All, refl, sym, ap, ap₂, ◌∙◌, subst, arith, append_assoc}
use Rattle.std.proofs.lemmas.Bool.Decides.{nat_tests}
use Rattle.std.proofs.lemmas.List.{map-append, take-append-drop, take-take, drop-take, take_more, take_all, length-take-le, length-drop}
use Rattle.std.proofs.lemmas.List.Elements.{All-nil, All-cons, All-append, All-get_or, All-take}
use Rattle.pf_order.specs.Counts.{Counts}
use Rattle.pf_order.specs.Counted.{CountsAtMost}
use Rattle.pf_scenario.specs.Scenario.{Plan, plan_after, number_of_change, slot_touched}
use Rattle.pf_scenario.specs.Edit.{IsScenario, edit_fault}
use Rattle.pf_scenario.specs.declared.fault.EditFault.{EditFault}
use Rattle.pf_scenario.proofs.Scenarios.{changes_keep_scenarios}
use Rattle.pf_scenario.specs.declared.change.Change.{Change}
use Rattle.pf_timeline.specs.Timeline.{KeptRun, ReachesBack, StandsFor, AgreesBelow, past_below}
use Rattle.pf_timeline.proofs.Past.{timelines_rest_on_past, stands_now, past_narrowed, agrees_below}
use Rattle.pf_desk.specs.declared.batch.Batch.{Batch}
use Rattle.pf_desk.specs.declared.command.Command.{Command}
use Rattle.pf_desk.specs.declared.command.Command.TheVariants.{Edit, Step}
use Rattle.pf_desk.specs.declared.reply.Reply.{Reply}
use Rattle.pf_desk.specs.declared.reply.Reply.TheVariants.{Edited, Refused}
use Rattle.pf_desk.specs.declared.reply.Fault.TheVariants.{BadEdit}
use Rattle.pf_desk.specs.declared.entry.Entry.{Entry}
use Rattle.pf_desk.specs.Machine.{State, opening_state, edit_reply, reply_to, state_after}
use Rattle.pf_desk.specs.History.{IsLegal, IsLegalFrom, state_behind, last_state}
use Rattle.pf_desk.specs.Desk.{Shown, AnswersAll, most_replayed, entry_of}
use Rattle.pf_desk.specs.Recorded.{Recorded, slots_of, Gains}
use Rattle.pf_desk.specs.Kept.{state_of, shown_by, IsKeptDesk, ArePartsOfDesk}
use Rattle.pf_desk.specs.Plain.{IsPlain, IsPlainFrom, ArePlainFrom}
use Rattle.pf_desk.specs.Gathered.{IsBatch, AnswersFirst}
use Rattle.pf_desk.proofs.Changes.{past_rest}
use Rattle.pf_desk.proofs.Histories.{legal_append, behind_append, settings_behind}
use Rattle.pf_desk.proofs.Slots.{took_none}

-- one edit more is judged: its reply is the machine's, and the scenario is then that of the machine
pub record Judges (b c : Batch) (change : Change) (reply : Reply) : Type 0 where
  pub caller : c.caller ≡ b.caller
  pub entries : c.entries.items ≡ b.entries.items ++ entry_of b.caller (Edit change false) reply ∷ []
  pub answer : (n : ℕ) → reply ≡ reply_to (record { plan = b.scenario; now = n }) (Edit change false)
  pub state : (n : ℕ) → state_after (record { plan = b.scenario; now = n }) (Edit change false) reply ≡ record { plan = c.scenario; now = n }
  pub scenario : IsScenario c.scenario
  pub past : past_below c.from b.scenario ≡ past_below c.from c.scenario
  pub within : c.from ≤ b.from

-- Use: the batch has it too.
pub batch_judged : (d : Shown) (b c : Batch) (change : Change) (reply : Reply) → IsBatch d b → Judges b c change reply → IsBatch d c
batch_judged d b c change reply is judges =
    let e = entry_of b.caller (Edit change false) reply in
    record {
      callers = rw (judges.entries, judges.caller)
          (All-append (λ e. e.caller ≡ b.caller) b.entries.items (e ∷ []) is.callers
          (All-cons (λ e. e.caller ≡ b.caller) e [] refl (All-nil (λ e. e.caller ≡ b.caller))));
      answers = rw judges.entries
          (legal_append d.state b.entries.items (e ∷ []) is.answers
          (judges.answer d.state.now ∙ ap (λ st. reply_to st (Edit change false)) (sym is.state), tt));
      state = ap (state_behind d.state) judges.entries
          ∙ behind_append d.state b.entries.items (e ∷ [])
          ∙ ap (λ st. state_after st (Edit change false) reply) is.state
          ∙ judges.state d.state.now;
      scenario = judges.scenario;
      past = past_narrowed d.state.plan b.scenario c.from b.from judges.within is.past ∙ judges.past;
      within = omega (arith, judges.within, is.within);
    }

-- Use: an edit with a fault.
pub judges_refused : (b c : Batch) (change : Change) (fault : EditFault) → c.caller ≡ b.caller → c.scenario ≡ b.scenario →
    c.from ≡ b.from → c.entries.items ≡ b.entries.items ++ entry_of b.caller (Edit change false) (Refused (BadEdit fault)) ∷ [] →
    edit_fault b.scenario change ≡ Some fault → IsScenario b.scenario → Judges b c change (Refused (BadEdit fault))
judges_refused b c change fault caller same from entries faulty scenario = record {
  caller = caller;
  entries = entries;
  answer = λ n. sym (ap (edit_reply (record { plan = b.scenario; now = n }) change false) faulty);
  state = λ n. ap (λ s. record { plan = s; now = n }) (sym same);
  scenario = subst IsScenario (sym same) scenario;
  past = ap (past_below c.from) (sym same);
  within = omega (arith, from);
}

-- Use: an edit without a fault, which touches slot t first.
pub judges_edited : (b c : Batch) (change : Change) (id t : ℕ) → c.caller ≡ b.caller → c.scenario ≡ plan_after b.scenario change →
    id ≡ number_of_change b.scenario change → slot_touched b.scenario change ≡ Some t → c.from ≡ min b.from t →
    c.entries.items ≡ b.entries.items ++ entry_of b.caller (Edit change false) (Edited id) ∷ [] →
    edit_fault b.scenario change ≡ None → IsScenario b.scenario → Judges b c change (Edited id)
judges_edited b c change id t caller same number touched from entries faultless scenario = record {
  caller = caller;
  entries = entries;
  answer = λ n.
      ap (λ k. Edited k) number ∙ sym (ap (edit_reply (record { plan = b.scenario; now = n }) change false) faultless);
  state = λ n. ap (λ s. record { plan = s; now = n }) (sym same);
  scenario = subst IsScenario (sym same) (changes_keep_scenarios b.scenario change scenario faultless);
  past = past_rest b.scenario change c.from scenario faultless
      (subst (λ o. IfSome o (λ k. c.from ≤ k)) (sym touched) (omega (arith, from)))
      ∙ ap (past_below c.from) (sym same);
  within = omega (arith, from);
}

-- a desk that makes a batch: the kept run of its scenario over as many slots, and all its entries
pub record Makes (plan : Plan) (kept kept' : KeptRun) (es : List Entry) (spare : ℕ) (b : Batch) : Type 0 where
  pub is : IsKeptDesk plan kept es
  pub batch : IsBatch (shown_by plan kept es spare) b
  pub stands : StandsFor b.scenario kept.now kept'
  pub near : ReachesBack kept'.near kept'.now
  pub every : kept'.every ≡ kept.every

module _ (plan : Plan) (kept kept' : KeptRun) (es : List Entry) (spare : ℕ) (b : Batch) (makes : Makes plan kept kept' es spare b) where
  made_state : state_behind (state_of plan kept) b.entries.items ≡ state_of b.scenario kept'
  made_state = makes.batch.state ∙ ap (λ n. record { plan = b.scenario; now = n }) (sym makes.stands.slots)

  -- Use: its settings are those of the desk.
  pub batch_settings : plan.settings ≡ b.scenario.settings
  batch_settings = sym (settings_behind (state_of plan kept) b.entries.items) ∙ ap (λ st. st.plan.settings) makes.batch.state

  -- Use: what is kept then.
  pub batch_kept : IsKeptDesk b.scenario kept' (es ++ b.entries.items)
  batch_kept =
      let opened = opening_state plan.settings in
      let all = es ++ b.entries.items in
      let legal = legal_append opened es b.entries.items makes.is.legal
      (subst (λ st. IsLegalFrom st b.entries.items) (sym makes.is.last) makes.batch.answers) in
      record {
        stands = stands_now b.scenario kept.now kept' makes.stands;
        near = makes.near;
        legal = subst (λ system. IsLegal system all) batch_settings legal;
        last = ap (λ system. last_state system all) (sym batch_settings)
            ∙ behind_append opened es b.entries.items
            ∙ ap (λ st. state_behind st b.entries.items) makes.is.last
            ∙ made_state;
      }

  -- Use: the machine answers so.
  pub batch_answers : (spare' : ℕ) →
      AnswersAll b.caller (map (λ e. e.command) b.entries.items) (shown_by plan kept es spare)
      (shown_by b.scenario kept' (es ++ b.entries.items) spare')
  batch_answers spare' = record {
    entries = b.entries.items;
    commands_in_order = refl;
    callers = makes.batch.callers;
    answers = makes.batch.answers;
    entered = refl;
    state = sym made_state;
    every = makes.every;
  }

-- Use: the parts that a batch makes.
pub batch_parts : (plan : Plan) (kept kept' : KeptRun) (h h' : Recorded) (spare : ℕ) (b : Batch) → Makes plan kept kept' h.entries spare b →
    h.processors ≡ plan.settings.processors → Gains h b.entries.items h' → ArePartsOfDesk b.scenario kept' h'
batch_parts plan kept kept' h h' spare b makes processors gains = record {
  keeps = subst (IsKeptDesk b.scenario kept') (sym (ap (λ (k : Recorded). k.entries) gains))
      (batch_kept plan kept kept' h.entries spare b makes);
  processors = ap (λ (k : Recorded). k.processors) gains
      ∙ processors
      ∙ ap (λ system. system.processors) (batch_settings plan kept kept' h.entries spare b makes);
}

-- Use: no edit of a batch took a slot.
pub batch_took_none : (d : Shown) (b : Batch) → IsBatch d b → All (λ e. slots_of e.reply ≡ 0) b.entries.items
batch_took_none d b is = took_none d.state b.entries.items is.answers (ap (λ (st : State). st.now) is.state)

-- Use: what a batch that touches no slot below now leaves standing.
pub batch_ahead : (plan : Plan) (kept : KeptRun) (es : List Entry) (spare : ℕ) (b : Batch) → IsKeptDesk plan kept es →
    IsBatch (shown_by plan kept es spare) b → kept.now ≤ b.from → StandsFor b.scenario kept.now kept
batch_ahead plan kept es spare b is batch ahead =
    let at : b.from ≡ kept.now = omega (arith, batch.within) in
    timelines_rest_on_past plan b.scenario kept.now kept batch.scenario
    (subst (λ n. past_below n plan ≡ past_below n b.scenario) at batch.past) is.stands

-- Use: what a batch leaves of the past.
pub batch_agrees : (plan : Plan) (kept : KeptRun) (es : List Entry) (spare : ℕ) (b : Batch) → IsKeptDesk plan kept es →
    IsBatch (shown_by plan kept es spare) b → AgreesBelow b.scenario b.from kept
batch_agrees plan kept es spare b is batch =
    agrees_below plan b.scenario b.from kept.now kept batch.within batch.past is.stands

-- the first of some plain edits
pub plain_front : (s : ℕ) (st : State) (xs ys : List Command) → ArePlainFrom s st (xs ++ ys) → ArePlainFrom s st xs
plain_front s st [] ys plain = tt
plain_front s st (x ∷ xs) ys plain = (plain.0, plain_front s (state_after st x (reply_to st x)) xs ys plain.1)

-- the last of some plain edits, where the machine then is
pub plain_last : (s : ℕ) (st : State) (es : List Entry) (c : Command) → IsLegalFrom st es →
    ArePlainFrom s st (map (λ e. e.command) es ++ c ∷ []) → IsPlainFrom s (state_behind st es).plan c
plain_last s st [] c legal plain = plain.0
plain_last s st (e ∷ es) c legal plain =
    plain_last s (state_after st e.command e.reply) es c legal.1
    (subst (λ reply. ArePlainFrom s (state_after st e.command reply) (map (λ e. e.command) es ++ c ∷ [])) (sym legal.0) plain.1)

-- some commands are answered, and then others
pub answers_append : (caller : ℕ) (xs ys : List Command) (before between after : Shown) →
    AnswersAll caller xs before between → AnswersAll caller ys between after → AnswersAll caller (xs ++ ys) before after
answers_append caller xs ys before between after front back = record {
  entries = front.entries ++ back.entries;
  commands_in_order = map-append _ front.entries back.entries ∙ ap₂ (λ us vs. us ++ vs) front.commands_in_order back.commands_in_order;
  callers = All-append (λ e. e.caller ≡ caller) front.entries back.entries front.callers back.callers;
  answers = legal_append before.state front.entries back.entries front.answers
      (subst (λ st. IsLegalFrom st back.entries) front.state back.answers);
  entered = back.entered ∙ ap (λ es. es ++ back.entries) front.entered ∙ append_assoc before.history front.entries back.entries;
  state = back.state ∙ ap (λ st. state_behind st back.entries) front.state ∙ sym (behind_append before.state front.entries back.entries);
  every = back.every ∙ front.every;
}

take_then : (i k : ℕ) (xs : List Command) → take (i + k) xs ≡ take i xs ++ take k (drop i xs)
take_then i k xs =
    sym (take-append-drop i (take (i + k) xs))
    ∙ ap₂ (λ us vs. us ++ vs) (take-take i (i + k) xs (omega arith)) (drop-take i k xs)

-- Use: the first of the commands after those that were answered.
pub answers_then : (caller : ℕ) (commands : List Command) (i k : ℕ) (before between after : Shown) →
    AnswersAll caller (take i commands) before between → AnswersFirst k caller (drop i commands) between after →
    AnswersAll caller (take (i + k) commands) before after
answers_then caller commands i k before between after front back =
    subst (λ cs. AnswersAll caller cs before after) (sym (take_then i k commands))
    (answers_append caller (take i commands) (take k (drop i commands)) before between after front back.answers)

-- plain edits that begin at s or later are plain
pub plain_each : (s : ℕ) (st : State) (cs : List Command) → ArePlainFrom s st cs → All IsPlain cs
plain_each s st [] plain = All-nil IsPlain
plain_each s st (Step ∷ cs) plain = absurd plain.0
plain_each s st (Edit change strict ∷ cs) plain =
    All-cons IsPlain (Edit change strict) cs plain.0.0
    (plain_each s (state_after st (Edit change strict) (reply_to st (Edit change strict))) cs plain.1)

-- a later slot replays no more
pub replayed_later : (now apart s t : ℕ) → min s now ≤ t → most_replayed now apart (Some t) ≤ most_replayed now apart (Some s)
replayed_later now apart s t later = grind (arith, nat_tests)

pub counts_later : (now apart s t : ℕ) (c d : Counts) → min s now ≤ t → CountsAtMost (most_replayed now apart (Some t)) c d →
    CountsAtMost (most_replayed now apart (Some s)) c d
counts_later now apart s t c d later few =
    record { never_falls = few.never_falls; at_most = omega (arith, few.at_most, replayed_later now apart s t later) }

-- Use: one plain edit more.
pub plain_more : (cs : List Command) (i : ℕ) (x : Command) → i < length cs → All IsPlain (take i cs) → IsPlain (get_or cs i x) →
    All IsPlain (take (i + 1) cs)
plain_more cs i x within front last =
    subst (All IsPlain) (sym (take_more cs i x within))
    (All-append IsPlain (take i cs) (get_or cs i x ∷ []) front (All-cons IsPlain (get_or cs i x) [] last (All-nil IsPlain)))

-- Use: one of some plain edits is not strict.
pub plain_at : (cs : List Command) (i : ℕ) (x : Command) (change : Change) (strict : Bool) → i < length cs → All IsPlain cs →
    get_or cs i x ≡ Edit change strict → get_or cs i x ≡ Edit change false
plain_at cs i x change strict within plain is =
    let not_strict : strict ≡ false = subst IsPlain is (All-get_or IsPlain cs i x within plain) in
    is ∙ ap (Edit change) not_strict

-- Use: a batch with one edit more touches nothing below s either.
pub from_turn : (d : Shown) (b c : Batch) (cs : List Command) (i : ℕ) (x : Command) (change : Change) → IsBatch d b →
    map (λ e. e.command) b.entries.items ≡ take i cs → i < length cs → get_or cs i x ≡ Edit change false →
    ((s : ℕ) → ArePlainFrom s d.state (take i cs) → min s d.state.now ≤ b.from) →
    ((s : ℕ) → IsPlainFrom s b.scenario (Edit change false) → min s b.from ≤ c.from) →
    (s : ℕ) → ArePlainFrom s d.state (take (i + 1) cs) → min s d.state.now ≤ c.from
from_turn d b c cs i x change is commands within edit before judged s plain =
    let all : ArePlainFrom s d.state (take i cs ++ get_or cs i x ∷ []) = subst (ArePlainFrom s d.state) (take_more cs i x within) plain in
    let earlier : min s d.state.now ≤ b.from = before s (plain_front s d.state (take i cs) (get_or cs i x ∷ []) all) in
    let last : IsPlainFrom s (state_behind d.state b.entries.items).plan (get_or cs i x) =
    plain_last s d.state b.entries.items (get_or cs i x) is.answers
    (subst (λ xs. ArePlainFrom s d.state (xs ++ get_or cs i x ∷ [])) (sym commands) all) in
    let here : IsPlainFrom s b.scenario (Edit change false) =
    subst (IsPlainFrom s b.scenario) edit (subst (λ (st : State). IsPlainFrom s st.plan (get_or cs i x)) is.state last) in
    omega (arith, earlier, judged s here)

-- Use: all commands as the first of them.
pub plain_whole : (s : ℕ) (st : State) (cs : List Command) (n : ℕ) → length cs ≤ n → ArePlainFrom s st cs → ArePlainFrom s st (take n cs)
plain_whole s st cs n whole plain = subst (ArePlainFrom s st) (sym (take_all n cs whole)) plain

-- Use: no step is a plain edit.
pub steps_not_plain : (cs : List Command) (n : ℕ) → 1 ≤ n → n ≤ length cs → All IsPlain (take n cs) → All (λ c. c ≡ Step) cs → ⊥
steps_not_plain cs n some within plain steps =
    let long : 0 < length (take n cs) = omega (arith, length-take-le n cs within) in
    subst IsPlain (All-get_or (λ c. c ≡ Step) (take n cs) 0 Step long (All-take (λ c. c ≡ Step) n cs steps))
    (All-get_or IsPlain (take n cs) 0 Step long plain)

-- Use: where all commands are plain edits, the first of them are all.
pub plain_turn : (s : ℕ) (d e f : Shown) (cs : List Command) (i k : ℕ) (c m n : Counts) → i < length cs → ArePlainFrom s d.state cs →
    ((i ≡ 0) × (e ≡ d) × (m ≡ c)) ⊎ ((i ≡ length cs) × CountsAtMost (most_replayed d.state.now d.every (Some s)) c m) →
    ((s : ℕ) → ArePlainFrom s e.state (drop i cs) → CountsAtMost (most_replayed e.state.now e.every (Some s)) m n) →
    (All IsPlain (drop i cs) → k ≡ length (drop i cs)) →
    ((i + k ≡ 0) × (f ≡ d) × (n ≡ c)) ⊎ ((i + k ≡ length cs) × CountsAtMost (most_replayed d.state.now d.every (Some s)) c n)
plain_turn s d e f cs i k c m n within plain (inl (zero, same, none)) few whole =
    let here : ArePlainFrom s e.state (drop i cs) =
    subst (λ j. ArePlainFrom s e.state (drop j cs)) (sym zero) (subst (λ (x : Shown). ArePlainFrom s x.state cs) (sym same) plain) in
    let all : k ≡ length (drop i cs) = whole (plain_each s e.state (drop i cs) here) in
    let counted : CountsAtMost (most_replayed e.state.now e.every (Some s)) c n =
    subst (λ (z : Counts). CountsAtMost (most_replayed e.state.now e.every (Some s)) z n) none (few s here) in
    inr (
      omega (arith, zero, all, length-drop i cs),
      subst (λ (x : Shown). CountsAtMost (most_replayed x.state.now x.every (Some s)) c n) same counted,
    )
plain_turn s d e f cs i k c m n within plain (inr (whole_done, before)) few whole = absurd (omega (arith, whole_done))
