-- No script of a desk is too long.
use Rattle.std.proofs.Common.{◌^◌, ◌+◌, ◌*◌, ◌<◌, ◌≤◌, ◌==◌, ℕ, Bool, true, false, List, [], ◌∷◌, ◌++◌, All, codes, length, length-append, arith}
use Rattle.std.specs.Prelude.{⊤, if◌then◌else◌}
use Rattle.std.specs.Fmt.{decimal}
use Rattle.std.proofs.lemmas.Fmt.{length-decimal-le}
use Rattle.std.proofs.lemmas.List.Elements.{All-nil, All-cons, All-head, All-tail, All-append}
use Rattle.csv.specs.Writing.{default_writer, escaped, quoted, field_text, fields_text, needs_quotes, row_body, row_text, is_blank, end_text}
use Rattle.pf_scenario.specs.System.{System, IsInLimits, near_horizon}
use Rattle.pf_scenario.specs.declared.scenario.TheConstants.{MOST_EVENTS}
use Rattle.pf_scenario.specs.declared.event.Event.{Event}
use Rattle.pf_scenario.specs.declared.event.Event.TheVariants.{Join, Leave, Delay, Limit}
use Rattle.pf_scenario.specs.declared.event.Numbered.{Numbered}
use Rattle.pf_desk.specs.Desk.{Seen}
use Rattle.pf_stream.specs.Reading.{longest_script}
use Rattle.pf_text.specs.Page.{table_text}
use Rattle.pf_vocabulary.specs.Names.Titled.{untitled}
use Rattle.pf_report.specs.Script.{heading_records, settings_record, insert_record, insert_records, step_records, script_rows, script_text_of}
use Rattle.pf_script_laws.specs.Reopening.Reopen.{CanBeWritten}
use Rattle.pf_script_laws.proofs.ReopeningLemmas.Lines.{AreShort}
use Rattle.pf_script_laws.proofs.ReopeningLemmas.Again.{short, least_horizon}

-- fields of at most 15 bytes each
abbrev AreShortFields : List (List ℕ) → Type 0
AreShortFields [] = ⊤
AreShortFields (field ∷ fields) = (length field ≤ 15) × AreShortFields fields

-- a field has at most 32 bytes in the text then, and with a comma 33
escaped_twice : (field : List ℕ) → length (escaped default_writer field) ≤ 2 * length field
unfolding escaped
escaped_twice [] = omega arith
escaped_twice (b ∷ field) = by (b == default_writer.quote) (escaped_twice field)
  where
    by : (q : Bool) → length (escaped default_writer field) ≤ 2 * length field
        → length (if q then default_writer.quote ∷ b ∷ escaped default_writer field else b ∷ escaped default_writer field) ≤ 2 * length (b ∷ field)
    by true more = omega (arith, more)
    by false more = omega (arith, more)

field_long : (field : List ℕ) → length (field_text default_writer field) ≤ 2 * length field + 2
field_long field = by (needs_quotes default_writer field)
  where
    by : (q : Bool) → length (if q then quoted default_writer field else field) ≤ 2 * length field + 2
    by true = omega (arith, escaped_twice field, length-append (escaped default_writer field) (default_writer.quote ∷ []))
    by false = omega arith

fields_long : (fields : List (List ℕ)) → AreShortFields fields → length (fields_text default_writer fields) ≤ 33 * length fields
unfolding fields_text
fields_long [] short = omega arith
fields_long (field ∷ fields) short =
    omega (
      arith,
      field_long field,
      short.0,
      fields_long fields short.1,
      length-append (field_text default_writer field) (fields_text default_writer fields),
    )

body_long : (fields : List (List ℕ)) → AreShortFields fields → length (row_body default_writer fields) ≤ 33 * length fields
body_long [] short = omega arith
body_long (field ∷ fields) short =
    omega (
      arith,
      field_long field,
      short.0,
      fields_long fields short.1,
      length-append (field_text default_writer field) (fields_text default_writer fields),
    )

-- a record of at most six such fields
pub record IsShortRecord (fields : List (List ℕ)) : Type 0 where
  pub few : length fields ≤ 6
  pub short : AreShortFields fields

row_long : (fields : List (List ℕ)) → IsShortRecord fields → length (row_text default_writer fields) ≤ 201
row_long fields short = by (is_blank default_writer fields)
  where
    by : (b : Bool) → length (row_body default_writer fields ++ ((if b then default_writer.quote ∷ default_writer.quote ∷ [] else []) ++ end_text default_writer.terminator)) ≤ 201
    by true = omega (arith, body_long fields short.short, short.few, length-append (row_body default_writer fields) (default_writer.quote ∷ default_writer.quote ∷ end_text default_writer.terminator))
    by false = omega (arith, body_long fields short.short, short.few, length-append (row_body default_writer fields) (end_text default_writer.terminator))

table_long : (rows : List (List (List ℕ))) → All IsShortRecord rows → length (table_text rows) ≤ 201 * length rows
table_long [] short = omega arith
table_long (row ∷ rows) short =
    omega (
      arith,
      row_long row (All-head IsShortRecord row rows short),
      table_long rows (All-tail IsShortRecord row rows short),
      length-append (row_text default_writer row) (table_text rows),
    )

-- the records of a script are so short
number_short : (n : ℕ) → n < 10 ^ 15 → length (decimal n) ≤ 15
number_short n small = length-decimal-le 15 n (omega arith) small (omega (arith, small))

insert_short : (event : Event) → AreShort event → IsShortRecord (insert_record event)
insert_short (Join slot task cost period early) short = record {
  few = omega arith;
  short = (
    omega arith,
    (number_short slot short.0, (number_short task short.1, (number_short cost short.2, (number_short period short.3, (number_short early short.4, tt))))),
  );
}
insert_short (Leave slot task) short = record {
  few = omega arith;
  short = (omega arith, (number_short slot short.0, (number_short task short.1, tt)));
}
insert_short (Delay slot task by) short = record {
  few = omega arith;
  short = (omega arith, (number_short slot short.0, (number_short task short.1, (number_short by short.2, tt))));
}
insert_short (Limit slot count) short = record {
  few = omega arith;
  short = (omega arith, (number_short slot short.0, (number_short count short.1, tt)));
}

-- so many records, and each of them short
pub record AreFew (n : ℕ) (rows : List (List (List ℕ))) : Type 0 where
  pub few : length rows ≤ n
  pub short : All IsShortRecord rows

few_inserts : (xs : List Numbered) → All (λ x. AreShort x.event) xs → AreFew (length xs) (insert_records xs)
few_inserts [] short = record { few = omega arith; short = All-nil IsShortRecord }
few_inserts (x ∷ xs) short =
    let rest = few_inserts xs (All-tail (λ x. AreShort x.event) x xs short) in
    record {
      few = omega (arith, rest.few);
      short = All-cons IsShortRecord (insert_record x.event) (insert_records xs) (insert_short x.event (All-head (λ x. AreShort x.event) x xs short)) rest.short;
    }

few_if : (b : Bool) (fields : List (List ℕ)) → IsShortRecord fields → AreFew 1 (if b then [] else fields ∷ [])
few_if true fields short = record { few = omega arith; short = All-nil IsShortRecord }
few_if false fields short = record { few = omega arith; short = All-cons IsShortRecord fields [] short (All-nil IsShortRecord) }

few_both : (n m : ℕ) (rows more : List (List (List ℕ))) → AreFew n rows → AreFew m more → AreFew (n + m) (rows ++ more)
few_both n m rows more few fewer = record {
  few = omega (arith, few.few, fewer.few, length-append rows more);
  short = All-append IsShortRecord rows more few.short fewer.short;
}

few_steps : (n : ℕ) → n < 10 ^ 15 → AreFew 1 (step_records n)
few_steps n small =
    few_if (n == 0) (codes "step" ∷ decimal n ∷ []) (record { few = omega arith; short = (omega arith, (number_short n small, tt)) })

few_headings : (s : System) → AreFew 1 (heading_records s untitled)
few_headings s =
    few_if (s.horizon == near_horizon) (codes "pfair" ∷ codes "2" ∷ []) (record { few = omega arith; short = (omega arith, (omega arith, tt)) })

few_settings : (s : System) (every : ℕ) → IsInLimits s.processors s.base s.cap → every < 10 ^ 15 → AreFew 1 (settings_record s every ∷ [])
few_settings s every limits small =
    let processors = number_short s.processors (omega (arith, limits.processors_within)) in
    let base = number_short s.base (omega (arith, limits.base.within)) in
    let cap = number_short s.cap (omega (arith, limits.cap_within)) in
    few_if false (settings_record s every)
    (record { few = omega arith; short = (omega arith, (processors, (base, (cap, (number_short every small, tt))))) })

-- Use: no script of a desk is too long.
pub short_script : (every : ℕ) (seen : Seen) → CanBeWritten every seen → length (script_text_of every seen untitled) ≤ longest_script
unfolding script_text_of
short_script every seen can =
    let s = seen.state.plan.settings in
    let events = seen.state.plan.events in
    let inserts = few_inserts events (short every seen can) in
    let steps = few_steps seen.state.now (omega (arith, can.stepped, least_horizon every seen can)) in
    let behind = few_both (length events) 1 (insert_records events) (step_records seen.state.now) inserts steps in
    let opened = few_both 1 (length events + 1) (settings_record s every ∷ []) (insert_records events ++ step_records seen.state.now)
    (few_settings s every can.scenario.settings.limits (omega (arith, can.distance.within))) behind in
    let all = few_both 1 (1 + (length events + 1)) (heading_records s untitled) (settings_record s every ∷ (insert_records events ++ step_records seen.state.now))
    (few_headings s) opened in
    let few : length events ≤ MOST_EVENTS = can.scenario.few in
    omega (arith, table_long (script_rows every seen untitled) all.short, all.few, few)
