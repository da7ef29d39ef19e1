-- The script of version 2 that belongs to a plan, read record by record.
use Rattle.std.proofs.Common.{◌≡◌, ◌+◌, ◌^◌, ◌<◌, ℕ, Bool, true, false, List, [], ◌∷◌, Option, None, Some, Ok, Err, Result, All, length, ap, sym, subst, arith, refl}
use Rattle.std.specs.Prelude.{⊤, if◌then◌else◌, nat_lt}
use Rattle.std.proofs.lemmas.List.Elements.{All-append, All-cons, All-head, All-nil, All-tail}
use Rattle.pf_desk.specs.Machine.{State}
use Rattle.pf_vocabulary.specs.Names.Names.{with_name}
use Rattle.pf_vocabulary.specs.declared.names.named.Named.{Named}
use Rattle.pf_text.specs.Rows.Rows.{Row, rows}
use Rattle.pf_scenario.specs.declared.change.Change.TheVariants.{Insert, Alter, Strike}
use Rattle.pf_script.proofs.PlanLemmas.GivenLabels.{all_labels_with}
use Rattle.pf_script.specs.Plan.Labels.{with_label}
use Rattle.pf_script.specs.Fields.{is_word}
use Rattle.pf_script.specs.Parsing.{heading_at, record_at}
use Rattle.pf_script.specs.Places.{lines_behind, record_lines}
use Rattle.pf_script.specs.Told.{FaultTold, Reading, faults_in, first_of, lines_in, readings_from, settings_in, told, told_in}
use Rattle.pf_script.specs.declared.line.Line.{Line}
use Rattle.pf_script.specs.declared.line.Line.TheVariants.{Edit, Steps}
use Rattle.pf_script.specs.declared.record.LineTold.{LineTold}
use Rattle.pf_script.specs.declared.record.Record.TheVariants.{Heading}
use Rattle.pf_script.specs.declared.stage.Stage.{Stage}
use Rattle.pf_script.specs.declared.stage.Stage.TheVariants.{Beginning, Headed, Opened}
use Rattle.pf_script.specs.declared.version.Version.TheVariants.{Second}
use Rattle.pf_text.specs.Page.{table_text}
use Rattle.pf_script.specs.Plan.Heading.{heading_fault, is_plan_heading}
use Rattle.pf_script.specs.declared.plan.labels.Labelled.{Labelled}
use Rattle.pf_script.specs.Plan.Parsing.{fault_at, said_at}
use Rattle.pf_script.specs.declared.plan.fault.BadRecord.{BadRecord}
use Rattle.pf_script.specs.declared.plan.fault.Reason.TheVariants.{NoSettings}
use Rattle.pf_script.specs.declared.plan.fault.RecordFault.{RecordFault}
use Rattle.pf_script.specs.declared.plan.said.Said.{Said}
use Rattle.pf_script.specs.declared.plan.said.Said.TheVariants.{Settings, Slot, Name, Asks}
use Rattle.pf_script.specs.declared.plan.state.Progress.{Progress}
use Rattle.pf_plain_script.specs.declared.origin.Origin.{Origin}
use Rattle.pf_plain_script.specs.Plain.{Course, Plain, course_behind, desk_behind, ended, first_column, given, origin_at, plain_behind, plain_from, plain_next, plain_of, start, with_heading, with_said}
use Rattle.pf_plain_script.specs.Written.{heading_fields}
use Rattle.pf_version_laws.specs.Retold.{IsRetold, IsSameFault, ScriptsAreRetold, lines_said, saids_behind, saids_from, saids_next, saids_of, settings_said}
use Rattle.pf_version_laws.proofs.Numbering.{GivesShort, IsNumbering, given_short, line_kept}
use Rattle.pf_version_laws.proofs.Saying.{CanBeWritten, IsShortLine, IsShortProgress, said_written}
use Rattle.pf_version_laws.proofs.Reading.{read_again}
use Rattle.pf_version_laws.proofs.Writing.{bad_before, bad_behind, line_read, settings_read}

-- a desk, where there is one, has numbers left
abbrev pub HasNumbering : Option State → Type 0
HasNumbering None = ⊤
HasNumbering (Some st) = IsNumbering st

pub record IsGood (c : Course) : Type 0 where
  pub progress : IsShortProgress c.progress
  pub desk : HasNumbering c.desk

gives_short : (line : Line) → IsShortLine line → GivesShort line
gives_short (Edit (Insert event) strict) short = tt
gives_short (Edit (Alter id event) strict) short = short.number
gives_short (Edit (Strike id) strict) short = short
gives_short (Steps count) short = tt

number_short : (desk : Option State) (line : Line) → HasNumbering desk → IsShortLine line → given desk line < 10 ^ 15
number_short None line few short = omega arith
number_short (Some st) line few short = given_short line st few (gives_short line short)

desk_kept : (desk : Option State) (line : Line) → HasNumbering desk → HasNumbering (desk_behind desk line)
desk_kept None line few = tt
desk_kept (Some st) line few = line_kept line st few

labels_short : (label : Option (List ℕ)) (number : ℕ) (labels : List Labelled) → number < 10 ^ 15 → All (λ l. l.number < 10 ^ 15) labels
    → All (λ l. l.number < 10 ^ 15) (with_label label number labels)
labels_short None number labels small short = short
labels_short (Some label) number labels small short =
    all_labels_with (λ (l : Labelled). l.number < 10 ^ 15) label number labels small (λ l was. small) short

names_short : (names : List Named) (task : ℕ) (name : List ℕ) → task < 10 ^ 15 → All (λ n. n.task < 10 ^ 15) names
    → All (λ n. n.task < 10 ^ 15) (with_name names task name)
names_short [] task name small short =
    All-cons (λ (n : Named). n.task < 10 ^ 15) (record { task = task; name = name }) [] small (All-nil (λ (n : Named). n.task < 10 ^ 15))
names_short (n ∷ names) task name small short =
    by (nat_lt task n.task) (names_short names task name small (All-tail (λ (n : Named). n.task < 10 ^ 15) n names short))
  where
    by : (b : Bool) → All (λ n. n.task < 10 ^ 15) (with_name names task name)
        → All (λ n. n.task < 10 ^ 15) (if b then record { task = task; name = name } ∷ n ∷ names else n ∷ with_name names task name)
    by true more = All-cons (λ (n : Named). n.task < 10 ^ 15) (record { task = task; name = name }) (n ∷ names) small short
    by false more = All-cons (λ (n : Named). n.task < 10 ^ 15) n (with_name names task name) (All-head (λ (n : Named). n.task < 10 ^ 15) n names short) more

pub good_behind : (said : Said) (c : Course) → IsGood c → CanBeWritten c.progress.opened c.progress.names said → IsGood (course_behind c said)
good_behind (Settings s) c good can = record {
  progress = record { names = good.progress.names; labels = good.progress.labels };
  desk = omega arith;
}
good_behind (Slot length) c good can = record {
  progress = record { names = good.progress.names; labels = good.progress.labels };
  desk = good.desk;
}
good_behind (Name task name) c good can = record {
  progress = record { names = names_short c.progress.names task name (omega (arith, can.1.is.few)) good.progress.names; labels = good.progress.labels };
  desk = good.desk;
}
good_behind (Asks line label) c good can = record {
  progress = record {
    names = good.progress.names;
    labels = labels_short label (given c.desk line) c.progress.labels (number_short c.desk line good.desk can.1) good.progress.labels;
  };
  desk = desk_kept c.desk line good.desk;
}

-- where a script of version 2 is
abbrev stage_of : Bool → Stage
stage_of true = Opened Second
stage_of false = Headed

-- what was said, and what is read
record Alike (number : ℕ) (saids : List Said) (p : Plain) (rs : List Reading) : Type 0 where
  pub opening : settings_in rs ≡ settings_said saids
  pub lines : lines_in rs ≡ lines_said number saids
  pub fault : IsSameFault number p.origins p.bad (first_of (faults_in rs))

one_more : (number : ℕ) (origin : Origin) (origins : List Origin) (bad : Option BadRecord) (fault : Option FaultTold)
    → IsSameFault (number + 1) origins bad fault → IsSameFault number (origin ∷ origins) bad fault
one_more number origin origins None None h = tt
one_more number origin origins None (Some f) h = absurd h
one_more number origin origins (Some b) None h = absurd h
one_more number origin origins (Some b) (Some f) h = record {
  before = origin ∷ h.before;
  column = h.column;
  whole = ap (λ (os : List Origin). origin ∷ os) h.whole;
  count = omega (arith, h.count);
}

bad_alike : (b : Bool) (number : ℕ) (places : List ℕ) (p : Progress) (origin : Origin) (fault : RecordFault)
    → Alike number [] (ended p origin (Some fault)) (readings_from (stage_of b) number places (ended p origin (Some fault)).records)
unfolding readings_from
bad_alike true number places p origin fault =
    rw bad_behind (record { opening = refl; lines = refl; fault = record { before = []; column = origin.column; whole = refl; count = omega arith } })
bad_alike false number places p origin fault =
    rw bad_before (record { opening = refl; lines = refl; fault = record { before = []; column = origin.column; whole = refl; count = omega arith } })

at_end : (b : Bool) (number : ℕ) (places : List ℕ) (p : Progress) (origin : Origin)
    → Alike number [] (ended p origin (if b then None else Some (fault_at 0 NoSettings)))
    (readings_from (stage_of b) number places (ended p origin (if b then None else Some (fault_at 0 NoSettings))).records)
unfolding readings_from
at_end true number places p origin = record { opening = refl; lines = refl; fault = tt }
at_end false number places p origin = bad_alike false number places p origin (fault_at 0 NoSettings)

said_alike : (said : Said) (c : Course) (number : ℕ) (places : List ℕ) (origin : Origin) (saids : List Said) (p : Plain)
    → CanBeWritten c.progress.opened c.progress.names said
    → ((next : ℕ) (ahead : List ℕ) → Alike next saids p (readings_from (stage_of (course_behind c said).progress.opened) next ahead p.records))
    → Alike number (said ∷ saids) (with_said origin said p) (readings_from (stage_of c.progress.opened) number places (with_said origin said p).records)
unfolding readings_from
said_alike (Slot length) c number places origin saids p can more =
    let m = more number places in record { opening = m.opening; lines = m.lines; fault = m.fault }
said_alike (Name task name) c number places origin saids p can more =
    let m = more number places in record { opening = m.opening; lines = m.lines; fault = m.fault }
said_alike (Settings s) c number places origin saids p can more =
    let m = more (number + 1) (lines_behind places) in
    rw (can.0, settings_read s can.1, can.1.version)
    (record { opening = refl; lines = m.lines; fault = one_more number origin p.origins p.bad _ m.fault })
said_alike (Asks line label) c number places origin saids p can more =
    let m = rw can.0 at (more (number + 1) (lines_behind places)) in
    rw (can.0, line_read line can.1)
    (record {
      opening = m.opening;
      lines = ap (λ (ls : List LineTold). record { number = number; asks = line } ∷ ls) m.lines;
      fault = one_more number origin p.origins p.bad _ m.fault;
    })

alike_from : (column : ℕ → ℕ) (rows : List Row) (c : Course) (number n end : ℕ) (places : List ℕ) → IsGood c
    → Alike number (saids_from c rows) (plain_from column c n end rows) (readings_from (stage_of c.progress.opened) number places (plain_from column c n end rows).records)
alike_from column [] c number n end places good = at_end c.progress.opened number places c.progress (origin_at column n end)
alike_from column (row ∷ rows) c number n end places good =
    by (said_at c.progress row.fields) (λ said is. said_written c.progress row.fields said good.progress is)
    (λ next from ahead is. alike_from column rows next from (n + 1) end ahead is)
  where
    by : (r : Result Said RecordFault) → ((said : Said) → r ≡ Ok said → CanBeWritten c.progress.opened c.progress.names said)
        → ((next : Course) (from : ℕ) (ahead : List ℕ) → IsGood next
        → Alike from (saids_from next rows) (plain_from column next (n + 1) end rows) (readings_from (stage_of next.progress.opened) from ahead (plain_from column next (n + 1) end rows).records))
        → Alike number (saids_next (λ next. saids_from next rows) c r)
        (plain_next (λ next. plain_from column next (n + 1) end rows) c (origin_at column n row.line) r)
        (readings_from (stage_of c.progress.opened) number places (plain_next (λ next. plain_from column next (n + 1) end rows) c (origin_at column n row.line) r).records)
    by (Err fault) can more = bad_alike c.progress.opened number places c.progress (origin_at column n row.line) fault
    by (Ok said) can more =
        said_alike said c number places (origin_at column n row.line) (saids_from (course_behind c said) rows) (plain_from column (course_behind c said) (n + 1) end rows)
        (can said refl) (λ next ahead. more (course_behind c said) next ahead (good_behind said c good (can said refl)))

heading_read : record_at Beginning heading_fields ≡ Ok Heading
unfolding record_at heading_at is_word
heading_read = refl

pub good_start : IsGood start
good_start = record {
  progress = record { names = All-nil (λ (n : Named). n.task < 10 ^ 15); labels = All-nil (λ (l : Labelled). l.number < 10 ^ 15) };
  desk = tt;
}

-- after the heading, which may be the bad one
behind_alike : (column : ℕ → ℕ) (fault : Option RecordFault) (line end : ℕ) (rows : List Row) (places : List ℕ)
    → Alike 2 (saids_behind fault rows) (plain_behind column fault line end rows) (readings_from Headed 2 places (plain_behind column fault line end rows).records)
behind_alike column None line end rows places = alike_from column rows start 2 2 end places good_start
behind_alike column (Some fault) line end rows places = bad_alike false 2 places start.progress (origin_at column 1 line) fault

told_again : (column : ℕ → ℕ) (fault : Option RecordFault) (line end : ℕ) (rows : List Row) (places : List ℕ)
    → IsRetold (saids_behind fault rows) (with_heading column line (plain_behind column fault line end rows))
    (told_in (readings_from Beginning 1 places (heading_fields ∷ (plain_behind column fault line end rows).records)))
unfolding readings_from
told_again column fault line end rows places =
    let p = plain_behind column fault line end rows in
    let m = behind_alike column fault line end rows (lines_behind places) in
    rw heading_read
    (record {
      opening = m.opening;
      lines = m.lines;
      fault = one_more 1 (origin_at column 1 line) p.origins p.bad _ m.fault;
    })

retold : (column : ℕ → ℕ) (fault : Option RecordFault) (line end : ℕ) (rows : List Row)
    → IsRetold (saids_behind fault rows) (with_heading column line (plain_behind column fault line end rows)) (told (table_text (with_heading column line (plain_behind column fault line end rows)).records))
retold column fault line end rows =
    let p = plain_behind column fault line end rows in
    let text = table_text (heading_fields ∷ p.records) in
    subst
    (λ (records : List (List (List ℕ))). IsRetold (saids_behind fault rows) (with_heading column line p) (told_in (readings_from Beginning 1 (record_lines text) records)))
    (sym (read_again column fault line end rows)) (told_again column fault line end rows (record_lines text))

of_rows : (column : ℕ → ℕ) (rs : List Row) (end : ℕ) (p : Plain) → plain_of column end rs ≡ Some p → IsRetold (saids_of rs) p (told (table_text p.records))
of_rows column [] end p e = let bad : None ≡ Some p = e in cc
of_rows column (row ∷ rows) end p e =
    let fault = heading_fault row.fields in
    by (is_plan_heading row.fields) (plain_behind column fault row.line end rows) (retold column fault row.line end rows) e
  where
    by : (b : Bool) (made : Plain)
        → IsRetold (saids_of (row ∷ rows)) (with_heading column row.line made) (told (table_text (with_heading column row.line made).records))
        → (if b then Some (with_heading column row.line made) else None) ≡ Some p → IsRetold (saids_of (row ∷ rows)) p (told (table_text p.records))
    by true made is e =
        let same : with_heading column row.line made ≡ p = cc in
        subst (λ (q : Plain). IsRetold (saids_of (row ∷ rows)) q (told (table_text q.records))) same is
    by false made is e = let bad : None ≡ Some p = e in cc

pub scripts_are_retold : ScriptsAreRetold
scripts_are_retold bytes p e = of_rows (first_column bytes) (rows bytes).rows (rows bytes).end p e
