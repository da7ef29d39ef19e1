-- What belongs to records that say something.
use Rattle.std.proofs.Common.{◌≡◌, ◌+◌, ◌==◌, ℕ, Bool, true, false, List, [], ◌∷◌, ◌++◌, None, Some, map, ap, refl}
use Rattle.std.specs.Prelude.{⊤, if◌then◌else◌}
use Rattle.std.specs.List.{flat_map}
use Rattle.pf_text.specs.Rows.Rows.{Row}
use Rattle.pf_scenario.specs.declared.event.Numbered.{Numbered}
use Rattle.pf_script.specs.declared.line.Line.TheVariants.{Steps}
use Rattle.pf_script.specs.declared.plan.said.Said.{Said}
use Rattle.pf_script.specs.declared.plan.said.Said.TheVariants.{Settings, Slot, Name, Asks}
use Rattle.pf_script.specs.declared.plan.state.Progress.{Progress}
use Rattle.pf_plain_script.specs.Plain.{Course, Plain, course_behind, plain_from, titles_of}
use Rattle.pf_plain_script.specs.Written.{said_records}
use Rattle.pf_script_laws.specs.Conversions.Read.{AllSay}
use Rattle.pf_script_laws.proofs.TitlesLemmas.Names.{behind}
use Rattle.pf_script_laws.proofs.TitlesLemmas.Says.{insert_said, step_saids}

-- no event has a label
abbrev pub HaveNoLabel : List Said → Type 0
HaveNoLabel [] = ⊤
HaveNoLabel (Settings s ∷ saids) = HaveNoLabel saids
HaveNoLabel (Slot length ∷ saids) = HaveNoLabel saids
HaveNoLabel (Name task name ∷ saids) = HaveNoLabel saids
HaveNoLabel (Asks line None ∷ saids) = HaveNoLabel saids
HaveNoLabel (Asks line (Some label) ∷ saids) = ⊥

-- the records of what was said, none of them bad, and the titles
pub record IsSaid (p : Progress) (saids : List Said) (made : Plain) : Type 0 where
  pub records : made.records ≡ flat_map said_records saids
  pub good : made.bad ≡ None
  pub told : made.titles ≡ titles_of (behind p saids)

-- Use: records that say something are all written.
pub said_plain : (column : ℕ → ℕ) (rows : List Row) (c : Course) (n end : ℕ) (saids : List Said) → AllSay c.progress (map (λ row. row.fields) rows) saids → HaveNoLabel saids
    → IsSaid c.progress saids (plain_from column c n end rows)
unfolding AllSay
said_plain column [] c n end [] say none = rw say (record { records = refl; good = refl; told = refl })
said_plain column [] c n end (said ∷ saids) say none = absurd say
said_plain column (row ∷ rows) c n end [] say none = absurd say
said_plain column (row ∷ rows) c n end (Settings s ∷ saids) say none =
    let more = said_plain column rows (course_behind c (Settings s)) (n + 1) end saids say.1 none in
    rw say.0 (record { records = ap (λ (rs : List (List (List ℕ))). said_records (Settings s) ++ rs) more.records; good = more.good; told = more.told })
said_plain column (row ∷ rows) c n end (Slot length ∷ saids) say none =
    let more = said_plain column rows (course_behind c (Slot length)) (n + 1) end saids say.1 none in
    rw say.0 (record { records = more.records; good = more.good; told = more.told })
said_plain column (row ∷ rows) c n end (Name task name ∷ saids) say none =
    let more = said_plain column rows (course_behind c (Name task name)) (n + 1) end saids say.1 none in
    rw say.0 (record { records = more.records; good = more.good; told = more.told })
said_plain column (row ∷ rows) c n end (Asks line None ∷ saids) say none =
    let more = said_plain column rows (course_behind c (Asks line None)) (n + 1) end saids say.1 none in
    rw say.0 (record { records = ap (λ (rs : List (List (List ℕ))). said_records (Asks line None) ++ rs) more.records; good = more.good; told = more.told })
said_plain column (row ∷ rows) c n end (Asks line (Some label) ∷ saids) say none = absurd none

-- Use: events and steps change no title.
pub events_behind : (xs : List Numbered) (n : ℕ) (p : Progress) → titles_of (behind p (map (λ x. insert_said x.event) xs ++ step_saids n)) ≡ titles_of p
events_behind [] n p = by (n == 0)
  where
    by : (b : Bool) → titles_of (behind p (if b then [] else Asks (Steps n) None ∷ [])) ≡ titles_of p
    by true = refl
    by false = refl
events_behind (x ∷ xs) n p = events_behind xs n (record p { begun = true })

pub events_plain : (xs : List Numbered) (n : ℕ) → HaveNoLabel (map (λ x. insert_said x.event) xs ++ step_saids n)
events_plain [] n = by (n == 0)
  where
    by : (b : Bool) → HaveNoLabel (if b then [] else Asks (Steps n) None ∷ [])
    by true = tt
    by false = tt
events_plain (x ∷ xs) n = events_plain xs n
