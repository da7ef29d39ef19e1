-- The names of a desk's script, one after the other.
use Rattle.std.proofs.Common.{◌≡◌, ◌∙◌, ◌<◌, ℕ, true, false, None, List, [], ◌∷◌, ◌++◌, All, map, append-nil, append_assoc, ap, sym, subst, refl}
use Rattle.std.proofs.lemmas.List.Elements.{All-append, All-cons, All-head, All-nil, All-tail}
use Rattle.std.specs.Str.{bytes_eq}
use Rattle.pf_vocabulary.specs.Names.Names.{task_of}
use Rattle.pf_vocabulary.specs.declared.names.named.Named.{Named}
use Rattle.pf_report.specs.Script.{name_record}
use Rattle.pf_script.specs.Plan.Progress.{progress_after}
use Rattle.pf_script.specs.declared.plan.said.Said.{Said}
use Rattle.pf_script.specs.declared.plan.said.Said.TheVariants.{Name}
use Rattle.pf_script.specs.declared.plan.state.Progress.{Progress}
use Rattle.pf_script_laws.specs.Conversions.Read.{AllSay}
use Rattle.pf_script_laws.proofs.ConversionsLemmas.Named.{named_last, none_below, still_free}
use Rattle.pf_version_laws.specs.Titles.{AreGivable}
use Rattle.pf_script_laws.proofs.TitlesLemmas.Says.{name_says}

-- a name of a task after these, which none of them is
pub record IsAhead (given : List Named) (n : Named) : Type 0 where
  pub below : All (λ g. g.task < n.task) given
  pub free : task_of given n.name ≡ None

abbrev pub AreAhead : List Named → List Named → Type 0
AreAhead given names = All (IsAhead given) names

pub none_ahead : (names : List Named) → AreAhead [] names
none_ahead [] = All-nil (IsAhead [])
none_ahead (n ∷ names) =
    All-cons (IsAhead []) n names (record { below = All-nil (λ (g : Named). g.task < n.task); free = refl }) (none_ahead names)

ahead_next : (given : List Named) (n : Named) (names : List Named) → All (λ other. n.task < other.task) names → All (λ other. bytes_eq n.name other.name ≡ false) names
    → AreAhead given names → AreAhead (given ++ n ∷ []) names
ahead_next given n [] later apart ahead = All-nil (IsAhead (given ++ n ∷ []))
ahead_next given n (m ∷ names) later apart ahead =
    let was : IsAhead given m = All-head (IsAhead given) m names ahead in
    let behind_n : n.task < m.task = All-head (λ (other : Named). n.task < other.task) m names later in
    let differs : bytes_eq n.name m.name ≡ false = All-head (λ (other : Named). bytes_eq n.name other.name ≡ false) m names apart in
    All-cons (IsAhead (given ++ n ∷ [])) m names
    (record {
      below = All-append (λ (g : Named). g.task < m.task) given (n ∷ []) was.below
          (All-cons (λ (g : Named). g.task < m.task) n [] behind_n (All-nil (λ (g : Named). g.task < m.task)));
      free = still_free given n m.name was.free differs;
    })
    (ahead_next given n names (All-tail (λ (other : Named). n.task < other.task) m names later)
    (All-tail (λ (other : Named). bytes_eq n.name other.name ≡ false) m names apart) (All-tail (IsAhead given) m names ahead))

abbrev pub name_said : Named → Said
name_said n = Name n.task n.name

-- a name more
named : (p : Progress) (n : Named) → IsAhead p.names n → progress_after p (name_said n) 0 ≡ record p { names = p.names ++ n ∷ [] }
named p n ahead = ap (λ (names : List Named). record p { names = names }) (named_last p.names n.task n.name ahead.below)

-- Use: the names, and what follows them.
pub names_all : (names : List Named) (p : Progress) (records : List (List (List ℕ))) (saids : List Said) → p.opened ≡ true → AreGivable names → AreAhead p.names names
    → AllSay (record p { names = p.names ++ names }) records saids
    → AllSay p (map name_record names ++ records) (map name_said names ++ saids)
unfolding AllSay AreGivable
names_all [] p records saids opened are ahead more =
    subst (λ (given : List Named). AllSay (record p { names = given }) records saids) (append-nil p.names) more
names_all (n ∷ names) p records saids opened are ahead more =
    let first : IsAhead p.names n = All-head (IsAhead p.names) n names ahead in
    let next : Progress = record p { names = p.names ++ n ∷ [] } in
    let rest = names_all names next records saids opened are.3 (ahead_next p.names n names are.1 are.2 (All-tail (IsAhead p.names) n names ahead))
    (subst (λ (given : List Named). AllSay (record p { names = given }) records saids) (sym (append_assoc p.names (n ∷ []) names)) more) in (
      name_says p n opened are.0 (none_below p.names n.task first.below) first.free,
      subst (λ (q : Progress). AllSay q (map name_record names ++ records) (map name_said names ++ saids)) (sym (named p n first)) rest,
    )

-- what came before, after what was said
abbrev pub behind : Progress → List Said → Progress
behind p [] = p
behind p (said ∷ saids) = behind (progress_after p said 0) saids

-- Use: the names are given.
pub names_behind : (names : List Named) (p : Progress) (saids : List Said) → AreGivable names → AreAhead p.names names
    → behind p (map name_said names ++ saids) ≡ behind (record p { names = p.names ++ names }) saids
unfolding AreGivable
names_behind [] p saids are ahead = ap (λ (given : List Named). behind (record p { names = given }) saids) (sym (append-nil p.names))
names_behind (n ∷ names) p saids are ahead =
    let first : IsAhead p.names n = All-head (IsAhead p.names) n names ahead in
    let next : Progress = record p { names = p.names ++ n ∷ [] } in
    ap (λ (q : Progress). behind q (map name_said names ++ saids)) (named p n first)
    ∙ names_behind names next saids are.3 (ahead_next p.names n names are.1 are.2 (All-tail (IsAhead p.names) n names ahead))
    ∙ ap (λ (given : List Named). behind (record p { names = given }) saids) (append_assoc p.names (n ∷ []) names)
