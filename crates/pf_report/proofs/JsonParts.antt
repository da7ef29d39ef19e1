-- The text of a report's object, by its keys and its arrays.
use Rattle.std.proofs.Common.{◌≡◌, ◌∙◌, ℕ, Bool, true, false, Option, List, ◌++◌, codes, refl, sym, ap, append_assoc}
use Rattle.std.specs.Fmt.{decimal}
use Rattle.serde_json.specs.Data.{Items, array}
use Rattle.serde_json.specs.Written.{compact_text}
use Rattle.serde_json.proofs.OnLiterals.{serde_json_on_literals}
use Rattle.pf_lemmas.proofs.Digits.{numbered}
use Rattle.pf_vocabulary.specs.declared.names.named.Named.{Named}
use Rattle.pf_vocabulary.specs.declared.names.slot_length.SlotLength.{SlotLength}
use Rattle.pf_vocabulary.specs.declared.names.titles.Titles.{Titles}
use Rattle.pf_report.specs.Json.{names_part, report_object, slot_part}

abbrev IsParted : Titles → Items → ℕ → Items → Items → ℕ → Items → Type 0
IsParted titles denials entries lags misses now schedule =
    compact_text (report_object titles (array denials) entries (array lags) (array misses) now (array schedule))
    ≡ codes "{\"denials\":" ++ (compact_text (array denials)
    ++ (codes ",\"entries\":" ++ (decimal entries ++ (codes ",\"lags\":" ++ (compact_text (array lags)
    ++ (codes ",\"misses\":" ++ (compact_text (array misses) ++ (names_part titles
    ++ (codes ",\"now\":" ++ (decimal now ++ (codes ",\"schedule\":" ++ (compact_text (array schedule)
    ++ (slot_part titles ++ codes "}")))))))))))))

object_parts : (titles : Titles) (denials : Items) (entries : ℕ) (lags misses : Items) (now : ℕ) (schedule : Items)
    → IsParted titles denials entries lags misses now schedule
unfolding serde_json_on_literals
object_parts titles denials entries lags misses now schedule = by titles.is_plan titles.names titles.slot
  where
    by : (is_plan : Bool) (names : List Named) (slot : Option SlotLength)
        → IsParted (record { is_plan = is_plan; names = names; slot = slot }) denials entries lags misses now schedule
    by true names slot = refl
    by false names slot = refl

-- of an object's four arrays, each after its key, the text is that of the object
pub keyed_parts : (titles : Titles) (denials : Items) (entries : ℕ) (lags misses : Items) (now : ℕ) (schedule : Items)
    (key-denials key-lags key-misses key-schedule from-denials from-lags from-misses from-schedule end : List ℕ)
    → key-denials ≡ codes "{\"denials\":" → from-denials ≡ key-denials ++ (compact_text (array denials) ++ from-lags)
    → key-lags ≡ codes ",\"entries\":" ++ (decimal entries ++ codes ",\"lags\":") → from-lags ≡ key-lags ++ (compact_text (array lags) ++ from-misses)
    → key-misses ≡ codes ",\"misses\":" → from-misses ≡ key-misses ++ (compact_text (array misses) ++ from-schedule)
    → key-schedule ≡ names_part titles ++ (codes ",\"now\":" ++ (decimal now ++ codes ",\"schedule\":"))
    → from-schedule ≡ key-schedule ++ (compact_text (array schedule) ++ end)
    → end ≡ slot_part titles ++ codes "}"
    → from-denials ≡ compact_text (report_object titles (array denials) entries (array lags) (array misses) now (array schedule))
keyed_parts titles denials entries lags misses now schedule kd kl km ks fd fl fm fs end kd-is fd-is kl-is fl-is km-is fm-is ks-is fs-is end-is =
    let at-lags = fl-is ∙ ap (λ k. k ++ (compact_text (array lags) ++ fm)) kl-is
    ∙ numbered (codes ",\"entries\":") entries (codes ",\"lags\":") (compact_text (array lags) ++ fm) in
    let at-schedule = fs-is ∙ ap (λ k. k ++ (compact_text (array schedule) ++ end)) ks-is
    ∙ append_assoc (names_part titles) (codes ",\"now\":" ++ (decimal now ++ codes ",\"schedule\":")) (compact_text (array schedule) ++ end)
    ∙ ap (λ t. names_part titles ++ t) (numbered (codes ",\"now\":") now (codes ",\"schedule\":") (compact_text (array schedule) ++ end)) in
    rw (fd-is, kd-is, at-lags, fm-is, km-is, at-schedule, end-is) (sym (object_parts titles denials entries lags misses now schedule))
