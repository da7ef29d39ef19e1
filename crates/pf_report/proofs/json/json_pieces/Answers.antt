use Rattle.std.proofs.Common.{◌≡◌, ◌∙◌, ◌++◌, codes, map, rules}
use Rattle.std.specs.Fmt.{decimal}
use Rattle.serde_json.specs.Data.{array}
use Rattle.serde_json.specs.View.{items_of}
use Rattle.serde_json.specs.Written.{compact_text}
use Rattle.pf_report.specs.Json.{array_data, denial_data, lag_data, miss_data, sitter_data, slot_part, report_data, report_object}
use Rattle.pf_report.proofs.JsonParts.{keyed_parts}
use Rattle.pf_report.proofs.json.json_pieces.Goals as goal

pub returns : goal.returns
unfolding report_data
returns c =
    let key-denials : c.in_ok-denials_key.denials_key.items ≡ codes "{\"denials\":" = search rules in
    let key-lags : c.into_bytes-lags_key.result.items ≡ codes ",\"entries\":" ++ (decimal c.version-entries.result ++ codes ",\"lags\":") = search rules in
    let key-misses : c.in_ok-misses_key.misses_key.items ≡ codes ",\"misses\":" = search rules in
    let end : c.new.result ≡ slot_part c.args.titles.now ++ codes "}" = c.new.ensures ∙ c.in_ok-end.ensures in
    keyed_parts c.args.titles.now _ c.version-entries.result _ _ c.now-now.result _ _ _ _ _ _ _ _ _ _
    key-denials c.keyed.ensures key-lags c.keyed-lags.ensures key-misses c.keyed-misses.ensures c.in_ok-schedule_key.ensures c.keyed-schedule.ensures end
    ∙ (λ i. compact_text (report_object c.args.titles.now
    (array (items_of (map denial_data (c.of-4.ensures i)))) (c.version-entries.ensures i)
    (array (items_of (map lag_data ((c.of-3.ensures ∙ c.in_ok-lags.ensures.lags) i))))
    (array (items_of (map miss_data ((c.of-2.ensures ∙ c.in_ok-lags.ensures.misses) i)))) (c.now-now.ensures.value i)
    (array (items_of (map (array_data sitter_data) (c.of.ensures i).rows)))))
