use Rattle.std.proofs.Common.{rules, ◌≡◌, ◌∙◌, ap, sym, arith}
use Rattle.std.specs.Prelude.{Some}
use Rattle.pf_script.specs.Check.Lines.{after_message, no_lines}
use Rattle.pf_script.specs.Check.Files.{file_kind, has_record, kind_by, kind_message, record_count}
use Rattle.pf_script.proofs.CheckLemmas.Kinds.{kind_found}
use Rattle.pf_script.proofs.check.script_faults.find_faults.Goals as goal

pub returns : goal.returns
returns c =
    let file = c.args.file.now in
    let script = c.args.script.now in
    let found = c.in_ok-found.ensures in
    let kind : file_kind file c.args.hints script ≡ Some c.in-Some.kind =
    ap (λ first. kind_by script (has_record script) first) (sym c.in_ok-first.ensures) ∙ sym c.in_ok-kind.ensures ∙ c.in-Some.is in
    let lines : c.add.new.self ≡ after_message no_lines (kind_message file c.args.hints c.in-Some.kind) = search rules in
    rw kind
    (kind_found file c.args.hints c.in-Some.kind (record_count script) (record { lines = c.add.new.self; records = c.in_ok-found.found.records })
    lines found.counted (omega (arith, found.counted, found.few.1)))
