use Rattle.std.proofs.Common.{◌≡◌, ◌∙◌, ap, ap₂, sym, arith, length}
use Rattle.pf_script.proofs.Counting.{few_records, records_counted}
use Rattle.pf_script.specs.Script.{script_records}
use Rattle.pf_script.specs.Told.{faults, records_in}
use Rattle.pf_script.specs.Messages.Lines.{plain_messages}
use Rattle.pf_script.specs.Check.Lines.{Lines, no_lines}
use Rattle.pf_script.proofs.CheckLemmas.Finding.{found_all}
use Rattle.pf_script.proofs.CheckLemmas.Plainly.{lines_with, split_readings}
use Rattle.pf_script.proofs.check.faults.plain_faults.Goals as goal

pub records-init : goal.records-init
records-init c =
    let fresh = c.new-found.ensures in
    let all = c.new-reader.ensures in
    record {
      lines = ap₂ (lines_with c.args.telling) fresh.lines all;
      count = omega (arith, fresh.records, ap records_in all, records_counted c.args.script.now);
      lacking = omega (arith, ap (λ (l : Lines). l.lacking) fresh.lines);
      others = omega (arith, ap (λ (l : Lines). l.others) fresh.lines);
    }

pub overflow_add-found : goal.overflow_add-found
overflow_add-found c = omega (arith, c.records.invariant.count, few_records c.args.script.now, c.requires)

pub take-requires-clause-lacking : goal.take-requires-clause-lacking
take-requires-clause-lacking c =
    omega (arith, c.records.invariant.lacking, c.records.invariant.count, few_records c.args.script.now, c.requires)

pub take-requires-clause-others : goal.take-requires-clause-others
take-requires-clause-others c =
    omega (arith, c.records.invariant.others, c.records.invariant.count, few_records c.args.script.now, c.requires)

pub take-requires-clause-records : goal.take-requires-clause-records
take-requires-clause-records c = omega (arith, c.records.invariant.count, few_records c.args.script.now, c.requires)

pub end-requires-clause-lacking : goal.end-requires-clause-lacking
end-requires-clause-lacking c =
    omega (arith, c.records.invariant.lacking, c.records.invariant.count, few_records c.args.script.now, c.requires)

pub end-requires-clause-others : goal.end-requires-clause-others
end-requires-clause-others c =
    omega (arith, c.records.invariant.others, c.records.invariant.count, few_records c.args.script.now, c.requires)

pub returns-in-Ok-None : goal.returns-in-Ok-None
returns-in-Ok-None c =
    let inv = c.records.invariant in
    let none = (rw c.in-Ok-None.field-0-is at c.in-Ok-None.ensures).0 in
    let telling = c.args.telling in
    let script = c.args.script.now in
    let split = split_readings script in
    let count : c.records.found.records ≡ length (script_records script) = omega (arith, ap records_in none, inv.count) in
    found_all (length (script_records script)) (plain_messages telling (faults script)) c.records.found (split.are telling)
    (sym (ap (lines_with c.records.telling c.records.found.lines) none) ∙ inv.lines ∙ split.lines telling no_lines) count (omega (arith, inv.others))
    (omega (arith, count, few_records script, c.requires))
