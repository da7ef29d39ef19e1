-- One record more of what a reader has left.
use Rattle.std.proofs.Common.{◌≡◌, ◌+◌, ℕ, Bool, false, List, [], ◌∷◌, Option, Result, refl}
use Rattle.std.specs.Prelude.{if◌then◌else◌}
use Rattle.pf_script.specs.declared.fault.RecordFault.{RecordFault}
use Rattle.pf_script.specs.declared.record.Record.{Record}
use Rattle.pf_script.specs.declared.stage.Stage.{Stage}
use Rattle.pf_script.specs.Parsing.{record_at}
use Rattle.pf_script.specs.Places.{line_at, lines_behind}
use Rattle.pf_script.specs.Told.{end_fault, end_reading, reading, readings_from, stage_after}

pub one_read : (ended : Bool) (stage next : Stage) (number line : ℕ) (lines behind : List ℕ) (records rest : List (List (List ℕ)))
    (fields : List (List ℕ)) (said : Result Record RecordFault)
    → ended ≡ false → records ≡ fields ∷ rest → line ≡ line_at lines → behind ≡ lines_behind lines
    → said ≡ record_at stage fields → next ≡ stage_after stage said
    → (if ended then [] else readings_from stage number lines records)
    ≡ reading number line fields said ∷ (if ended then [] else readings_from next (number + 1) behind rest)
unfolding readings_from
one_read ended stage next number line lines behind records rest fields said going first is others told on =
    rw (going, first, is, others, on, told) refl

pub end_read : (ended : Bool) (stage : Stage) (number line : ℕ) (lines : List ℕ) (records : List (List (List ℕ))) (fault : Option RecordFault)
    → ended ≡ false → records ≡ [] → line ≡ line_at lines → fault ≡ end_fault stage
    → (if ended then [] else readings_from stage number lines records) ≡ end_reading number line fault
unfolding readings_from
end_read ended stage number line lines records fault going none is bad = rw (going, none, is, bad) refl
