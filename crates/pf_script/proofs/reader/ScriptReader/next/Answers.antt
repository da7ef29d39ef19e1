use Rattle.std.proofs.Common.{◌+◌, refl}
use Rattle.pf_script.specs.Left.{lines_left}
use Rattle.pf_script.specs.Places.{line_at}
use Rattle.pf_script.proofs.Reading.{end_read, one_read}
use Rattle.pf_script.proofs.reader.ScriptReader.next.Goals as goal

pub returns-in_default-end_fault : goal.returns-in_default-end_fault
returns-in_default-end_fault c =
    let r = c.self.inside in
    let none = rw c.if-not-found.true at c.in-Ok.ensures.record in
    let end = end_read r.ended r.state (r.number + 1) (line_at (lines_left r.places)) (lines_left r.places) r.records c.end_fault.result
    c.if-self.false none refl c.end_fault.ensures in
    rw (← c.self.view_is, end, c.in_default-end_fault.is) (refl, refl)

pub returns-then-not-found : goal.returns-then-not-found
returns-then-not-found c =
    let r = c.self.inside in
    let none = rw c.if-not-found.true at c.in-Ok.ensures.record in
    let end = end_read r.ended r.state (r.number + 1) c.next_line.result (lines_left r.places) r.records c.end_fault.result
    c.if-self.false none c.next_line.ensures.line c.end_fault.ensures in
    rw (c.clear.ensures.fields, ← c.self.view_is, end, c.in-Some.is) refl

pub returns-in-Ok-take : goal.returns-in-Ok-take
returns-in-Ok-take c =
    let r = c.self.inside in
    let first = rw c.if-not-found.false at c.in-Ok.ensures.record in
    rw (
      ← c.self.view_is,
      one_read r.ended r.state c.take.new.self (r.number + 1) (line_at (lines_left r.places)) (lines_left r.places) (lines_left c.pass.new.self) r.records c.next.new.self _ c.take.result
          c.if-self.false first refl c.pass.ensures.rest (rw c.new.ensures at c.take.ensures.said) c.take.ensures.state,
      c.in-Ok-take.is,
    )
    refl

pub returns-in-Err : goal.returns-in-Err
returns-in-Err c =
    let r = c.self.inside in
    let first = rw c.if-not-found.false at c.in-Ok.ensures.record in
    rw (
      ← c.self.view_is,
      one_read r.ended r.state c.take.new.self (r.number + 1) c.next_line-in-Err.result (lines_left r.places) (lines_left c.next_line-in-Err.new.self) r.records c.next.new.self _ c.take.result
          c.if-self.false first c.next_line-in-Err.ensures.line c.next_line-in-Err.ensures.rest (rw c.new.ensures at c.take.ensures.said) c.take.ensures.state,
      c.in-Err.is,
    )
    refl
