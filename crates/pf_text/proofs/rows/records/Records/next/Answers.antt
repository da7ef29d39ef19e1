use Rattle.pf_text.proofs.RowsLemmas.Reading.{records_left-next, records-next}
use Rattle.pf_text.proofs.rows.records.Records.next.Goals as goal

pub returns-clause-record : goal.returns-clause-record
returns-clause-record c =
    let e = c.in-Ok.ensures in
    let next = records_left-next c.self.inside.reader c.read_byte_record.new.self c.in-Ok.found _ (c.self.invariant c.if-self.false) e.trims e.goes (λ bad. let f = e.failed bad in cc) in
    rw (← c.self.view_is) (records-next c.self.inside.ended c.in-Ok.found c.self.inside.reader c.read_byte_record.new.self _ c.if-self.false next)
