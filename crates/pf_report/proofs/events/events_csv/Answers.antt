use Rattle.std.proofs.Common.{refl}
use Rattle.pf_report.specs.Events.{events_text}
use Rattle.pf_report.proofs.events.events_csv.Goals as goal

pub loop-numbered-init : goal.loop-numbered-init
unfolding events_text
loop-numbered-init c =
    let table = c.in_ok-push_texts.ensures in
    record { whole = rw (table, c.new-table.ensures, c.into_iter-numbered-iterator.ensures.into_iter_gives, c.events-numbered-items.ensures) refl; at_record = rw table refl }
