-- Entries that are lent.
use Rattle.std.specs.Prelude.{Option}
use Rattle.std.specs.Option.{option_map}
use Rattle.pf_place.specs.Lent.{lent_row}
use Rattle.pf_desk.specs.declared.reply.Reply.{Reply}
use Rattle.pf_desk.specs.declared.reply.Reply.TheVariants.{Edited, Stepped, Refused}
use Rattle.pf_desk.specs.declared.reply_view.ReplyView.{ReplyView}
use Rattle.pf_desk.specs.declared.reply_view.ReplyView.TheVariants.{Edited as EditedView, Stepped as SteppedView, Refused as RefusedView}
use Rattle.pf_desk.specs.declared.entry.Entry.{Entry}
use Rattle.pf_desk.specs.declared.entry_view.EntryView.{EntryView}

-- the reply that the view shows
abbrev pub lent_reply : ReplyView → Reply
lent_reply (EditedView id) = Edited id
lent_reply (SteppedView slot row) = Stepped slot (lent_row row)
lent_reply (RefusedView fault) = Refused fault

-- the entry that the view shows
abbrev pub lent_entry : EntryView → Entry
lent_entry view = record { caller = view.caller; command = view.command; reply = lent_reply view.reply }

-- the entry that is lent, where one is
abbrev pub entry_lent : Option EntryView → Option Entry
entry_lent view = option_map lent_entry view
