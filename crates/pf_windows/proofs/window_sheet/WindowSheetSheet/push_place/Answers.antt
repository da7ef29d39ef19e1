use Rattle.std.proofs.Common.{◌≡◌, ◌∙◌, ◌+◌, ◌++◌, ap, subst, sym}
use Rattle.std.specs.Prelude.{OnOk}
use Rattle.pf_vocabulary.specs.NameColumn.Column.{name_fields}
use Rattle.pf_run.specs.Inside.{Joined}
use Rattle.pf_text.specs.Page.{with_record}
use Rattle.pf_windows.specs.Told.{NamedTold, is_shown, told_window}
use Rattle.pf_windows.specs.Windows.{window_record}
use Rattle.pf_windows.proofs.Told.{none_added, shown_added}
use Rattle.pf_windows.proofs.window_sheet.WindowSheetSheet.push_place.Goals as goal

pub returns-then-shows : goal.returns-then-shows
returns-then-shows c =
    let x = c.args.self.now in
    let w = c.window-window.result in
    let P : NamedTold → Type 0 = λ y. OnOk c.push_window.result
    (c.push_window.new.table ≡ with_record c.args.table.now (window_record y.told.task w ++ name_fields y.titles y.told.task.task)) in
    let Q : Joined → Type 0 = λ t. OnOk c.push_window.result
    (c.push_window.new.table ≡ with_record c.args.table.now (window_record t w ++ name_fields c.self.inside.titles.now t.task)) in
    shown_added x.told c.args.at c.requires.within x.titles c.push_window.result w c.args.table.now c.push_window.new.table
    (c.window-window.ensures.value ∙ ap (λ (y : NamedTold). told_window y.told (c.args.at + 1)) c.self.view_is)
    (sym (c.shows.ensures ∙ ap (λ (y : NamedTold). is_shown y.told w) c.self.view_is) ∙ c.if-shows.true)
    (subst P c.self.view_is (subst Q c.task.ensures c.push_window.ensures))

pub returns-else-shows : goal.returns-else-shows
returns-else-shows c =
    let x = c.args.self.now in
    let w = c.window-window.result in
    none_added x.told c.args.at c.requires.within x.titles w c.args.table.now
    (c.window-window.ensures.value ∙ ap (λ (y : NamedTold). told_window y.told (c.args.at + 1)) c.self.view_is)
    (sym (c.shows.ensures ∙ ap (λ (y : NamedTold). is_shown y.told w) c.self.view_is) ∙ c.if-shows.false)
