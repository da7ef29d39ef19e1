-- What differs between two schedules, on its way to text.
use Rattle.std.specs.Prelude.{ℕ, ◌≡◌, ◌+◌, Option, List, [], ◌++◌, drop}
use Rattle.pf_order.specs.declared.pick.Pick.{Pick}
use Rattle.pf_text.specs.Page.{Page}
use Rattle.pf_text.specs.Page.{table_text}
use Rattle.pf_diff.specs.Diff.{slot_changes}

-- the page with these records more
abbrev pub with_records : Page → List (List (List ℕ)) → Page
with_records page records = record { text = page.text ++ table_text records; fields = [] }

-- what differs in slot t was added to a page: with what differs in the slots after it, the text is as it was with slot t
pub record AddsSlot (t : ℕ) (before after : List (List (Option Pick))) (old new : Page) : Type 0 where
  pub text : new.text ++ table_text (slot_changes (t + 1) (drop (t + 1) before) (drop (t + 1) after))
      ≡ old.text ++ table_text (slot_changes t (drop t before) (drop t after))
  pub fields : new.fields ≡ []
