-- What a `Watch` shows.
use Rattle.std.specs.Prelude.{◌≡◌, false}
use Rattle.pf_journal_file.specs.declared.watch.Watch.{Watch}

-- the file that it passes calls on to
abbrev pub inner_of : {D : Type 0} → Watch D → D
inner_of w = w.inner

-- it has failed no call
abbrev pub IsFresh : {D : Type 0} → Watch D → Type 0
IsFresh w = (w.losses ≡ 0) × (w.is_lost ≡ false)
