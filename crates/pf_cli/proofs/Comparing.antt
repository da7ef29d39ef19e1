-- Two scripts that are compared.
use Rattle.std.proofs.Common.{◌≡◌, ℕ, List, Option, Result, Ok, Err, refl, sym, subst}
use Rattle.std.proofs.KnownBytes.{Keeps-refl}
use Rattle.std.specs.Prelude.{Vec}
use Rattle.std.specs.declared.alloc.Global.{Global}
use Rattle.pf_desk.specs.Desk.{Seen}
use Rattle.pf_vocabulary.specs.declared.fault.ending.Ending.{Ending}
use Rattle.pf_vocabulary.specs.declared.fault.fault.Fault.{Fault}
use Rattle.pf_vocabulary.specs.declared.fault.fault.Fault.TheVariants as why
use Rattle.pf_vocabulary.specs.Fault.Faults.{CountsWrites, IsUnwritten}
use Rattle.pf_arguments.specs.Diffs.{PairNames}
use Rattle.pf_arguments.specs.declared.telling.Telling.{Telling}
use Rattle.pf_cli.specs.Compared.{Shows}
use Rattle.pf_cli.specs.Status.{ComparesBehind, ComparesScripts, Streams, seen_streams}
use Rattle.pf_cli.specs.declared.noted.Noted.{Noted}

-- Use: a fault that comes before anything is written is no failure of the writer.
pub unwritten_counts : (fault : Fault) (count : ℕ) (answer : Result Ending Fault) → IsUnwritten fault → answer ≡ Err fault → CountsWrites answer count count
unwritten_counts fault count answer h is = subst (λ (a : Result Ending Fault). CountsWrites a count count) (sym is) (by fault h)
  where
    by : (f : Fault) → IsUnwritten f → CountsWrites {A = Ending} (Err f) count count
    by (why.BadRecord number) h = refl
    by why.TooLong h = refl
    by (why.BadRange range) h = refl
    by why.Read h = refl
    by why.Write h = absurd h
    by why.NoMemory h = refl
    by why.NoViewer h = refl
    by why.Unread h = refl
    by why.GateShut h = refl

-- Use: the first script had a fault, ..
pub first_stops : (names : PairNames) (telling : Telling) (fault : Fault) (notes : Result (Vec ℕ Global) Fault) (input more : Option (List ℕ)) (reads after : ℕ)
    (output : Option (List ℕ)) (writes : ℕ) → Shows names.first telling (Err fault) notes input reads more after → IsUnwritten fault
    → ComparesScripts names telling (record { outcome = Err fault; notes = notes }) (seen_streams input reads output writes) (seen_streams more after output writes)
first_stops names telling fault notes input more reads after output writes shows h = record {
  between = seen_streams more after output writes;
  first = Err fault;
  first_notes = notes;
  shows = shows;
  unwritten = (refl, refl);
  answers = (refl, refl, refl, refl, Keeps-refl output);
  writes = unwritten_counts fault writes (Err fault) h refl;
}

-- .. or none
pub first_ends : (names : PairNames) (telling : Telling) (before : Seen) (notes : Result (Vec ℕ Global) Fault) (noted : Noted) (input between : Option (List ℕ))
    (reads after : ℕ) (output : Option (List ℕ)) (writes : ℕ) (new : Streams) → Shows names.first telling (Ok before) notes input reads between after
    → ComparesBehind names telling (Ok before) notes noted (seen_streams between after output writes) new → CountsWrites noted.outcome writes new.failed_writes
    → ComparesScripts names telling noted (seen_streams input reads output writes) new
first_ends names telling before notes noted input between reads after output writes new shows answers counts = record {
  between = seen_streams between after output writes;
  first = Ok before;
  first_notes = notes;
  shows = shows;
  unwritten = (refl, refl);
  answers = answers;
  writes = counts;
}
