-- What is told of a journal that was opened.
use Rattle.std.specs.Prelude.{ℕ, ◌-◌, ◌==◌, if◌then◌else◌, Bool, true, false, List, [], ◌++◌, codes, length, nat_lt}
use Rattle.std.specs.Option.{option_map_or}
use Rattle.std.specs.Fmt.{decimal}
use Rattle.pf_journal.specs.Lines.{ends_in}
use Rattle.pf_text.specs.FileName.{file_text}
use Rattle.pf_session.specs.Session.{SessionState}
use Rattle.pf_stream.specs.Reading.{longest_script}
use Rattle.pf_journal_file.specs.declared.sizes.Sizes.{Sizes}

-- after the heading of its script; the events that its desk holds, and the slots that it stepped
abbrev pub sizes_of : SessionState → ℕ → Sizes
sizes_of s cut = record {
  records = ends_in s.script - 1;
  events = option_map_or (λ d. length d.plan.events) s.course.desk 0;
  slots = option_map_or (λ d. d.now) s.course.desk 0;
  cut = cut;
  is_long = nat_lt longest_script (length s.script);
}

-- how many bytes were cut, where some were
abbrev pub cut_text : ℕ → List ℕ
cut_text cut = if cut == 0 then [] else codes "; cut " ++ (decimal cut ++ codes " bytes")

-- that the script is longer than one may be, where it is, and the end of the line
abbrev pub long_text : Bool → List ℕ
long_text true = codes "; the script is longer than 16777216 bytes: what is shown or saved of it may be refused\n"
long_text false = codes "\n"

abbrev pub counted_text : ℕ → List ℕ → List ℕ
counted_text count words = decimal count ++ words

-- `FILE: R records, E events, N slots`
abbrev pub sizes_line : List ℕ → Sizes → List ℕ
sizes_line file sizes =
    file_text file ++ (codes ": " ++ (counted_text sizes.records (codes " records, ") ++ (counted_text sizes.events (codes " events, ")
    ++ (counted_text sizes.slots (codes " slots") ++ (cut_text sizes.cut ++ long_text sizes.is_long)))))
