-- What is shown as one JSON value.
use Rattle.std.specs.Prelude.{Bool, true, false}
use Rattle.pf_vocabulary.specs.declared.options.format.Format.TheVariants as format
use Rattle.pf_session_lines.specs.declared.wanted.Wanted.{Wanted}
use Rattle.pf_session_lines.specs.declared.wanted.Wanted.TheVariants as wanted

-- whether what is shown is one JSON value
abbrev pub is_value : Wanted → Bool
is_value (wanted.Report format.Report) = true
is_value (wanted.Report format.Full) = true
is_value (wanted.Report format.Trace) = true
is_value w = false
