-- The formats of a fit, by their names.
use Rattle.std.specs.Prelude.{ℕ, if◌then◌else◌, List, Option, None, Some, codes}
use Rattle.std.specs.Str.{bytes_eq}
use Rattle.pf_vocabulary.specs.declared.options.fit_format.FitFormat.{FitFormat}
use Rattle.pf_vocabulary.specs.declared.options.fit_format.FitFormat.TheVariants.{Text, Json}

abbrev pub fit_format_named : List ℕ → Option FitFormat
fit_format_named name =
    if bytes_eq name (codes "text") then Some Text
    else if bytes_eq name (codes "json") then Some Json
    else None
