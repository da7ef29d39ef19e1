-- How a picture looks.
use Rattle.std.specs.Prelude.{ℕ, if◌then◌else◌, List, Option, None, Some, codes}
use Rattle.std.specs.Str.{bytes_eq}
use Rattle.pf_vocabulary.specs.Look.Sizes.{usual_cell, usual_wrap}
use Rattle.pf_vocabulary.specs.declared.look.look.Look.{Look}
use Rattle.pf_vocabulary.specs.declared.look.style.Style.{Style}
use Rattle.pf_vocabulary.specs.declared.look.style.Style.TheVariants.{Stairs, Strips}

-- how a picture looks where nothing is said of it
abbrev pub usual_look : Look
usual_look = record { cell = usual_cell; wrap = usual_wrap; style = Strips }

-- the style of this name
abbrev pub style_named : List ℕ → Option Style
style_named name = if bytes_eq name (codes "strips") then Some Strips else if bytes_eq name (codes "stairs") then Some Stairs else None
