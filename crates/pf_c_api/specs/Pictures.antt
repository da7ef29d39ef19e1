-- Pictures.
use Rattle.std.specs.Prelude.{ℕ, ◌≡◌, ◌==◌, if◌then◌else◌, Option, None, Some, List}
use Rattle.pf_vocabulary.specs.Look.Sizes.{cell_of, wrap_of}
use Rattle.pf_vocabulary.specs.declared.look.look.Look.{Look}
use Rattle.pf_vocabulary.specs.declared.look.style.Style.{Style}
use Rattle.pf_vocabulary.specs.declared.look.style.Style.TheVariants.{Stairs, Strips}
use Rattle.pf_vocabulary.specs.declared.options.format.Format.TheVariants.{Svg}
use Rattle.pf_c_api.specs.declared.held.Held.{Held}
use Rattle.pf_c_api.specs.declared.raw_look.RawLook.{RawLook}
use Rattle.pf_c_api.specs.declared.raw_look.TheConstants.{STAIRS, STRIPS}
use Rattle.pf_c_forms.specs.declared.status.TheConstants.{OUT_OF_RANGE}
use Rattle.pf_c_api.specs.Texts.{TellsFormat, slots_between}

abbrev pub style_in : ℕ → Option Style
style_in number = if number == STRIPS then Some Strips else if number == STAIRS then Some Stairs else None

-- a look of these, where there is each of them
abbrev pub look_of : Option ℕ → Option ℕ → Option Style → Option Look
look_of None wrap style = None
look_of (Some cell) None style = None
look_of (Some cell) (Some wrap) None = None
look_of (Some cell) (Some wrap) (Some style) = Some (record { cell = cell; wrap = wrap; style = style })

-- the look that is meant, where its numbers are within their limits
abbrev pub look_in : RawLook → Option Look
look_in raw = look_of (cell_of raw.cell) (wrap_of raw.wrap) (style_in raw.style)

-- the room has the picture of slots that can be drawn; or they cannot, or there is no such look
abbrev pub TellsPicture : Option Look → ℕ → ℕ → Held → ℕ → ℕ → List ℕ → List ℕ → Type 0
TellsPicture None from to held status count room filled = status ≡ OUT_OF_RANGE
TellsPicture (Some look) from to held status count room filled =
    TellsFormat (Svg (slots_between from to) look) held status count room filled
