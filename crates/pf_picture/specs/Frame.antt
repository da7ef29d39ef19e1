-- What stands before the blocks of a picture: its size, what it is in words, its styles, and its head.
use Rattle.std.specs.Prelude.{ℕ, Option, List, [], ◌++◌, codes}
use Rattle.std.specs.Fmt.{decimal}
use Rattle.std.specs.Option.{option_map_or}
use Rattle.pf_vocabulary.specs.Names.Slots.{unit_word}
use Rattle.pf_vocabulary.specs.declared.names.slot_length.SlotLength.{SlotLength}
use Rattle.pf_vocabulary.specs.declared.look.style.Style.{Style}
use Rattle.pf_vocabulary.specs.declared.look.style.Style.TheVariants.{Strips, Stairs}
use Rattle.pf_picture.specs.Element.{put, put_word}
use Rattle.pf_picture.specs.Scale.{Measures}
use Rattle.pf_picture.specs.declared.summary.Summary.{Summary}

unfoldable pub opening_text : ℕ → ℕ → List ℕ
opening_text width height =
    put (codes "<svg xmlns=\"http://www.w3.org/2000/svg\" lang=\"en\" role=\"img\" viewBox=\"0 0 ") width (put (codes " ") height
    (put (codes "\" width=\"") width (put (codes "\" height=\"") height (codes "\">\n"))))

-- what a reader of the page's text is told
unfoldable pub title_line : Summary → List ℕ
title_line sum =
    put (codes "<title>PD2 schedule, slots ") sum.from (put (codes " to ") sum.to (put (codes " of ") sum.stepped (codes "</title>\n")))

unfoldable pub settings_words : Summary → List ℕ
settings_words sum =
    put (codes "<desc>Tasks ") sum.shown (put (codes " of ") sum.listed (put (codes "; processors ") sum.processors
    (put (codes "; base ") sum.base (put (codes "; cap ") sum.cap (codes "; ")))))

unfoldable pub counts_words : Summary → List ℕ
counts_words sum = put (codes "missed windows ") sum.missed (put (codes "; denied events ") sum.denied (codes ".</desc>\n"))

-- the styles by their classes; c0 to c11 are the colours of the tasks, light and dark ones in turn
unfoldable pub style_text : List ℕ
style_text =
    codes "<style>text{font:10px monospace;fill:#222}.n{text-anchor:middle;fill:#000}.i{fill:#fff}.a{text-anchor:middle;fill:#555}"
    ++ codes ".m{text-anchor:end}.f{fill:#fff}.g{stroke:#eee}.h{stroke:#bbb}.w{fill:none;stroke:#456}"
    ++ codes ".v{fill:none;stroke:#c00;stroke-width:2}.e{stroke:#456;stroke-dasharray:2 2}.q{stroke:#456}"
    ++ codes ".t{stroke:#c00;stroke-width:2}.o{stroke:#c00;stroke-dasharray:1 1}.d{fill:#456}.l{stroke:#456;stroke-dasharray:4 2}"
    ++ codes ".b{fill:#cde}.s,.y{fill:#ddd}.u{fill:#888}.z{stroke:#999;stroke-dasharray:1 2}.k{fill:none;stroke:#06c}"
    ++ codes ".x{fill:none;stroke:#c00;stroke-width:2}.r{fill:#b00}.j{fill:#080}.c0{fill:#fdb}.c1{fill:#755}.c2{fill:#3b3}"
    ++ codes ".c3{fill:#00d}.c4{fill:#b99}.c5{fill:#035}.c6{fill:#b9f}.c7{fill:#570}.c8{fill:#ddf}.c9{fill:#37b}"
    ++ codes ".c10{fill:#bf0}.c11{fill:#330}@media screen and (prefers-color-scheme:dark){text{fill:#ddd}.a{fill:#aaa}"
    ++ codes ".f{fill:#16181d}.g{stroke:#26292f}.h{stroke:#50555d}.w,.e,.q,.l{stroke:#9ab}.d{fill:#9ab}.b{fill:#354a63}"
    ++ codes ".s{fill:#3a3d44}.u{fill:#666}.z{stroke:#777}.k{stroke:#6bf}.v,.t,.o,.x{stroke:#f66}.r{fill:#f88}.j{fill:#5c5}}"
    ++ codes "@media print{svg{max-width:100%;height:auto}}</style>\n"

unfoldable pub background_text : ℕ → ℕ → List ℕ
background_text width height = put (codes "<rect class=\"f\" width=\"") width (put (codes "\" height=\"") height (codes "\"/>\n"))

-- how long a slot is, where that is told
unfoldable pub length_words : SlotLength → List ℕ
length_words slot = put (codes ", ") slot.length (put_word (codes " ") (unit_word slot.unit) (codes " each"))

abbrev pub each_words : Option SlotLength → List ℕ
each_words slot = option_map_or length_words slot []

-- which of the slots are shown
unfoldable pub range_line : Summary → List ℕ → List ℕ
range_line sum each =
    put (codes "<text x=\"8\" y=\"16\">slots ") sum.from (put (codes " to ") sum.to (put (codes " of ") sum.stepped
    (put_word [] each (put (codes "; processors ") sum.processors (codes "</text>\n")))))

-- the settings, and how many quanta a strip of a lag has
unfoldable pub strips_words : Style → ℕ → List ℕ
strips_words Strips strips = codes "; lag strips " ++ decimal strips
strips_words Stairs strips = []

unfoldable pub settings_line : Summary → List ℕ → List ℕ
settings_line sum strips =
    put (codes "<text x=\"8\" y=\"30\">base ") sum.base (put (codes "; cap ") sum.cap (put_word [] strips (codes "</text>\n")))

unfoldable pub tasks_line : Summary → List ℕ
tasks_line sum =
    put (codes "<text x=\"8\" y=\"44\">tasks ") sum.shown (put (codes " of ") sum.listed (put (codes "; missed windows ") sum.missed
    (put (codes "; denied events ") sum.denied (codes "</text>\n"))))

-- what stands before the blocks of a picture of this height
unfoldable pub front_text : Measures → ℕ → Summary → List ℕ
front_text s height sum =
    opening_text s.width height ++ title_line sum ++ settings_words sum ++ counts_words sum ++ style_text ++ background_text s.width height
    ++ range_line sum (each_words s.slot) ++ settings_line sum (strips_words s.style s.strips) ++ tasks_line sum
