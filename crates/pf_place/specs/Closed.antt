-- The rows of a closed block, in either form.
use Rattle.std.specs.Prelude.{Option, List}
use Rattle.pf_order.specs.declared.pick.Pick.{Pick}
use Rattle.pf_place.specs.declared.closed_block.Form.{Form}
use Rattle.pf_place.specs.declared.closed_block.Form.TheVariants.{Packed, Plain}

-- these rows
abbrev pub rows_kept : Form → List (List (Option Pick))
rows_kept (Packed rows) = rows
rows_kept (Plain block) = block.rows
