-- Worked examples: what the definitions give for numbers and tables that were worked out by hand.
use Rattle.std.proofs.Common.{◌≡◌, pos, negsuc, [], ◌∷◌, ◌++◌, codes, decimal, refl}
use Rattle.pf_text.specs.Columns.Columns.{width_of, padded_from, without_end_blanks, row_line, columns_text}
use Rattle.pf_text.specs.Columns.Decimals.{last_digits, with_places, with_fewest_places, up, signed_cut}

-- 36 of 66 are 0.54545..; 1 of 3 is 0.3333..
rounded_up : up 36 66 4 ≡ decimal 0 ++ codes "." ++ codes "5455"
unfolding last_digits with_places
rounded_up = refl

exact : up 1 2 4 ≡ decimal 0 ++ codes "." ++ codes "5000"
unfolding last_digits with_places
exact = refl

-- 4 processors and 1 of 100,000 more are not shown as 4
above_four : up 400001 100000 4 ≡ decimal 4 ++ codes "." ++ codes "0001"
unfolding last_digits with_places
above_four = refl

cut_off : signed_cut (pos 2) 3 3 ≡ decimal 0 ++ codes "." ++ codes "666"
unfolding last_digits with_places
cut_off = refl

below_zero : signed_cut (negsuc 3) 5 3 ≡ codes "-" ++ (decimal 0 ++ codes "." ++ codes "800")
unfolding last_digits with_places
below_zero = refl

-- -1 of 10,000 has no digit that is shown
no_sign : signed_cut (negsuc 0) 10000 3 ≡ decimal 0 ++ codes "." ++ codes "000"
unfolding last_digits with_places
no_sign = refl

half : with_fewest_places 6 500000 ≡ decimal 0 ++ codes "." ++ codes "5"
unfolding last_digits with_places with_fewest_places
half = refl

whole : with_fewest_places 6 500000000 ≡ decimal 500
unfolding last_digits with_places with_fewest_places
whole = refl

-- two columns, of which the first is three wide
laid_out : columns_text ((codes "a" ∷ codes "b" ∷ []) ∷ (codes "ccc" ∷ [] ∷ []) ∷ (codes "d d" ∷ codes "e" ∷ []) ∷ []) ≡ codes "a    b\nccc\nd d  e\n"
unfolding width_of padded_from without_end_blanks row_line
laid_out = refl
