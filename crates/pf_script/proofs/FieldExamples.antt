-- Corners of fields, computed from the definitions.
use Rattle.std.proofs.Common.{◌≡◌, [], ◌∷◌, Some, None, true, false, refl, codes}
use Rattle.pf_script.specs.Fields.{is_word, is_record_of}
use Rattle.pf_text.specs.Numbers.{number_of}

-- leading zeros are allowed
pub leading-zeros : number_of (codes "007") ≡ Some 7
unfolding number_of
leading-zeros = refl

-- 15 digits are a number, 16 are none
pub fifteen-digits : number_of (codes "999999999999999") ≡ Some 999999999999999
unfolding number_of
fifteen-digits = refl

pub sixteen-digits : number_of (codes "0000000000000001") ≡ None
unfolding number_of
sixteen-digits = refl

-- no byte is no number, and a sign is no digit
pub no-digit : number_of [] ≡ None
unfolding number_of
no-digit = refl

pub a-sign : number_of (codes "+0") ≡ None
unfolding number_of
a-sign = refl

-- words are compared byte for byte
pub a-word : is_record_of (codes "leave" ∷ codes "1" ∷ []) (codes "leave") 2 ≡ true
unfolding is_word
a-word = refl

pub another-word : is_word (codes "Leave" ∷ []) 0 (codes "leave") ≡ false
unfolding is_word
another-word = refl

pub no-word : is_word (codes "leave" ∷ []) 1 (codes "leave") ≡ false
unfolding is_word
no-word = refl
