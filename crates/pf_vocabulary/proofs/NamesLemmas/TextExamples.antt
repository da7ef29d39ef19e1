-- What is a name and what is none, computed from the definitions.
use Rattle.std.proofs.Common.{◌≡◌, [], ◌∷◌, Some, None, true, false, refl, codes}
use Rattle.pf_vocabulary.specs.declared.names.fault.NameFault.TheVariants.{HasName, IsOf}
use Rattle.pf_vocabulary.specs.Names.Names.{name_fault, task_of, with_name}
use Rattle.pf_vocabulary.specs.Names.Text.{is_text}

pub a-name : is_text (codes "camera +2_a.b-c") ≡ true
unfolding is_text
a-name = refl

pub of-24-bytes : is_text (codes "abcdefghijklmnopqrstuvwx") ≡ true
unfolding is_text
of-24-bytes = refl

pub of-25-bytes : is_text (codes "abcdefghijklmnopqrstuvwxy") ≡ false
unfolding is_text
of-25-bytes = refl

pub of-no-byte : is_text [] ≡ false
unfolding is_text
of-no-byte = refl

pub a-digit-first : is_text (codes "9x") ≡ false
unfolding is_text
a-digit-first = refl

pub a-space-last : is_text (codes "x ") ≡ false
unfolding is_text
a-space-last = refl

pub a-quote : is_text (codes "x'") ≡ false
unfolding is_text
a-quote = refl

-- names stand by task, and are told by their tasks and back
pub by-task : with_name (with_name [] 7 (codes "camera")) 2 (codes "lidar")
    ≡ record { task = 2; name = codes "lidar" } ∷ record { task = 7; name = codes "camera" } ∷ []
by-task = refl

pub named-twice : name_fault (with_name [] 7 (codes "camera")) 7 (codes "lidar") ≡ Some HasName
named-twice = refl

pub taken : name_fault (with_name [] 7 (codes "camera")) 2 (codes "camera") ≡ Some (IsOf 7)
taken = refl

-- names are compared byte for byte
pub another : task_of (with_name [] 7 (codes "camera")) (codes "Camera") ≡ None
another = refl
