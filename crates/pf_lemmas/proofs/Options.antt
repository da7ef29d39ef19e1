-- What options hold, and what results promise.
use Rattle.std.proofs.Common.{◌≡◌, ◌∙◌, cond, Option, Some, Result, Ok, Err, ℕ, List, ◌++◌}
use Rattle.std.specs.Prelude.{OnErr, OnOk}
use Rattle.std.specs.Result.{is_ok}

pub some_is : {X : Type 0} (x y : X) → ◌≡◌ {A = Option X} (Some x) (Some y) → x ≡ y
some_is x y e = cc

-- what holds anyway holds after an error
pub anyway : {A E : Type 0} (r : Result A E) (P : Type 0) → P → OnErr r P
anyway (Ok x) P h = tt
anyway (Err e) P h = h

-- what stood there before, and what was appended last
pub appended : {A E : Type 0} (r : Result A E) (new old text whole : List ℕ) → new ≡ cond (is_ok r) (old ++ text) old → old ++ text ≡ whole →
    OnOk r (new ≡ whole)
appended (Ok x) new old text whole last before = last ∙ before
appended (Err e) new old text whole last before = tt
