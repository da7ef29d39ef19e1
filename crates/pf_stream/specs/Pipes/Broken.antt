-- Whether nobody reads any more.
use Rattle.std.specs.Prelude.{Bool, true, false, Result, Ok, Err}
use Rattle.std.specs.IoError.{error_kind}
use Rattle.std.specs.declared.io.Error.{Error}
use Rattle.std.specs.declared.io.ErrorKind.{ErrorKind}
use Rattle.std.specs.declared.io.ErrorKind.TheVariants.{BrokenPipe}

abbrev pub is_broken : ErrorKind → Bool
is_broken BrokenPipe = true
is_broken kind = false

abbrev pub is_broken_pipe : {A : Type 0} → Result A Error → Bool
is_broken_pipe (Ok done) = false
is_broken_pipe (Err e) = is_broken (error_kind e)
