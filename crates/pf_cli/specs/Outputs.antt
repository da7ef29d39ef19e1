-- An answer that is written to a file.
use Rattle.std.specs.Prelude.{ℕ, Bool, ◌==◌, ◌&&◌, ◌||◌, List, ◌++◌, codes}
use Rattle.std.specs.declared.io.ErrorKind.{ErrorKind}
use Rattle.std.specs.declared.io.ErrorKind.TheVariants as kind
use Rattle.pf_text.specs.FileName.{file_text}

-- whether all was written, by the status: done, or done and failing on what was listed, or a test's answer, some of which was written
abbrev pub is_whole : ℕ → Bool → Bool → Bool
is_whole status is_test is_opened = (status == 0) || (status == 6) || ((status == 1) && is_test && is_opened)

-- why a file can't be written
abbrev pub output_fault_text : ErrorKind → List ℕ
output_fault_text kind.NotFound = codes "no such folder"
output_fault_text kind.IsADirectory = codes "is a folder"
output_fault_text kind.PermissionDenied = codes "permission denied"
output_fault_text kind.NotADirectory = codes "a part of its path is no folder"
output_fault_text _ = codes "cannot be written"

abbrev pub output_fault_line : List ℕ → ErrorKind → List ℕ
output_fault_line file kind = file_text file ++ codes ": " ++ output_fault_text kind ++ codes "\n"
