-- Why a file can't be read.
use Rattle.std.specs.Prelude.{ℕ, List, ◌++◌, codes}
use Rattle.std.specs.declared.io.ErrorKind.{ErrorKind}
use Rattle.std.specs.declared.io.ErrorKind.TheVariants as kind
use Rattle.pf_script.specs.declared.fault_notes.file_fault.FileFault.{FileFault}
use Rattle.pf_script.specs.declared.fault_notes.file_fault.FileFault.TheVariants.{Missing, Folder, Denied, NoFolder, TooLong, Unread}
use Rattle.pf_text.specs.FileName.{file_text}

-- the fault that a kind of failure tells of
abbrev pub file_fault_of : ErrorKind → FileFault
file_fault_of kind.NotFound = Missing
file_fault_of kind.IsADirectory = Folder
file_fault_of kind.PermissionDenied = Denied
file_fault_of kind.NotADirectory = NoFolder
file_fault_of _ = Unread

abbrev pub file_fault_text : FileFault → List ℕ
file_fault_text Missing = codes "no such file"
file_fault_text Folder = codes "is a folder"
file_fault_text Denied = codes "permission denied"
file_fault_text NoFolder = codes "a part of its path is no folder"
file_fault_text TooLong = codes "it has more than 16777216 bytes"
file_fault_text Unread = codes "cannot be read"

-- `FILE: WHY`, as a line
abbrev pub file_fault_line : List ℕ → FileFault → List ℕ
file_fault_line file fault = file_text file ++ codes ": " ++ file_fault_text fault ++ codes "\n"
