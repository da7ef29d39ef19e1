-- Why a file of the operating system was not opened.
use Rattle.std.specs.IoError.{error_kind}
use Rattle.std.specs.declared.io.ErrorKind.{ErrorKind}
use Rattle.std.specs.declared.io.ErrorKind.TheVariants as kind
use Rattle.sqlite_std_file.specs.declared.pair.OpenError.{OpenError}
use Rattle.sqlite_std_file.specs.declared.pair.OpenError.TheVariants as host
use Rattle.pf_journal_file.specs.declared.journals.OpenFault.{OpenFault}
use Rattle.pf_journal_file.specs.declared.journals.OpenFault.TheVariants as opening

-- beside a file there may lie a rollback journal, which makes of it a database that is in need of that
abbrev pub fault_of_host : OpenError → OpenFault
fault_of_host (host.Io why) = opening.Failed (error_kind why)
fault_of_host host.OutOfMemory = opening.NoMemory
fault_of_host host.Busy = opening.Busy
fault_of_host host.HotJournal = opening.Failed kind.Other

-- why a file that was opened is not watched, by the kind of the failure: one that is locked is in use
abbrev pub fault_of_watching : ErrorKind → OpenFault
fault_of_watching kind.WouldBlock = opening.Busy
fault_of_watching other = opening.Failed other
