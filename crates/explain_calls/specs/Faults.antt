-- Meaning. With which status a call ends whose input was not read.
use Rattle.exit_statuses.specs.declared.Status.{Status}
use Rattle.exit_statuses.specs.declared.Status.TheVariants as ends
use Rattle.explain_calls.specs.declared.files.InputFault.{InputFault}
use Rattle.explain_calls.specs.declared.files.InputFault.TheVariants as faults

-- the status of an input that could not be read, has too many bytes, or found no memory
abbrev pub status_of_fault : InputFault → Status
status_of_fault (faults.Failed error) = ends.ReadFault
status_of_fault faults.TooLong = ends.TooLong
status_of_fault faults.NoMemory = ends.NoMemory
