-- The machine's fields.
use Rattle.schedule_laws.proofs.MachineRuns.{fields_told}
use Rattle.schedule_laws.proofs.runs.fields_are_those_of_the_run.Goals as goal

pub returns : goal.returns
returns c = λ start moves i sound run inside. fields_told start moves i sound run inside
