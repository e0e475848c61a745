use Rattle.std.proofs.Common.{◌∙◌}
use Rattle.tape_job.proofs.LibraryLemmas.{insert_entry-new_name}
use Rattle.tape_job.proofs.programs.insert_program.Goals as goal

pub returns-clause-exact : goal.returns-clause-exact
returns-clause-exact c = c.in_ok-insert.ensures.entries ∙ insert_entry-new_name c.args.programs.now.entries c.args.name c.args.program c.requires
