use Rattle.std.proofs.Common.{ap}
use Rattle.tape_job.proofs.LibraryLemmas.{inserted_library}
use Rattle.tape_job.proofs.programs.Library.begin.Goals as goal

pub invariant_of-self-in-Some : goal.invariant_of-self-in-Some
invariant_of-self-in-Some c =
    inserted_library _ c.self.inside.resolved.entries c.insert_program.new.programs.entries c.self.inside.last c.replace.new.self c.in-Some.last
    (c.in_ok-name-in-Some.name, c.in_ok-name-in-Some.program) c.new.result c.args.name c.insert_program.result
    c.self.view_is c.requires.named c.in-Some.ensures.value c.in_ok-name-in-Some.ensures c.in-Some.ensures.after (ap (λ p. p.0) c.new.ensures)
    c.insert_program.ensures.exact c.insert_program.ensures.unchanged
