use Rattle.tape_job.proofs.LibraryLemmas.{library_adds, library_named}
use Rattle.tape_job.proofs.programs.Library.push.Goals as goal

pub returns-clause-exact : goal.returns-clause-exact
returns-clause-exact c = library_adds _ _ _ _ _ c.push_to.result c.self.view_is c.self.invariant c.push_to.ensures.exact

pub invariant_of-self : goal.invariant_of-self
invariant_of-self c = library_named _ _ _ c.self.invariant c.push_to.ensures.named
