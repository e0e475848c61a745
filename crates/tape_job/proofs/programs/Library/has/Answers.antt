use Rattle.std.proofs.Common.{◌∙◌, sym, ◌≡◌, true, false, refl}
use Rattle.tape_job.specs.Rules.{has_program}
use Rattle.tape_job.proofs.LibraryLemmas.{has_either}
use Rattle.tape_job.proofs.programs.Library.has.Goals as goal

pub returns-then-has_resolved : goal.returns-then-has_resolved
returns-then-has_resolved c =
    let here : has_program c.self.inside.resolved.entries c.args.name.now ≡ true = sym c.has_resolved.ensures ∙ c.if-has_resolved.true in
    rw (← c.self.view_is, has_either, here, c.if-has_resolved.true) refl

pub returns-else-has_resolved : goal.returns-else-has_resolved
returns-else-has_resolved c =
    let not_here : has_program c.self.inside.resolved.entries c.args.name.now ≡ false = sym c.has_resolved.ensures ∙ c.if-has_resolved.false in
    rw (← c.self.view_is, has_either, not_here) c.is_last.ensures
