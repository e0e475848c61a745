use Rattle.std.proofs.Common.{◌≡◌, ◌∙◌, ◌+◌, length, ap, sym, refl}
use Rattle.tape_job.proofs.LibraryLemmas.{length_with}
use Rattle.tape_job.proofs.programs.Library.is_full.Goals as goal

pub returns-in-Some : goal.returns-in-Some
returns-in-Some c =
    let one : length (c.args.self.now) ≡ c.len.result + 1 =
    sym (ap length c.self.view_is) ∙ length_with c.self.inside.resolved.entries c.self.inside.last c.in-Some.field-0 (cc) ∙ ap (λ n. n + 1) (sym c.len.ensures.len) in
    rw one refl
