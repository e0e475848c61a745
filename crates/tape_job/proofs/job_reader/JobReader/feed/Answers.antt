use Rattle.std.proofs.Common.{◌≡◌, ◌∙◌, ℕ, ◌+◌, length, length-append, sym, ap, subst}
use Rattle.tape_job.proofs.InputLemmas.{stops_in}
use Rattle.tape_job.proofs.job_reader.JobReader.feed.Goals as goal
use Rattle.tape_job.specs.Input.{ReaderView, HasTaken}

pub returns-in-Err-clause-taken : goal.returns-in-Err-clause-taken
returns-in-Err-clause-taken c = λ bytes taken.
    let reader : ReaderView = record { given = c.self.inside.given; progress = c.self.inside.progress } in
    let before : HasTaken reader bytes = subst (λ (v : ReaderView). HasTaken v bytes) (sym c.self.view_is) taken in
    record {
      number = ap (λ (n : ℕ). n + length c.args.piece.now) before.number ∙ sym (length-append bytes c.args.piece.now);
      leads = stops_in c.self.inside.progress c.go_on.new.progress c.in-Err.fault bytes c.args.piece.now c.in-Err.ensures.exact before.leads;
    }
