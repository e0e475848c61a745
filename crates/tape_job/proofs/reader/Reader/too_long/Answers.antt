-- The line ends its program where it begins with '%', and is then too long.
use Rattle.std.proofs.Common.{◌∙◌, ap, sym, Some}
use Rattle.std.specs.Option.{option_or}
use Rattle.job_lines.specs.declared.code.Code.TheVariants.{LineTooLong}
use Rattle.tape_job.specs.Rules.{refusal}
use Rattle.tape_job.proofs.PieceLemmas.{long_trial, same_end}
use Rattle.tape_job.proofs.reader.Reader.too_long.Goals as goal

pub returns-in-Some-clause-exact : goal.returns-in-Some-clause-exact
returns-in-Some-clause-exact c = λ line long same.
    long_trial c.args.self.now c.args.number line long
    ∙ ap (λ found. option_or found (Some (refusal LineTooLong c.args.number))) (same_end c.args.self.now.job line c.args.front.now same ∙ sym c.in-Some.ensures.value)

pub returns-in-None-clause-exact : goal.returns-in-None-clause-exact
returns-in-None-clause-exact c = λ line long same.
    long_trial c.args.self.now c.args.number line long
    ∙ ap (λ found. option_or found (Some (refusal LineTooLong c.args.number))) (same_end c.args.self.now.job line c.args.front.now same ∙ sym c.in-None.ensures.value)
    ∙ ap (λ r. Some r) (sym c.refusal.ensures.value)
