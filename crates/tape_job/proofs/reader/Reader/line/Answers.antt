use Rattle.std.proofs.Common.{◌∙◌, sym, ap}
use Rattle.tape_job.specs.Told.{Told}
use Rattle.tape_job.specs.Reading.{reading_view}
use Rattle.tape_job.proofs.BareLines.{bare_tells_nothing}
use Rattle.tape_job.proofs.FitLemmas.{line_fits, line_short}
use Rattle.tape_job.proofs.reader.Reader.line.Goals as goal

pub returns-then-is_bare-clause-exact : goal.returns-then-is_bare-clause-exact
returns-then-is_bare-clause-exact c =
    bare_tells_nothing c.args.self.now c.args.number c.args.raw.now (ap (λ (told : Told). told.in_programs) (sym c.self.view_is) ∙ c.if-self.true)
    (sym c.is_bare.ensures ∙ c.if-is_bare.true)

pub returns-in-Ok-clause-fits : goal.returns-in-Ok-clause-fits
returns-in-Ok-clause-fits c = λ all. line_fits c.args.self.now c.tell.new.self (c.args.number, c.args.raw.now) (reading_view c.in_ok-reading.reading) c.in_ok-reading.ensures.exact.0 c.in_ok-reading.ensures.fits all c.in-Ok.ensures.exact.1

pub returns-in-Ok-clause-count : goal.returns-in-Ok-clause-count
returns-in-Ok-clause-count c = line_short c.args.self.now c.tell.new.self (c.args.number, c.args.raw.now) c.in-Ok.ensures.exact.1
