-- The lines so far are said.
use Rattle.explain.specs.LineTexts.{AreSaid}
use Rattle.explain.proofs.line_texts.texts_of.Given as goal

abbrev pub invariant-loop-group : goal.invariant-loop-group
invariant-loop-group l = AreSaid l.told.lines.now l.told.job.now l.known
