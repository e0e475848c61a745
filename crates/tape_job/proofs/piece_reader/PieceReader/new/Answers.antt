use Rattle.std.proofs.Common.{◌∙◌, ap, sym}
use Rattle.tape_job.specs.Lines.{raw_lines}
use Rattle.tape_job.specs.Pieces.{outcome, run_on}
use Rattle.tape_job.specs.Steps.{finish}
use Rattle.tape_job.proofs.TellingLemmas.{read_of_is}
use Rattle.tape_job.proofs.piece_reader.PieceReader.new.Goals as goal

pub returns-clause-all : goal.returns-clause-all
unfolding outcome
returns-clause-all c = λ input. ap (λ lines. finish (run_on lines (raw_lines input))) c.new.ensures.none ∙ sym (read_of_is input)
