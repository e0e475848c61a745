use Rattle.std.proofs.Common.{◌≡◌, sym, true}
use Rattle.micro_units.specs.NumberText.{number_of}
use Rattle.job_lines.specs.Length.{size_of, is_size}
use Rattle.job_lines.proofs.LengthLemmas.{none_from_fault}
use Rattle.job_lines.proofs.length.size_in.Goals as goal

pub returns-in-Err : goal.returns-in-Err
unfolding size_of
returns-in-Err c =
    let size : is_size c.args.text.now ≡ true = sym c.if-not-is_size.ensures in
    rw size (none_from_fault (number_of c.args.text.now) c.parse.result c.in-Err.field-0 c.in-Err.is c.parse.ensures)
