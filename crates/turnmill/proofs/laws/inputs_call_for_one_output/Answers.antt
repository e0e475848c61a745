use Rattle.turnmill.proofs.OneOutput.{one_output}
use Rattle.turnmill.proofs.laws.inputs_call_for_one_output.Goals as goal

pub returns : goal.returns
returns c input status other bytes others one two = one_output input status other bytes others one two
