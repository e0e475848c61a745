use Rattle.sync_types.proofs.Replays.{sequential_is_one}
use Rattle.sync_types.proofs.laws.the_sequential_run_is_one.Goals as goal

pub returns : goal.returns
returns c = sequential_is_one
