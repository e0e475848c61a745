use Rattle.sync_types.proofs.Replays.{all_have_ends}
use Rattle.sync_types.proofs.laws.a_run_that_is_over_has_all_ends.Goals as goal

pub returns : goal.returns
returns c = all_have_ends
