use Rattle.speed_laws.proofs.Histories.{channels_have_histories}
use Rattle.speed_laws.proofs.channels_have_histories.Goals as goal

pub returns : goal.returns
returns c = channels_have_histories
