use Rattle.product_run.proofs.FittingGrants.{grants_fit}
use Rattle.product_run.proofs.laws.grants_fit_their_channels.Goals as goal

pub returns : goal.returns
returns c job cs channel grant = grants_fit job cs channel grant
