use Rattle.channel_machine.proofs.Pasts.{grant-got, stands-got}
use Rattle.channel_machine.proofs.RunLaws.{counted, few_blocks, grant_then, in_range_then, stands_then}
use Rattle.channel_machine.proofs.laws.segments_join.Goals as goal

pub returns-clause-stand : goal.returns-clause-stand
returns-clause-stand c s c' axis = stands_then s c' axis

pub returns-clause-range : goal.returns-clause-range
returns-clause-range c s c' starts axis = in_range_then s c' starts axis

pub returns-clause-owned : goal.returns-clause-owned
returns-clause-owned c s c' = grant_then s c'

pub returns-clause-counted : goal.returns-clause-counted
returns-clause-counted c s c' = counted s c'

pub returns-clause-few : goal.returns-clause-few
returns-clause-few c s c' few = few_blocks s c' few

pub returns-clause-placed : goal.returns-clause-placed
returns-clause-placed c s c' grant axis = stands-got s c'.past grant axis

pub returns-clause-granted : goal.returns-clause-granted
returns-clause-granted c s c' grant = grant-got s c'.past grant
