use Rattle.product_run.proofs.Switching.{owns_its_grant, switches_what_it_holds}
use Rattle.product_run.proofs.laws.segments_switch_what_they_hold.Goals as goal

pub returns-clause-owns : goal.returns-clause-owns
returns-clause-owns c job cs channel grant = owns_its_grant job cs channel grant

pub returns-clause-holds : goal.returns-clause-holds
returns-clause-holds c job cs channel = switches_what_it_holds job cs channel
