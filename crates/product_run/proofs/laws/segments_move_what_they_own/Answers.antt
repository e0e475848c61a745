use Rattle.product_run.proofs.Motions.{has_got_last, moves_what_it_owns, stands_by_grants}
use Rattle.product_run.proofs.laws.segments_move_what_they_own.Goals as goal

pub returns-clause-moves : goal.returns-clause-moves
returns-clause-moves c job channel made grant = moves_what_it_owns job channel made grant

pub returns-clause-stands : goal.returns-clause-stands
returns-clause-stands c job channel made grant next axis = stands_by_grants job channel made grant next axis

pub returns-clause-granted : goal.returns-clause-granted
returns-clause-granted c job start cs channel grant = has_got_last job start cs channel grant
